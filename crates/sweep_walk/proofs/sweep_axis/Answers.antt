use Rattle.sweep_model.specs.SweepEntries.{Setting, setting}
use Rattle.sweep_walk.proofs.AxisRays.{few_rays, rect-ready, axis-none, axis-some}
use Rattle.store.specs.Store.{cells}
use Rattle.sweep_walk.proofs.sweep_axis.Goals as goal
use Rattle.sweep_walk.proofs.sweep_axis.Goals.{Start}

-- the setting of a call
abbrev here : Start → Setting
here a = setting a.args.spec a.args.g a.args.k a.args.p
    (cells a.args.spans.now a.args.links.now a.args.heads.now)

pub axis_rays-t-requires : goal.axis_rays-t-requires
axis_rays-t-requires c = few_rays c.args.spec c.args.g (cells c.args.spans.now c.args.links.now c.args.heads.now)
    c.requires.0

pub rectangle_of-rect-requires : goal.rectangle_of-rect-requires
rectangle_of-rect-requires c = c.requires.0.facts

pub returns-in-None : goal.returns-in-None
returns-in-None c =
    let s = here (goal.at.returns-in-None c).Start in
    axis-none s c.args.chord c.args.axis c.chord_on_axis-l.result
    c.rectangle_of-rect.result c.chord_on_axis-l.ensures
    c.rectangle_of-rect.ensures c.in-None.is c.requires.1

pub sweep_rect-requires : goal.sweep_rect-requires
sweep_rect-requires c =
    let q = rect-ready c.args.spec c.args.g
    (cells c.args.spans.now c.args.links.now c.args.heads.now) c.requires.0 c.args.p
    c.chord_on_axis-l.result c.args.axis
    c.axis_rays-t.result
    c.rectangle_of-rect.result _
    c.axis_rays-t.ensures
    c.rectangle_of-rect.ensures c.in-Some.is in
    (q.rays, q.row, q.rows, c.requires.1)

pub returns-in-Some : goal.returns-in-Some
returns-in-Some c =
    let s = here (goal.at.returns-in-Some c).Start in
    axis-some s c.args.chord c.args.axis _ _ _ _ c.sweep_rect.result
    c.chord_on_axis-l.result
    c.axis_rays-t.result
    c.rectangle_of-rect.result _
    c.chord_on_axis-l.ensures
    c.axis_rays-t.ensures
    c.rectangle_of-rect.ensures
    c.in-Some.is c.sweep_rect.ensures
