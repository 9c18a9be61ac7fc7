use Rattle.std.proofs.Common.{sym, ◌∙◌}
use Rattle.std.proofs.lemmas.Result.{err_from_is_err_and}
use Rattle.frame.specs.Frame.{frame_of}
use Rattle.sweep_model.specs.Kernel.{profile_of}
use Rattle.sweep_model.specs.declared.Kernel.{Kernel}
use Rattle.grid.proofs.Facts.{grid-facts}
use Rattle.sweep.proofs.Answers.{sweep-refused, sweep-accepted, same-tool}
use Rattle.store.specs.Store.{cells}
use Rattle.sweep.proofs.sweep.Goals as goal

pub returns-in_err-g : goal.returns-in_err-g
returns-in_err-g c =
    let s = cells c.args.spans.now c.args.links.now c.args.heads.now in
    let k : Kernel = record { frame = frame_of c.args.axis; guard = c.args.guard } in
    let p = profile_of c.args.shape c.args.cutter in
    let r = err_from_is_err_and c.from_residual.result c.from_residual.ensures.1 in
    rw (r.1, r.2)
    (sweep-refused c.args.spec c.args.units.now k p s c.args.intervals c.args.chords.now
    c.args.budget c.args.log.now _ (sym c.grid.ensures.is ∙ c.in_err-g.was))

pub sweep_grid-requires : goal.sweep_grid-requires
sweep_grid-requires c = grid-facts _ _ _ (sym c.grid.ensures.is ∙ c.in_ok-g.was)

pub returns : goal.returns
returns c =
    let s = cells c.args.spans.now c.args.links.now c.args.heads.now in
    let f = c.frame.result in
    let p = c.profile_of-p.result in
    let k : Kernel = record { frame = f; guard = c.args.guard } in
    let h = sym c.grid.ensures.is ∙ c.in_ok-g.was in
    same-tool c.args.spec c.args.units.now s c.args.intervals c.args.guard c.args.chords.now
    c.args.budget c.args.log.now _ c.sweep_grid.result f (frame_of c.args.axis) p
    (profile_of c.args.shape c.args.cutter) c.frame.ensures
    c.profile_of-p.ensures
    (sweep-accepted c.args.spec c.args.units.now k p s c.args.intervals c.args.chords.now
    c.args.budget c.args.log.now _ _ c.sweep_grid.result h
    c.sweep_grid.ensures)
