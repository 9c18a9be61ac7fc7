use mathlib.Core.Path.{sym, ◌∙◌}
use Rattle.stock.proofs.Causes.{room_of}
use Rattle.stock.proofs.Rays.{chained-of}
use Rattle.stock_volume.proofs.Answers.{measure-short, measure-bad, measure-done}
use Rattle.store.specs.Store.{cells}
use Rattle.stock_volume.proofs.measure.Goals as goal

pub returns-then-is_short : goal.returns-then-is_short
returns-then-is_short c = let s = cells c.args.spans.now c.args.links.now c.args.heads.now in
    measure-short c.args.spec c.args.g s c.args.intervals c.is_short.result
    c.is_short.ensures c.if-is_short.true

pub is_chained-requires : goal.is_chained-requires
is_chained-requires c = let s = cells c.args.spans.now c.args.links.now c.args.heads.now in
    room_of c.args.spec c.args.g s (sym c.is_short.ensures ∙ c.if-is_short.false)

pub returns-then-not-is_chained : goal.returns-then-not-is_chained
returns-then-not-is_chained c = let s = cells c.args.spans.now c.args.links.now c.args.heads.now in
    measure-bad c.args.spec c.args.g s c.args.intervals c.is_short.result
    c.is_chained.result c.is_short.ensures c.if-is_short.false
    c.is_chained.ensures c.if-not-is_chained.true

pub measure_rays-requires : goal.measure_rays-requires
measure_rays-requires c = let s = cells c.args.spans.now c.args.links.now c.args.heads.now in
    chained-of c.args.spec c.args.g s c.args.intervals c.is_chained.result
    (room_of c.args.spec c.args.g s
    (sym c.is_short.ensures ∙ c.if-is_short.false))
    c.is_chained.ensures c.if-not-is_chained.false

pub returns : goal.returns
returns c =
    let s = cells c.args.spans.now c.args.links.now c.args.heads.now in
    measure-done c.args.spec c.args.g s c.args.intervals
    c.is_short.result c.is_chained.result
    c.is_short.ensures c.if-is_short.false
    c.is_chained.ensures c.if-not-is_chained.false c.measure_rays.result c.measure_rays.ensures
