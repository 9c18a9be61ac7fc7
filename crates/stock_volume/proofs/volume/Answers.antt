use mathlib.Core.Path.{sym, ◌∙◌}
use Rattle.std.proofs.lemmas.Result.{err_from_is_err_and}
use Rattle.grid.proofs.Facts.{grid-facts}
use Rattle.stock_volume.proofs.Answers.{volume-accepted, volume-refused}
use Rattle.store.specs.Store.{cells}
use Rattle.stock_volume.proofs.volume.Goals as goal

pub returns-in_err-g : goal.returns-in_err-g
returns-in_err-g c =
    let s = cells c.args.spans.now c.args.links.now c.args.heads.now in
    let p = err_from_is_err_and c.from_residual.result c.from_residual.ensures.1 in
    rw (p.1, p.2) (volume-refused c.args.spec c.args.units.now s c.args.intervals _
    (sym c.grid.ensures.is ∙ c.in_err-g.was))

pub measure-requires : goal.measure-requires
measure-requires c = grid-facts _ _ _ (sym c.grid.ensures.is ∙ c.in_ok-g.was)

pub returns : goal.returns
returns c = let s = cells c.args.spans.now c.args.links.now c.args.heads.now in
    volume-accepted c.args.spec c.args.units.now s c.args.intervals _ c.measure.result
    (sym c.grid.ensures.is ∙ c.in_ok-g.was) c.measure.ensures
