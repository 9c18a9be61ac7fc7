use mathlib.Core.Path.{sym, ◌∙◌}
use Rattle.std.proofs.lemmas.Result.{err_from_is_err_and}
use Rattle.grid.proofs.Facts.{grid-facts}
use Rattle.stock_fill.proofs.Answers.{fill-accepted, fill-refused}
use Rattle.store.specs.Store.{cells}
use Rattle.stock_fill.proofs.fill.Goals as goal

pub returns-in_err-g : goal.returns-in_err-g
returns-in_err-g c =
    let s = cells c.args.spans.now c.args.links.now c.args.heads.now in
    let p = err_from_is_err_and c.from_residual.result c.from_residual.ensures.1 in
    rw (p.1, p.2) (fill-refused c.args.spec c.args.units.now s _ (sym c.grid.ensures.is ∙ c.in_err-g.was))

pub fill_grid-requires : goal.fill_grid-requires
fill_grid-requires c = grid-facts _ _ _ (sym c.grid.ensures.is ∙ c.in_ok-g.was)

pub returns : goal.returns
returns c =
    let s = cells c.args.spans.now c.args.links.now c.args.heads.now in
    fill-accepted c.args.spec c.args.units.now s _ _ c.fill_grid.result
    (sym c.grid.ensures.is ∙ c.in_ok-g.was) c.fill_grid.ensures
