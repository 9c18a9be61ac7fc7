-- `commit_changes::commit_grid` meets its contract: the grid and the verdict say which refusal is due, or that no cause is present.
use Rattle.std.proofs.Common.{◌/◌, length, Ok, Err, arith, sym, refl}
use Rattle.std.proofs.lemmas.Result.{err_from_is_err_and}
use Rattle.grid.proofs.Facts.{grid-facts}
use Rattle.stock.specs.Stock.{stock}
use Rattle.commit_changes.proofs.Answers.{verdict-fitting, generation-steps, verdict-fits, grid-accepted, grid-refused}
use Rattle.commit_changes.proofs.commit_grid.Goals as goal

pub returns-in_err-g : goal.returns-in_err-g
returns-in_err-g c =
    let p = err_from_is_err_and c.from_residual.result c.from_residual.ensures.1 in
    rw (p.1, p.2) (grid-refused c.args.spec c.args.units.now
    (stock c.args.spans.now c.args.links.now c.args.heads.now c.args.generation c.args.intervals)
    c.args.changes.now c.args.pairs.now c.args.base _ c.in_err-g.ensures.by)

pub grid_verdict-requires : goal.grid_verdict-requires
grid_verdict-requires c = grid-facts _ _ _ (sym c.in_ok-g.ensures.is)

pub returns-in_err-total : goal.returns-in_err-total
returns-in_err-total c =
    let p = err_from_is_err_and c.from_residual-in_err-total.result c.from_residual-in_err-total.ensures.1 in
    rw (p.1, p.2) (grid-accepted c.args.spec c.args.units.now
    (stock c.args.spans.now c.args.links.now c.args.heads.now c.args.generation c.args.intervals)
    c.args.changes.now c.args.pairs.now c.args.base _ _ (Err c.in_err-total.field-0.0) c.in_ok-g.ensures.by (c.in_err-total.ensures, refl))

pub apply_changes-requires : goal.apply_changes-requires
apply_changes-requires c = (c.args.intervals, verdict-fitting _ _ _ _ _ _ _ c.in_ok-total.ensures)

pub overflow_add-left : goal.overflow_add-left
overflow_add-left c = omega (
  arith,
  generation-steps c.args.spec c.in_ok-g.g
      (stock c.args.spans.now c.args.links.now c.args.heads.now c.args.generation c.args.intervals)
      c.args.changes.now c.args.pairs.now c.args.base _ c.in_ok-total.ensures (omega (arith, c.ranges.generation)),
)

pub returns : goal.returns
returns c = grid-accepted c.args.spec c.args.units.now
    (stock c.args.spans.now c.args.links.now c.args.heads.now c.args.generation c.args.intervals)
    c.args.changes.now c.args.pairs.now c.args.base c.in_ok-g.g _ (Ok (length c.args.changes.now / 6)) c.in_ok-g.ensures.by
    (verdict-fits c.args.spec c.in_ok-g.g
    (stock c.args.spans.now c.args.links.now c.args.heads.now c.args.generation c.args.intervals)
    c.args.changes.now c.args.pairs.now c.args.base _ c.in_ok-total.ensures _ c.apply_changes.ensures)
