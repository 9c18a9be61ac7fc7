-- `commit_log::commit_grid` meets its contract: the grid and the tests say which refusal is due; past them the tests
-- have found all that applying the log asks, and the records in use are counted anew.
use Rattle.std.proofs.Common.{arith, sym}
use Rattle.std.proofs.lemmas.Result.{err_from_is_err_and}
use Rattle.grid.proofs.Facts.{grid-facts}
use Rattle.commit_log.proofs.Answers.{refuse, ready, accept, on-grid, no-grid}
use Rattle.commit_log.proofs.commit_grid.Goals as goal

pub returns-in_err-g : goal.returns-in_err-g
returns-in_err-g c =
    let p = err_from_is_err_and c.from_residual.result c.from_residual.ensures.1 in
    rw (p.1, p.2) (no-grid _ _ _ _ _ _ _ c.in_err-g.ensures.by)

pub check_log-requires : goal.check_log-requires
check_log-requires c = grid-facts _ _ _ (sym c.in_ok-g.ensures.is)

pub returns-in_err-check_log : goal.returns-in_err-check_log
returns-in_err-check_log c =
    let p = err_from_is_err_and c.from_residual-in_err-check_log.result c.from_residual-in_err-check_log.ensures.1 in
    rw (p.1, p.2) (on-grid _ _ _ _ _ _ _ _ _ _ c.in_ok-g.ensures.by (refuse _ _ _ _ _ _ _ c.in_err-check_log.ensures))

pub apply_log-changed-requires : goal.apply_log-changed-requires
apply_log-changed-requires c = ready _ _ _ _ _ _ (grid-facts _ _ _ (sym c.in_ok-g.ensures.is)) c.in_ok-check_log.ensures

pub count_used-total-requires : goal.count_used-total-requires
count_used-total-requires c = let r = c.in_ok-check_log.ensures.room in (omega (arith, r.in_spans), omega (arith, r.in_links))

pub overflow_add-left : goal.overflow_add-left
overflow_add-left c = omega (arith, c.in_ok-check_log.ensures.below)

pub returns : goal.returns
returns c =
    on-grid _ _ _ _ _ _ _ _ _ _ c.in_ok-g.ensures.by
    (accept _ _ _ _ _ _ c.in_ok-check_log.ensures
    c.slice_known-1.given
    c.shared_slice_known-2-1.given _ _ _
    c.apply_log-changed.ensures _
    c.count_used-total.ensures)
