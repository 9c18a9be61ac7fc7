-- `change_list::check_changes` meets its contract.
use Rattle.std.proofs.Common.{arith}
use Rattle.change_list.proofs.Sums.{none_passed, bad-change, next-change, all-passed}
use Rattle.change_list.proofs.check_changes.Goals as goal

pub loop-k-init : goal.loop-k-init
loop-k-init c = none_passed _ _ _ _ _ c.requires.1

pub head-h-requires : goal.head-h-requires
head-h-requires c = omega (arith, c.loop-k-test.true)

pub check_change-requires : goal.check_change-requires
check_change-requires c = (c.requires.0, c.loop-k.invariant.stands)

pub returns-in_err-cur : goal.returns-in_err-cur
returns-in_err-cur c = rw c.from_residual.ensures
    (bad-change _ _ _ _ _ _ _ _ c.loop-k.invariant c.loop-k-test.true c.head-h.ensures c.in_err-cur.ensures)

pub loop-k-preserved : goal.loop-k-preserved
loop-k-preserved c = next-change _ _ _ _ _ _ _ _ _ c.loop-k.invariant c.loop-k-test.true c.head-h.ensures c.in_ok-cur.ensures

pub returns : goal.returns
returns c = all-passed _ _ _ _ _ _ c.loop-k.cur c.loop-k.invariant c.loop-k-test.false
