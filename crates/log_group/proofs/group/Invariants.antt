-- `log_group::group` meets its contract.
use Rattle.log_group.proofs.Chains.{Grouping}
use Rattle.log_group.proofs.group.Given as goal

abbrev pub invariant-loop-i : goal.invariant-loop-i
invariant-loop-i l = Grouping l.g l.log l.initial.work l.work l.i
