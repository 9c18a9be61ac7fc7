-- `log_long::group_middle` meets its contract. Its loop's invariant says nothing of what the cells hold.
use Rattle.std.proofs.Common.{◌≡◌, length}
use Rattle.log_long.proofs.group_middle.Given as goal

abbrev pub invariant-loop-i : goal.invariant-loop-i
invariant-loop-i l = length l.cells ≡ 110
