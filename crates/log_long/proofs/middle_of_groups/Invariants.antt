-- `log_long::middle_of_groups` meets its contract. Its loop's invariant says nothing of what the cells hold.
use Rattle.std.proofs.Common.{◌≡◌, length}
use Rattle.log_long.proofs.middle_of_groups.Given as goal

abbrev pub invariant-loop-i : goal.invariant-loop-i
invariant-loop-i l = length l.cells ≡ 110
