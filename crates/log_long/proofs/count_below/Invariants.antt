-- `log_long::count_below` meets its contract. The loop's invariant: no more are counted than passed.
use Rattle.std.proofs.Common.{◌≤◌}
use Rattle.log_long.proofs.count_below.Given as goal

abbrev pub invariant-loop-key : goal.invariant-loop-key
invariant-loop-key l = l.k ≤ l.key-index
