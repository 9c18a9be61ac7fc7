-- `pair_sort::heapsort` meets its contract.
use Prim.Native.Nat.{◌≤◌}
use Rattle.pair_moves.specs.Pairs.{SamePairs}
use Rattle.pair_sort.proofs.heapsort.Given as goal

abbrev pub invariant-loop-e : goal.invariant-loop-e
invariant-loop-e l = SamePairs l.initial.s l.s × (l.e ≤ l.n)
