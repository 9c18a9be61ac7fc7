-- `pair_sort::partition` meets its contract.
use Prim.Native.Nat.{◌≤◌}
use Rattle.pair_moves.specs.Pairs.{SamePairs}
use Rattle.pair_sort.proofs.partition.Given as goal

abbrev pub invariant-loop-k : goal.invariant-loop-k
invariant-loop-k l = SamePairs l.initial.s l.s × (l.l ≤ l.i) × (l.i ≤ l.k) × (l.k ≤ l.r)
