-- `pair_sort::sift` meets its contract.
use Prim.Native.Nat.{◌-◌}
use Rattle.pair_moves.specs.Pairs.{SamePairs}
use Rattle.pair_sort.proofs.sift.Given as goal

abbrev pub invariant-loop-i : goal.invariant-loop-i
invariant-loop-i l = SamePairs l.initial.s l.s

abbrev pub decreases-loop-i : goal.decreases-loop-i
decreases-loop-i l = l.n - l.i
