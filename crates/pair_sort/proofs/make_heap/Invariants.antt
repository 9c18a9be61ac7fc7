-- `pair_sort::make_heap` meets its contract.
use Rattle.pair_moves.specs.Pairs.{SamePairs}
use Rattle.pair_sort.proofs.make_heap.Given as goal

abbrev pub invariant-loop-k : goal.invariant-loop-k
invariant-loop-k l = SamePairs l.initial.s l.s
