-- `pair_moves::place_pair` meets its contract.
use Rattle.pair_moves.proofs.Laws.{Aside}
use Rattle.pair_moves.proofs.place_pair.Given as goal

abbrev pub invariant-loop-j : goal.invariant-loop-j
invariant-loop-j l = Aside l.initial.s l.k l.j l.lo l.hi l.s

abbrev pub decreases-loop-j : goal.decreases-loop-j
decreases-loop-j l = l.j
