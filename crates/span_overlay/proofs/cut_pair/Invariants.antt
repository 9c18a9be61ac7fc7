-- `span_overlay::cut_pair` meets its contract.
use Prim.Native.Nat.{◌-◌}
use lib.ListN.{length}
use Rattle.span_overlay.proofs.Cutting.{Cutting}
use Rattle.span_overlay.proofs.cut_pair.Given as goal

abbrev pub invariant-loop-j : goal.invariant-loop-j
invariant-loop-j l = Cutting l.rest l.from l.hi l.initial.out l.n l.lo l.j l.end l.out

abbrev pub decreases-loop-j : goal.decreases-loop-j
decreases-loop-j l = length l.rest - l.j
