-- `span_overlay::intersect_into` meets its contract.
use Prim.Native.Nat.{◌+◌, ◌-◌}
use lib.ListN.{length}
use Rattle.span_overlay.proofs.Common.{Sharing}
use Rattle.span_overlay.proofs.intersect_into.Given as goal

abbrev pub invariant-loop-i : goal.invariant-loop-i
invariant-loop-i l = Sharing l.a l.b l.initial.out l.i l.j l.n l.out

abbrev pub decreases-loop-i : goal.decreases-loop-i
decreases-loop-i l = length l.a + length l.b - (l.i + l.j)
