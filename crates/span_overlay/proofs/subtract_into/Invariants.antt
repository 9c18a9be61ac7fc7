-- `span_overlay::subtract_into` meets its contract.
use Prim.Native.Nat.{◌*◌}
use Rattle.span_overlay.proofs.Cutting.{Lessening}
use Rattle.span_overlay.proofs.subtract_into.Given as goal

abbrev pub invariant-loop-i : goal.invariant-loop-i
invariant-loop-i l = Lessening l.a l.b l.initial.out (2 * l.i) l.j l.n l.out
