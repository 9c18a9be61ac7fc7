-- `span_join::join_all` meets its contract.
use Prim.Native.Nat.{◌*◌}
use Rattle.span_join.proofs.Passes.{Joining}
use Rattle.span_join.proofs.join_all.Given as goal

abbrev pub invariant-loop-i : goal.invariant-loop-i
invariant-loop-i l = Joining l.initial.b l.n (2 * l.i) l.b
