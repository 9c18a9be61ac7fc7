-- `span_join::join_falling` meets its contract.
use Prim.Native.Nat.{◌*◌}
use Rattle.span_join.specs.Steps.{JoinedFromBack}
use Rattle.span_join.proofs.join_falling.Given as goal

abbrev pub invariant-loop-i : goal.invariant-loop-i
invariant-loop-i l = JoinedFromBack l.spans l.initial.out l.out (record { passed = 2 * l.i; end = l.n })
