-- `span_join::join_rising` meets its contract.
use Prim.Native.Nat.{◌*◌}
use Rattle.span_join.specs.Steps.{JoinedFromFront}
use Rattle.span_join.proofs.join_rising.Given as goal

abbrev pub invariant-loop-i : goal.invariant-loop-i
invariant-loop-i l = JoinedFromFront l.spans l.initial.out l.out (record { passed = 2 * l.i; end = l.n })
