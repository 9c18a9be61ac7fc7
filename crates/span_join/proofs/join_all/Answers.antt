-- `span_join::join_all` meets its contract.
use native.Mathlib.Omega.{arith}
use Prim.Native.Nat.{◌+◌, ◌*◌}
use mathlib.Core.Path.{◌≡◌}
use Rattle.span_join.proofs.Passes.{joining-start, joining-step, joining-done}
use Rattle.span_join.proofs.join_all.Goals as goal

pub loop-i-init : goal.loop-i-init
loop-i-init c = joining-start _

pub loop-i-preserved : goal.loop-i-preserved
loop-i-preserved c =
    let next : 2 * (c.loop-i.i + 1) ≡ 2 * c.loop-i.i + 2 = omega arith in
    rw next (joining-step _ _ _ _ _ _ (omega arith) c.loop-i.invariant c.insert-n.ensures)

pub returns : goal.returns
returns c = joining-done _ _ _ _ _ (omega arith) (omega arith) c.loop-i.invariant
