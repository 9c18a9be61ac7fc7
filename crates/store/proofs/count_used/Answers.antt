use Rattle.store.proofs.InUse.{count_next}
use mathlib.Core.Bool.{true, false}
use native.Mathlib.Nat.{add-zero}
use mathlib.Core.Path.{refl, sym, ◌∙◌}
use native.Mathlib.Omega.{arith}
use Rattle.logic.specs.Logic.{count_to}
use Rattle.store.proofs.count_used.Goals as goal
use Rattle.store.proofs.count_used.Goals.{then-used, else-used}

pub loop-i-init : goal.loop-i-init
unfolding count_to
loop-i-init c = (omega arith, refl)

pub loop-i-preserved : goal.loop-i-preserved
loop-i-preserved c = elim c.if-used.branch [
  | then-used w ↦ (
    omega (arith, w.c-is),
    count_next _ _ _ _ true c.loop-i.invariant.1
        (sym c.used.ensures ∙ w.if-used.true) w.c-is,
  )
  | else-used w ↦ (
    omega (arith, w.c-is),
    count_next _ _ _ _ false c.loop-i.invariant.1
        (sym c.used.ensures ∙ w.if-used.false) (w.c-is ∙ sym (add-zero _)),
  )
]
