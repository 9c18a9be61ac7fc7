use Prim.Native.Nat.{◌<◌}
use mathlib.Core.Path.{refl, sym, subst, ◌∙◌}
use native.Mathlib.Omega.{arith}
use lib.ListN.{length}
use Rattle.store_write.proofs.Filling.{free-some, free-skip, free-here}
use Rattle.store_write.proofs.next_free.Goals as goal

pub loop-at-init : goal.loop-at-init
loop-at-init c = (omega arith, free-some _ _ _ _ c.requires.2, refl)

pub loop-at-preserved : goal.loop-at-preserved
loop-at-preserved c =
    let e = c.loop-at.invariant.2
    ∙ free-skip _ _ _ _ c.loop-at.invariant.1 (sym c.used.ensures ∙ c.loop-at-test.true) in
    (omega arith, free-some _ _ _ _ (subst (λ l. 0 < length l) e c.requires.2), e)

pub returns : goal.returns
returns c = record {
  from = c.loop-at.invariant.0;
  counted = c.loop-at.invariant.1;
  first = c.loop-at.invariant.2
      ∙ free-here _ _ _ _ c.loop-at.invariant.1 (sym c.used.ensures ∙ c.loop-at-test.false);
}
