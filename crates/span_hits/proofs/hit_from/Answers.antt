-- `span_hits::hit_from` meets its contract. The loop's invariant: what is asked of the place now is what was asked of
-- the first place. The measure is what is left. Assumes nothing.
use Prim.Native.Nat.{◌<◌, ◌-◌}
use mathlib.Core.Path.{refl, sym, ◌∙◌}
use native.Mathlib.Omega.{arith}
use lib.ListN.{length}
use Rattle.span_hits.proofs.Step.{hit-step, hit-end}
use Rattle.span_hits.proofs.hit_from.Goals as goal

pub loop-lo-init : goal.loop-lo-init
loop-lo-init c = refl

pub returns-then-lo-hi : goal.returns-then-lo-hi
returns-then-lo-hi c = let h : 1 < length c.args.hits.now
    - c.loop-lo.at = omega arith in
    sym (c.loop-lo.invariant ∙ hit-step _ _ h ∙ simp c.if-lo-hi.true)

pub loop-lo-preserved : goal.loop-lo-preserved
loop-lo-preserved c = let h : 1 < length c.args.hits.now
    - c.loop-lo.at = omega arith in
    c.loop-lo.invariant ∙ hit-step _ _ h ∙ simp c.if-lo-hi.false

pub returns : goal.returns
returns c = sym (c.loop-lo.invariant ∙ hit-end _ _ (omega arith))
