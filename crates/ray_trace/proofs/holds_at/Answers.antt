-- `ray_trace::holds_at` meets its contract.
use mathlib.Core.Logic.{inl, inr}
use mathlib.Core.Path.{◌∙◌}
use Rattle.logic.proofs.Bools.{both}
use Rattle.ray_trace.proofs.Searches.{pair-holds, pair-passed, pairs-passed}
use Rattle.ray_trace.proofs.holds_at.Goals as goal
use Rattle.ray_trace.proofs.holds_at.Goals.{else-pair-p-via-then-pair-p+else-p-pair, else-pair-p-via-else-pair-p}

pub returns-then-p-pair : goal.returns-then-p-pair
returns-then-p-pair c =
    let step = c.in-Some.ensures.steps in
    pair-holds c.args.s.now _ c.args.p c.loop-pair.invariant.1 c.in-Some.pair.now _ step.1.0 (step.1.1 ∙ c.loop-pair.invariant.0)
    (both _ _ c.if-pair-p.true c.if-p-pair.true)

pub loop-pair-preserved : goal.loop-pair-preserved
loop-pair-preserved c =
    let step = c.in-Some.ensures.steps in (
      step.0 ∙ c.loop-pair.invariant.0,
      pair-passed c.args.s.now _ c.args.p c.loop-pair.invariant.1 c.in-Some.pair.now _ step.1.0 (step.1.1 ∙ c.loop-pair.invariant.0)
          (elim c.else-pair-p.branch [
            | else-pair-p-via-then-pair-p+else-p-pair w ↦ inr w.if-p-pair.false
            | else-pair-p-via-else-pair-p w ↦ inl w.if-pair-p.false
          ]),
    )

pub returns : goal.returns
returns c =
    pairs-passed c.args.s.now _ c.args.p c.loop-pair.invariant.1 (rw c.loop-pair.invariant.0 at c.in-None.ensures.steps.1.0)
