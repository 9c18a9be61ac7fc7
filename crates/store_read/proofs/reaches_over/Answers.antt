use mathlib.Core.Path.{◌∙◌}
use Rattle.store_read.proofs.Steps.{step}
use Rattle.store_read.proofs.RayLoops.{over_none, over-both, over-begin}
use Rattle.store_read.proofs.reaches_over.Goals as goal

pub returns-then-outer-eq0 : goal.returns-then-outer-eq0
returns-then-outer-eq0 c = over_none _ _ _ _ _ _ c.if-outer-eq0.true

pub returns-then-over-pair : goal.returns-then-over-pair
returns-then-over-pair c =
    rw c.record_at-over.ensures (over-both (step c.requires c.if-outer-eq0.false) _ _
    (rw c.record_at-over.ensures at c.if-over-pair.true))

pub returns-else-over-pair : goal.returns-else-over-pair
returns-else-over-pair c = c.if-over-pair.false
    ∙ over-begin (step c.requires c.if-outer-eq0.false) _ _ (rw c.record_at-over.ensures at c.if-over-pair.false)
