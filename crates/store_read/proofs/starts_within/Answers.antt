use borrow.Author.Tests.{eq-eqb}
use mathlib.Core.Path.{◌∙◌}
use Rattle.store_read.proofs.Steps.{step}
use Rattle.store_read.proofs.Bounds.{starts_none, starts-some}
use Rattle.store_read.proofs.starts_within.Goals as goal

pub returns-then-head-eq0 : goal.returns-then-head-eq0
returns-then-head-eq0 c = eq-eqb _ _ c.if-head-eq0.true ∙ starts_none _ _ _ _ _ c.if-head-eq0.true

pub returns-else-head-eq0 : goal.returns-else-head-eq0
returns-else-head-eq0 c = rw c.record_at.ensures (starts-some _ _ _ _ _ (step c.requires c.if-head-eq0.false))
