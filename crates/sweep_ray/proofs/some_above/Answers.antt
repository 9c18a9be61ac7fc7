use Rattle.std.proofs.Common.{sym, refl, ◌∙◌}
use Rattle.store_read.proofs.Steps.{step, record-there}
use Rattle.sweep_ray.proofs.Meeting.{above-here, above-later, above-none}
use Rattle.sweep_ray.proofs.some_above.Goals as goal

pub loop-k-init : goal.loop-k-init
loop-k-init c = (c.requires, refl)

pub record_at-r-requires : goal.record_at-r-requires
record_at-r-requires c = record-there c.loop-k.invariant.0 c.loop-k-test.true

pub returns-then-x-r : goal.returns-then-x-r
returns-then-x-r c =
    let inv = c.loop-k.invariant in
    sym (inv.1 ∙ above-here _ (step inv.0 c.loop-k-test.true) (rw c.record_at-r.ensures at c.if-x-r.true))

pub loop-k-smaller : goal.loop-k-smaller
loop-k-smaller c = rw c.record_at-r.ensures (step c.loop-k.invariant.0 c.loop-k-test.true).less

pub loop-k-preserved : goal.loop-k-preserved
loop-k-preserved c =
    let inv = c.loop-k.invariant in
    let s = step inv.0 c.loop-k-test.true in
    rw c.record_at-r.ensures (s.next, inv.1 ∙ above-later _ s (rw c.record_at-r.ensures at c.if-x-r.false))

pub returns : goal.returns
returns c = sym (c.loop-k.invariant.1 ∙ above-none _ _ _ _ _ c.loop-k-test.false)
