use Rattle.std.proofs.Common.{sym, refl, ◌∙◌}
use Rattle.store_read.proofs.Steps.{step, record-there}
use Rattle.sweep_ray.proofs.Meeting.{overlaps-here, overlaps-no, overlaps-later, overlaps-none}
use Rattle.sweep_ray.proofs.overlaps_at.Goals as goal

pub loop-k-init : goal.loop-k-init
loop-k-init c = (c.requires, refl)

pub record_at-r-requires : goal.record_at-r-requires
record_at-r-requires c = record-there c.loop-k.invariant.0 c.loop-k-test.true

pub returns-then-larger-smaller : goal.returns-then-larger-smaller
returns-then-larger-smaller c =
    let inv = c.loop-k.invariant in
    sym (inv.1 ∙ overlaps-here _ (step inv.0 c.loop-k-test.true)
    (rw (c.larger.ensures, c.smaller.ensures, c.record_at-r.ensures) at c.if-larger-smaller.true))

pub returns-then-not-r-s : goal.returns-then-not-r-s
returns-then-not-r-s c =
    let inv = c.loop-k.invariant in
    sym (inv.1 ∙ overlaps-no _ (step inv.0 c.loop-k-test.true)
    (rw (
      c.larger.ensures,
      c.smaller.ensures,
      c.record_at-r.ensures,
    ) at
    c.if-larger-smaller.false)
    (rw c.record_at-r.ensures at c.if-not-r-s.true))

pub loop-k-smaller : goal.loop-k-smaller
loop-k-smaller c = rw c.record_at-r.ensures (step c.loop-k.invariant.0 c.loop-k-test.true).less

pub loop-k-preserved : goal.loop-k-preserved
loop-k-preserved c =
    let inv = c.loop-k.invariant in
    let s = step inv.0 c.loop-k-test.true in
    rw c.record_at-r.ensures (
      s.next,
      inv.1 ∙ overlaps-later _ s
          (rw (
            c.larger.ensures,
            c.smaller.ensures,
            c.record_at-r.ensures,
          ) at
          c.if-larger-smaller.false)
          (rw c.record_at-r.ensures at c.if-not-r-s.false),
    )

pub returns : goal.returns
returns c = sym (c.loop-k.invariant.1 ∙ overlaps-none _ _ _ _ _ c.loop-k-test.false)
