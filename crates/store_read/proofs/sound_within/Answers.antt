use mathlib.Core.Path.{refl, sym, ◌∙◌}
use Rattle.logic.proofs.Bools.{both}
use Rattle.store_read.proofs.Steps.{step}
use Rattle.store_read.proofs.RayLoops.{length-step, length-end, all-contained, lies_out, lies_in}
use Rattle.store_read.proofs.Bounds.{sound-after, made-nan, after_none, after-bad, after-good}
use Rattle.store_read.proofs.Bounds.{left-bad, out-bad, both-same, left-same}
use Rattle.store_read.proofs.sound_within.Goals as goal

pub loop-k-init : goal.loop-k-init
loop-k-init c = (c.requires.0, c.requires.1, left-same _ _ _ (sound-after _ _ made-nan), refl)

pub returns-then-not-follows : goal.returns-then-not-follows
returns-then-not-follows c =
    let inv = c.loop-k.invariant in
    inv.2 ∙ left-bad _ _ (after-bad _ _ _ _ _ _ (step inv.1 c.loop-k-test.true)
    (rw c.record_at-r.ensures at c.follows.ensures) c.if-not-follows.true)

pub returns-then-not-reaches_over : goal.returns-then-not-reaches_over
returns-then-not-reaches_over c =
    c.loop-k.invariant.2 ∙ out-bad c.loop-k.last _ _
    (lies_out (rw c.record_at-r.ensures at c.first_reaching-o.ensures)
    (step c.loop-k.invariant.1 c.loop-k-test.true) _
    (rw c.record_at-r.ensures at c.reaches_over.ensures) c.if-not-reaches_over.true)

pub loop-k-smaller : goal.loop-k-smaller
loop-k-smaller c = rw c.record_at-r.ensures (step c.loop-k.invariant.1 c.loop-k-test.true).less

pub loop-k-preserved : goal.loop-k-preserved
loop-k-preserved c =
    let inv = c.loop-k.invariant in
    let s = step inv.1 c.loop-k-test.true in
    rw c.record_at-r.ensures (
      c.first_reaching-o.ensures.readable,
      s.next,
      inv.2 ∙ both-same _ _ _ _
          (after-good _ _ _ _ _ _ s (rw c.record_at-r.ensures at
          c.follows.ensures) c.if-not-follows.false)
          (lies_in (rw c.record_at-r.ensures at c.first_reaching-o.ensures) s _
          (rw c.record_at-r.ensures at c.reaches_over.ensures) c.if-not-reaches_over.false),
      inv.3 ∙ length-step s _,
    )

pub returns : goal.returns
returns c = (
  c.loop-k.invariant.2 ∙ both _ _ (after_none _ _ _ _ _ c.loop-k-test.false)
      (all-contained _ _ _ _ _ c.loop-k-test.false),
  sym (c.loop-k.invariant.3 ∙ length-end _ _ _ _ _ c.loop-k-test.false),
)
