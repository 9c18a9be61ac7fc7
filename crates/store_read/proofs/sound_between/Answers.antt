use mathlib.Core.Path.{sym, ◌∙◌}
use Rattle.store_read.proofs.Steps.{step}
use Rattle.store_read.proofs.RayLoops.{length-step, length-end}
use Rattle.store_read.proofs.Bounds.{made-nan, sound-after, starts-bad, after_none, after-bad, after-good}
use Rattle.store_read.proofs.Bounds.{last_step, last_none, none_between, all-between, left-bad}
use borrow.Author.Tests.{eq-eqb}
use Rattle.logic.proofs.Bools.{clash}
use Rattle.store_read.proofs.sound_between.Goals as goal
use Rattle.store_read.proofs.sound_between.Goals.{then-head-eq0, else-head-eq0}

pub returns-then-not-starts_within : goal.returns-then-not-starts_within
returns-then-not-starts_within c = starts-bad _ _ _ _ c.starts_within.ensures c.if-not-starts_within.true

pub returns-then-not-follows : goal.returns-then-not-follows
returns-then-not-follows c =
    let inv = c.loop-k.invariant in
    left-bad _ _ (sound-after _ _ made-nan ∙ inv.1
    ∙ after-bad _ _ _ _ _ _ (step inv.0 c.loop-k-test.true)
    (rw c.record_at-r.ensures at c.follows.ensures) c.if-not-follows.true)

pub loop-k-smaller : goal.loop-k-smaller
loop-k-smaller c = rw c.record_at-r.ensures (step c.loop-k.invariant.0 c.loop-k-test.true).less

pub loop-k-preserved : goal.loop-k-preserved
loop-k-preserved c =
    let inv = c.loop-k.invariant in
    let s = step inv.0 c.loop-k-test.true in
    rw c.record_at-r.ensures (
      s.next,
      inv.1 ∙ after-good _ _ _ _ _ _ s (rw c.record_at-r.ensures at c.follows.ensures) c.if-not-follows.false,
      inv.2 ∙ last_step _ _ _ _ _ s,
      inv.3 ∙ length-step s _,
    )

pub returns-then-last-high : goal.returns-then-last-high
returns-then-last-high c =
    let inv = c.loop-k.invariant in (
      elim c.if-head-eq0.branch [
        | then-head-eq0 w ↦ none_between _ _ _ _ _ _ w.if-head-eq0.true
        | else-head-eq0 w ↦ all-between _ _ _ _ _ _ _ _ _ made-nan (step c.requires w.if-head-eq0.false)
            c.starts_within.ensures c.if-not-starts_within.false
            (inv.1 ∙ after_none _ _ _ _ _ c.loop-k-test.false)
            (inv.2 ∙ last_none _ _ _ _ _ c.loop-k-test.false) ∙ sym w.value-is ∙ c.if-last-high.true
      ],
      sym (inv.3 ∙ length-end _ _ _ _ _ c.loop-k-test.false),
    )

pub returns-else-last-high : goal.returns-else-last-high
returns-else-last-high c =
    let inv = c.loop-k.invariant in
    elim c.if-head-eq0.branch [
      | then-head-eq0 w ↦ absurd (clash _ (w.value-is ∙ eq-eqb _ _ w.if-head-eq0.true) c.if-last-high.false)
      | else-head-eq0 w ↦ all-between _ _ _ _ _ _ _ _ _ made-nan (step c.requires w.if-head-eq0.false)
          c.starts_within.ensures c.if-not-starts_within.false
          (inv.1 ∙ after_none _ _ _ _ _ c.loop-k-test.false)
          (inv.2 ∙ last_none _ _ _ _ _ c.loop-k-test.false) ∙ sym w.value-is ∙ c.if-last-high.false
    ]
