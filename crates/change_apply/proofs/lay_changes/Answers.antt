-- `change_apply::lay_changes` meets its contract: before each turn the lists of the first k changes are laid, and no
-- record before the place is free, so the next list goes to the lowest free records.
use native.Mathlib.Omega.{arith}
use mathlib.Core.Path.{sym, ap, ◌∙◌}
use lib.ListN.{length}
use Rattle.store.specs.Updates.{laid_all}
use Rattle.change_apply.proofs.Turns.{all-freed, laid_none, laid-good, ray-layable, laid_next, laid_end}
use Rattle.change_apply.proofs.Turns.{all_laid, front_fits, back-within, back_fits}
use Rattle.change_list.specs.Changes.{updates_in}
use Rattle.store.specs.Store.{Cells}
use Rattle.change_apply.proofs.lay_changes.Goals as goal

pub loop-k-init : goal.loop-k-init
loop-k-init c = λ b. laid_none _ _ _ _ _ b.total b.fitting _ b.is

pub head-h-requires : goal.head-h-requires
head-h-requires c = omega (arith, c.loop-k-test.true)

pub ray_named-ray-requires : goal.ray_named-ray-requires
ray_named-ray-requires c =
    let inv = c.loop-k.invariant in
    let b = c.requires in
    let m = laid-good _ _ _ _ _ b.total b.fitting _ _ _ _ (inv b) c.loop-k-test.true c.head-h.result c.head-h.ensures in (
      omega (
        arith,
        ap (λ (x : Cells). length x.heads) b.is,
        (all-freed _ _ _ _ _ b.total b.fitting).kept.heads_size,
        b.fitting.room.in_heads,
      ),
      m.names.digit,
      m.names.below,
    )

pub past_lists-after-requires : goal.past_lists-after-requires
past_lists-after-requires c =
    let inv = c.loop-k.invariant in
    let b = c.requires in
    let m = laid-good _ _ _ _ _ b.total b.fitting _ _ _ _ (inv b) c.loop-k-test.true
    c.head-h.result c.head-h.ensures in
    front_fits c.head-h.result c.loop-k.at
    (length c.args.pairs.now)
    m.within (omega (
      arith,
      c.well_formed.1.1.1.1.1.1.0,
    ))

pub lay_ray-from-requires : goal.lay_ray-from-requires
lay_ray-from-requires c =
    let inv = c.loop-k.invariant in
    let b = c.requires in
    let p = inv b in
    let m = laid-good _ _ _ _ _ b.total b.fitting _ _ _ _ p c.loop-k-test.true
    c.head-h.result
    c.head-h.ensures in (
      back-within c.head-h.result
          c.loop-k.at
          (length c.args.pairs.now) m.within _ c.past_lists-after.ensures,
      p.cursor,
      ray-layable _ _ _ _ _ b.total b.fitting _ _ _ _ p c.loop-k-test.true
          c.head-h.result
          c.head-h.ensures _
          c.ray_named-ray.ensures _ c.past_lists-after.ensures,
    )

pub past_lists-at-requires : goal.past_lists-at-requires
past_lists-at-requires c =
    let inv = c.loop-k.invariant in
    let b = c.requires in
    let p = inv b in
    let m = laid-good _ _ _ _ _ b.total b.fitting _ _ _ _ p c.loop-k-test.true
    c.head-h.result c.head-h.ensures in
    back_fits c.head-h.result c.loop-k.at (length
    c.args.pairs.now) m.within _
    c.past_lists-after.ensures
    (omega (
      arith,
      c.well_formed.1.1.1.1.1.1.0,
    ))

pub loop-k-preserved : goal.loop-k-preserved
loop-k-preserved c = λ b. laid_next _ _ _ _ _ b.total b.fitting _ _ _ _ (c.loop-k.invariant b)
    c.loop-k-test.true c.head-h.result
    c.head-h.ensures _ c.ray_named-ray.ensures _
    c.past_lists-after.ensures _ _ c.lay_ray-from.ensures _
    c.past_lists-at.ensures

pub shape_of-spans : goal.shape_of-spans
shape_of-spans c = let b = c.requires in
    ap (λ (x : Cells). length x.spans)
    (laid_end _ _ _ _ _ b.total b.fitting _ _ _ _ (c.loop-k.invariant b)
    c.loop-k-test.false) ∙ (all_laid _ _ _ _ _ b.total b.fitting).kept.spans_size
    ∙ sym (ap (λ (x : Cells). length x.spans) b.is)

pub shape_of-links : goal.shape_of-links
shape_of-links c = let b = c.requires in
    ap (λ (x : Cells). length x.links)
    (laid_end _ _ _ _ _ b.total b.fitting _ _ _ _ (c.loop-k.invariant b)
    c.loop-k-test.false) ∙ (all_laid _ _ _ _ _ b.total b.fitting).kept.links_size
    ∙ sym (ap (λ (x : Cells). length x.links) b.is)

pub shape_of-heads : goal.shape_of-heads
shape_of-heads c = let b = c.requires in
    ap (λ (x : Cells). length x.heads)
    (laid_end _ _ _ _ _ b.total b.fitting _ _ _ _ (c.loop-k.invariant b)
    c.loop-k-test.false) ∙ (all_laid _ _ _ _ _ b.total b.fitting).kept.heads_size
    ∙ sym (ap (λ (x : Cells). length x.heads) b.is)

pub returns : goal.returns
returns c =
    let inv = c.loop-k.invariant in
    let b = c.requires in
    laid_end _ _ _ _ _ b.total b.fitting _ _ _ _ (inv b) c.loop-k-test.false
    ∙ ap (λ (x : Cells). laid_all c.args.spec.max_intervals x
    (updates_in c.args.g c.args.changes.now c.args.pairs.now)) (sym b.is)
