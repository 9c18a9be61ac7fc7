-- From the lists that the caller gave to the answer.
use mathlib.Core.Path.{◌≡◌, refl, sym, ◌∙◌, ap, ap₂, subst, subst₂}
use mathlib.Core.Bool.{Bool, true, false, cond, not, ◌||◌}
use mathlib.Core.List.{List, ◌++◌}
use mathlib.Core.Logic.{inl, inr}
use Prim.Native.Nat.{ℕ, ◌+◌, ◌-◌, ◌*◌, ◌/◌, ◌≤◌, ◌<◌}
use native.Mathlib.Omega.{arith}
use lib.ListN.{length, get_or, take, drop, replicate, length-append, length-replicate, get_or-append}
use lib.Seq.{length-take-le, get_or-take, drop_at}
use lib.Ieee.{Float, nan}
use Rattle.doubles.specs.Constants.{plus_zero}
use Rattle.refusal.specs.Refusal.{Due, NoneDue}
use Rattle.logic.proofs.Bools.{and_left, and_right, or-neither, both, not-true}
use Rattle.spans.specs.Spans.{holds, Within}
use Rattle.spans.specs.Rays.{ValidRay, MergedExactly}
use Rattle.ray_subtract.specs.Subtract.{either_hit, new_cells, handed_back, ListAfterHits}
use Rattle.ray_merge.specs.Merge.{MergePre, work_pairs, MergePost}
use Rattle.ray_subtract.specs.Steps.{cells_from, new_list, MergeWithinPre, MergeWithinPost, PlacedAt, NormalizedAt, MergeInputs}
use Rattle.ray_subtract.specs.Steps.{MergeListsPost}
use Rattle.spans.specs.Overlay.{less_of}
use Rattle.span_overlay.proofs.Less.{less-list}
use Rattle.ray_subtract.specs.declared.MergedList.{MergedList}
use Rattle.ray_subtract.specs.declared.MergedLists.{MergedLists}
use Rattle.refusal.specs.declared.Refusal.TheVariants.{ShortBuffer, Unsound}
use Rattle.std.specs.Prelude.{Ok, Err}
use Rattle.ray_merge.proofs.Rays.{bounded-within}
use Rattle.ray_subtract.proofs.Places.{part-kept, handed-still, handed-new}
use Rattle.ray_subtract.proofs.Sparing.{becomes-spared, less-both-list}

-- ---- the lists are brought into the work buffer
module _ (possible certain outer inner w w₁ w₂ w₃ w₄ : List Float) (at no ni : ℕ) (given : MergeInputs possible certain outer inner w)
    (place : at ≡ length possible + length certain + length outer + 2 * length inner)
    (p : PlacedAt possible at w w₁) (c : PlacedAt certain (at + length possible) w₁ w₂)
    (o : NormalizedAt outer (at + length possible + length certain) w₂ w₃ no)
    (i : NormalizedAt inner (at + length possible + length certain + no) w₃ w₄ ni) where
  room : at + length possible + length certain + length outer + length inner ≤ length w
  room = omega (arith, given.room)

  sizes : (length w₁ ≡ length w) × (length w₂ ≡ length w) × (length w₃ ≡ length w) × (length w₄ ≡ length w)
  sizes = (p.size, c.size ∙ p.size, o.size ∙ c.size ∙ p.size, i.size ∙ o.size ∙ c.size ∙ p.size)

  -- what stands in front of a list stays when it is placed
  past-certain : (k n : ℕ) → k + n ≤ at + length possible → cells_from k n w₂ ≡ cells_from k n w₁
  past-certain k n h = part-kept (at + length possible) k n w₁ w₂ h (omega (arith, sizes.0, room)) c.size c.front

  past-outer : (k n : ℕ) → k + n ≤ at + length possible + length certain → cells_from k n w₃ ≡ cells_from k n w₂
  past-outer k n h = part-kept (at + length possible + length certain) k n w₂ w₃ h (omega (arith, sizes.1, room)) o.size o.front

  past-inner : (k n : ℕ) → k + n ≤ at + length possible + length certain + no → cells_from k n w₄ ≡ cells_from k n w₃
  past-inner k n h = part-kept (at + length possible + length certain + no) k n w₃ w₄ h
      (omega (arith, sizes.2, room, o.most)) i.size i.front

  possible-at : cells_from at (length possible) w₄ ≡ possible
  possible-at = past-inner at (length possible) (omega arith) ∙ past-outer at (length possible) (omega arith)
      ∙ past-certain at (length possible) (omega arith) ∙ p.cells

  certain-at : cells_from (at + length possible) (length certain) w₄ ≡ certain
  certain-at = past-inner (at + length possible) (length certain) (omega arith)
      ∙ past-outer (at + length possible) (length certain) (omega arith) ∙ c.cells

  outer-at : cells_from (at + length possible + length certain) no w₄ ≡ cells_from (at + length possible + length certain) no w₃
  outer-at = past-inner (at + length possible + length certain) no (omega arith)

  pub ready : MergeWithinPre at (length possible) (length certain) no ni w₄
  ready = record {
    room = omega (arith, o.most, i.most);
    possible = record { room = omega (arith, sizes.3, room); is_sound = rw possible-at given.possible_sound };
    certain = record { room = omega (arith, sizes.3, room); is_sound = rw certain-at given.certain_sound };
    outer = record { room = omega (arith, sizes.3, room, o.most); is_sound = rw outer-at o.list.list.is_sound };
    inner = record { room = omega (arith, sizes.3, room, o.most, i.most); is_sound = i.list.list.is_sound };
  }

  -- the lists that normalising makes of the hits
  abbrev outers : List Float
  outers = cells_from (at + length possible + length certain) no w₃

  abbrev inners : List Float
  inners = cells_from (at + length possible + length certain + no) ni w₄

  pub lists : (after : List Float) (r : MergedLists) → MergeWithinPost at (length possible) (length certain) no ni w₄ after r
      → MergeListsPost possible certain outer inner w after r
  lists after r m =
      let possible_is : new_list r.possible possible 0 after ≡ less_of possible inners = rw possible-at at m.possible_is in
      let certain_is : new_list r.certain certain (new_cells r.possible) after ≡ less_of (less_of certain outers) inners =
      rw (certain-at, outer-at) at m.certain_is in
      record {
        size = m.between.size ∙ sizes.3;
        room = omega (arith, m.room, room);
        possible_left = becomes-spared (less-list possible inners given.possible_sound i.list.list.is_sound) i.list.list.points
            (rw possible-at at m.possible_becomes) possible_is;
        certain_left = becomes-spared
            (less-both-list certain outers inners given.certain_sound o.list.list.is_sound i.list.list.is_sound)
            (λ x. ap₂ ◌||◌ (o.list.list.points x) (i.list.list.points x)) (rw (certain-at, outer-at) at m.certain_becomes)
            certain_is;
        exact = record {
          outer_normal = outers;
          inner_normal = inners;
          outer_is = o.list;
          inner_is = i.list;
          possible_is = possible_is;
          certain_is = certain_is;
        };
      }

-- ---- the rest of the buffer is cleared
module _ (w after : List Float) (n : ℕ) (fit : n ≤ length w) (cleared : after ≡ take n w ++ replicate (length w - n) plus_zero) where
  same_size : length after ≡ length w
  same_size =
      ap length cleared ∙ omega (
        arith,
        length-append (take n w) (replicate (length w - n) plus_zero),
        length-take-le n w fit,
        length-replicate (length w - n) plus_zero,
      )

  same-front : (q : ℕ) → q < n → get_or after q nan ≡ get_or w q nan
  same-front q h =
      ap (λ (l : List Float). get_or l q nan) cleared
      ∙ get_or-append (take n w) (replicate (length w - n) plus_zero) nan q
      (omega (arith, length-take-le n w fit)) ∙ get_or-take n w q nan h

  rest-zero : drop n after ≡ replicate (length after - n) plus_zero
  rest-zero =
      ap (drop n) cleared ∙ drop_at (take n w) (replicate (length w - n) plus_zero) n (length-take-le n w fit)
      ∙ ap (λ (k : ℕ). replicate (k - n) plus_zero) (sym same_size)

  handed-is : (r : MergedList) (a : List Float) (k : ℕ) → k + new_cells r ≤ n → new_list r a k w ≡ handed_back r a after k
  handed-is r a k h = go r.moved refl
    where
      go : (b : Bool) → r.moved ≡ b → new_list r a k w ≡ handed_back r a after k
      go true e =
          let cells : new_cells r ≡ 2 * r.pairs = rw e in
          let inside : k + 2 * r.pairs ≤ n = omega arith in
          ap (λ (b : Bool). cond b (cells_from k (2 * r.pairs) w) a) e
          ∙ sym (part-kept n k (2 * r.pairs) w after inside fit same_size same-front)
          ∙ handed-new r a after k e (omega (arith, same_size))
      go false e = ap (λ (b : Bool). cond b (cells_from k (2 * r.pairs) w) a) e ∙ handed-still r a after k e

-- the ray is valid after the merge
module _ (lo hi : Float) (possible certain outer inner p' c' : List Float) (p c : MergedList) (v : ValidRay lo hi possible certain)
    (s : ListAfterHits possible (holds inner) p p') (t : ListAfterHits certain (either_hit outer inner) c c') where
  within-possible : Within possible p'
  within-possible x h = and_left (holds possible x) (not (holds inner x)) (sym (s.list.points x) ∙ h)

  within-certain : Within certain c'
  within-certain x h = and_left (holds certain x) (not (holds outer x || holds inner x)) (sym (t.list.points x) ∙ h)

  missed : (x : Float) → holds c' x ≡ true → holds inner x ≡ false
  missed x h = (or-neither (holds outer x) (holds inner x)
      (not-true (holds outer x || holds inner x)
      (and_right (holds certain x) (not (holds outer x || holds inner x)) (sym (t.list.points x) ∙ h)))).1

  pub still-valid : ValidRay lo hi p' c'
  still-valid = record {
    possible_sound = s.list.is_sound;
    certain_sound = t.list.is_sound;
    possible_bounded = bounded-within lo hi possible p' v.possible_bounded s.list.is_sound within-possible;
    certain_bounded = bounded-within lo hi certain c' v.certain_bounded t.list.is_sound within-certain;
    inside = λ x h. s.list.points x
        ∙ both (holds possible x) (not (holds inner x)) (v.inside x (within-certain x h)) (ap not (missed x h));
  }

-- ---- the answers
module _ (lo hi : Float) (possible certain outer inner before : List Float) where
  pub refuse-short : length before / 2 < work_pairs possible certain outer inner
      → MergePost lo hi possible certain outer inner before before (Err ShortBuffer)
  unfolding Due
  refuse-short h = (inl (h, refl), refl)

  pub refuse-bad : ¬ (length before / 2 < work_pairs possible certain outer inner) → ¬ MergePre lo hi possible certain outer inner
      → MergePost lo hi possible certain outer inner before before (Err Unsound)
  unfolding Due
  refuse-bad h k = (inr (h, inl (k, refl)), refl)

  pub accept : (w after : List Float) (r : MergedLists) (n : ℕ)
      → ¬ (length before / 2 < work_pairs possible certain outer inner) → MergePre lo hi possible certain outer inner
      → MergeListsPost possible certain outer inner before w r → n ≡ new_cells r.possible + new_cells r.certain
      → after ≡ take n w ++ replicate (length w - n) plus_zero
      → MergePost lo hi possible certain outer inner before after (Ok r)
  unfolding NoneDue
  accept w after r n h m l e cleared =
      let fit : n ≤ length w = omega (arith, l.room, l.size) in
      let same = handed-is w after n fit cleared in
      let first = same r.possible possible 0 (omega arith) in
      let second = same r.certain certain (new_cells r.possible) (omega arith) in
      let p = subst (ListAfterHits possible (holds inner) r.possible) first l.possible_left in
      let c = subst (ListAfterHits certain (either_hit outer inner) r.certain) second l.certain_left in (
        (h, ((λ k. k m), tt)),
        record {
          room = omega (arith, same_size w after n fit cleared);
          possible_left = p;
          certain_left = c;
          exact = subst₂ (MergedExactly possible certain outer inner) first second l.exact;
          valid = still-valid lo hi possible certain outer inner (handed_back r.possible possible after 0)
              (handed_back r.certain certain after (new_cells r.possible)) r.possible r.certain m.ray p c;
          rest = subst (λ (k : ℕ). drop k after ≡ replicate (length after - k) plus_zero) e (rest-zero w after n fit cleared);
        },
      )
