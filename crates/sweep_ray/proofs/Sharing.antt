-- What the two tests say of points: for a sound list and a pair whose ends are numbers, `overlaps_of` tells whether some double is in
-- both, and `spans_meet` holds wherever it does. Of a pair with a NaN it tells nothing, since `larger_of` and `smaller_of` pass
-- a NaN over.
use Rattle.std.proofs.Common.{◌≡◌, true, false, ◌&&◌, List, [], ◌∷◌, sym, ◌∙◌, subst, inl, inr}
use mathlib.Core.Bool.{false≢true}
use lib.Ieee.{Float, lt, le}
use Rattle.doubles.specs.Doubles.{Number, larger_of, smaller_of}
use Rattle.logic.proofs.Bools.{and_left, and_right, both, or_cases, or_left, or_right, by_cases, clash}
use Rattle.doubles.proofs.Order.{lt-number, le-number, lt→le, not-lt→le, le_trans, le_lt_trans}
use Rattle.doubles.proofs.Pick.{larger-either, larger-left, larger-right, larger-le, lt-smaller}
use Rattle.spans.specs.Spans.{Double, Point, All, within, holds, rising, sound, Share}
use Rattle.spans.proofs.Ends.{above-less, rising-tail, rising-above}
use Rattle.spans.proofs.Points.{holds-above}
use Rattle.spans.proofs.Sets.{sound-rising, sound-even, sound-numbers}
use Rattle.frame.specs.declared.Pair.{Pair}
use Rattle.sweep_model.specs.Meets.{last_of, spans_meet, overlaps_of}
use Rattle.sweep_ray.proofs.Meeting.{last-above}
use Rattle.sweep_ray.specs.Steps.{ends_of}

-- a point of a rising list lies from its first end to its last
between : (x p : Float) (l : List Float) → rising (x ∷ l) ≡ true → holds (x ∷ l) p ≡ true → (le x p ≡ true) × (lt p (last_of x l) ≡ true)
unfolding holds last_of
between x p [] r h = absurd (false≢true h)
between x p (hi ∷ []) r h = elim (or_cases (within x hi p) false h) [
  | inl w ↦ (and_left (le x p) (lt p hi) w, and_right (le x p) (lt p hi) w)
  | inr k ↦ absurd (false≢true k)
]
between x p (hi ∷ y ∷ l) r h =
    let up = rising-above x (hi ∷ y ∷ l) r in
    let t = rising-tail x (hi ∷ y ∷ l) r in
    elim (or_cases (within x hi p) (holds (y ∷ l) p) h) [
      | inl w ↦ (and_left (le x p) (lt p hi) w, last-above p hi (y ∷ l) t (and_right (le x p) (lt p hi) w))
      | inr k ↦
          let later = between y p l (rising-tail hi (y ∷ l) t) k in
          (le_trans x y p (lt→le x y up.1.0) later.0, later.1)
    ]

module _ (s : Pair) where
  in_pair : (p : Float) → within s.lo s.hi p ≡ true → holds (ends_of s) p ≡ true
  unfolding holds
  in_pair p h = or_left (within s.lo s.hi p) false h

  of_pair : (p : Float) → holds (ends_of s) p ≡ true → within s.lo s.hi p ≡ true
  unfolding holds
  of_pair p h = elim (or_cases (within s.lo s.hi p) false h) [ inl k ↦ k | inr k ↦ absurd (false≢true k) ]

  -- the larger of two lower ends, which has P as they do, is in both
  overlap-point : (P : Float → Type 0) (l : List Float) → All P l → P s.lo → All Number l → Number s.lo → Number s.hi
      → overlaps_of l s ≡ true → (p : Float) × P p × (holds l p ≡ true) × (holds (ends_of s) p ≡ true)
  unfolding overlaps_of holds
  overlap-point P [] a b n u v h = absurd (false≢true h)
  overlap-point P (lo ∷ []) a b n u v h = absurd (false≢true h)
  overlap-point P (lo ∷ hi ∷ l) a b n u v h =
      elim (or_cases (lt (larger_of lo s.lo) (smaller_of hi s.hi)) (lt hi s.hi && overlaps_of l s) h) [
        | inl k ↦
            let p = larger_of lo s.lo in
            let under : (lt p hi && lt p s.hi) ≡ true = sym (lt-smaller hi s.hi n.1.0 v p) ∙ k in (
              p,
              elim (larger-either lo s.lo) [ inl e ↦ subst P (sym e) a.0 | inr e ↦ subst P (sym e) b ],
              or_left (within lo hi p) (holds l p)
                  (both (le lo p) (lt p hi) (larger-left lo s.lo n.0 u) (and_left (lt p hi) (lt p s.hi) under)),
              in_pair p (both (le s.lo p) (lt p s.hi) (larger-right lo s.lo n.0 u) (and_right (lt p hi) (lt p s.hi) under)),
            )
        | inr k ↦
            let later = overlap-point P l a.1.1 b n.1.1 u v (and_right (lt hi s.hi) (overlaps_of l s) k) in
            (later.0, later.1, or_right (within lo hi later.0) (holds l later.0) later.2, later.3)
      ]

  -- a point in both is in a pair of the list, and those before it end below the point
  point-overlaps : (l : List Float) (p : Float) → rising l ≡ true → holds l p ≡ true → within s.lo s.hi p ≡ true
      → overlaps_of l s ≡ true
  unfolding overlaps_of holds
  point-overlaps [] p r h w = absurd (false≢true h)
  point-overlaps (lo ∷ []) p r h w = absurd (false≢true h)
  point-overlaps (lo ∷ hi ∷ l) p r h w =
      let from = and_left (le s.lo p) (lt p s.hi) w in
      let to = and_right (le s.lo p) (lt p s.hi) w in
      let t = rising-tail lo (hi ∷ l) r in
      let here = lt (larger_of lo s.lo) (smaller_of hi s.hi) in
      let later = lt hi s.hi && overlaps_of l s in
      elim (or_cases (within lo hi p) (holds l p) h) [
        | inl k ↦
            let above = and_left (le lo p) (lt p hi) k in
            let below = and_right (le lo p) (lt p hi) k in
            let high : le (larger_of lo s.lo) p ≡ true
            = larger-le lo s.lo (le-number lo p above).0 (le-number s.lo p from).0 p ∙ both (le lo p) (le s.lo p) above from in
            let low : lt p (smaller_of hi s.hi) ≡ true
            = lt-smaller hi s.hi (lt-number p hi below).1 (lt-number p s.hi to).1 p ∙ both (lt p hi) (lt p s.hi) below to in
            or_left here later (le_lt_trans (larger_of lo s.lo) p (smaller_of hi s.hi) high low)
        | inr k ↦
            let past : lt p hi ≡ true → ⊥
            = λ e. clash (holds l p) k (holds-above l p (above-less p hi (lt→le p hi e) l (rising-above hi l t))) in
            let up : le hi p ≡ true = elim (by_cases (lt p hi)) [
              | inl e ↦ absurd (past e)
              | inr e ↦ not-lt→le p hi (lt-number p s.hi to).0 (lt-number lo hi (rising-above lo (hi ∷ l) r).0).1 e
            ] in
            or_right here later
            (both (lt hi s.hi) (overlaps_of l s) (le_lt_trans hi p s.hi up to) (point-overlaps l p (rising-tail hi l t) k w))
      ]

  point-meets : (l : List Float) (p : Float) → rising l ≡ true → holds l p ≡ true → within s.lo s.hi p ≡ true → spans_meet l s ≡ true
  unfolding spans_meet holds
  point-meets [] p r h w = absurd (false≢true h)
  point-meets (x ∷ l) p r h w =
      let b = between x p l r h in
      both (lt x s.hi) (lt s.lo (last_of x l))
      (le_lt_trans x p s.hi b.0 (and_right (le s.lo p) (lt p s.hi) w))
      (le_lt_trans s.lo p (last_of x l) (and_left (le s.lo p) (lt p s.hi) w) b.1)

  module _ (l : List Float) (is_sound : sound l ≡ true) where
    ends-numbers : All Number l
    ends-numbers = sound-numbers l (sound-rising l is_sound) (sound-even l is_sound)

    pub share-overlaps : Share l (ends_of s) → overlaps_of l s ≡ true
    share-overlaps h = point-overlaps l h.0 (sound-rising l is_sound) h.2 (of_pair h.0 h.3)

    pub share-meets : Share l (ends_of s) → spans_meet l s ≡ true
    share-meets h = point-meets l h.0 (sound-rising l is_sound) h.2 (of_pair h.0 h.3)

    pub overlaps-meets : Number s.lo → Number s.hi → overlaps_of l s ≡ true → spans_meet l s ≡ true
    overlaps-meets u v h =
        let q = overlap-point (λ (e : Float). Unit {0}) l (any l) tt ends-numbers u v h in
        point-meets l q.0 (sound-rising l is_sound) q.2 (of_pair q.0 q.3)
      where
        any : (m : List Float) → All (λ (e : Float). Unit {0}) m
        any [] = tt
        any (x ∷ m) = (tt, any m)

    -- the test is true exactly where some double is in the list and in the pair
    pub overlaps-share : All Double l → Point s.lo → Number s.hi → overlaps_of l s ≡ true → Share l (ends_of s)
    overlaps-share d u v h = overlap-point Point l (all-points l d ends-numbers) u ends-numbers u.1 v h
      where
        all-points : (m : List Float) → All Double m → All Number m → All Point m
        all-points [] p q = tt
        all-points (x ∷ m) p q = ((p.0, q.0), all-points m p.1 q.1)
