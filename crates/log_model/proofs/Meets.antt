-- A sound list changes when hits are taken from it exactly when a hit has a point of it, which `is_hit_by` tests. Two
-- pairs meet exactly when each starts before the other ends, and then one of their los is a point of both.
use mathlib.Core.Path.{◌≡◌, sym, ap, ◌∙◌}
use mathlib.Core.Bool.{Bool, true, false, not, ◌&&◌, false≢true}
use mathlib.Core.List.{List, [], ◌∷◌}
use mathlib.Core.Logic.{inl, inr, ◌↔◌}
use lib.Ieee.{Float, lt, le}
use Rattle.logic.proofs.Bools.{or_cases, or_left, or_right, and_left, and_right, both, by_cases, clash}
use Rattle.doubles.proofs.Order.{lt-number, le_refl, lt→le, not-lt→le, le_lt_trans}
use Rattle.spans.specs.Spans.{All, Double, Point, within, holds, rising, sound, equal, ListOf, Apart}
use Rattle.spans.proofs.Ends.{not-not, rising-tail, rising-above}
use Rattle.spans.proofs.Points.{held_number}
use Rattle.spans.proofs.Sets.{sound-rising, equal-holds, same_set}
use Rattle.log_model.specs.Counts.{meets, is_hit_by}

-- two pairs that meet have a point in common, which is a lo of one of them
module _ (P : Float → Type 0) where
  shared-point : (a b lo hi : Float) → P a → P lo → lt a b ≡ true → lt lo hi ≡ true → lt lo b ≡ true → lt a hi ≡ true
      → (p : Float) × P p × (within a b p ≡ true) × (within lo hi p ≡ true)
  shared-point a b lo hi pa pl ab lh lb ah = elim (by_cases (lt a lo)) [
    | inl h ↦ (
      lo,
      pl,
      both (le a lo) (lt lo b) (lt→le a lo h) lb,
      both (le lo lo) (lt lo hi) (le_refl lo (lt-number lo hi lh).0) lh,
    )
    | inr h ↦ (
      a,
      pa,
      both (le a a) (lt a b) (le_refl a (lt-number a b ab).0) ab,
      both (le lo a) (lt a hi) (not-lt→le a lo (lt-number a b ab).0 (lt-number lo hi lh).0 h) ah,
    )
  ]

  meets-point : (lo hi : Float) (l : List Float) → P lo → All P l → rising l ≡ true → lt lo hi ≡ true → meets lo hi l ≡ true
      → (p : Float) × P p × (holds l p ≡ true) × (within lo hi p ≡ true)
  unfolding meets holds
  meets-point lo hi [] q ps r h t = absurd (false≢true t)
  meets-point lo hi (a ∷ []) q ps r h t = absurd (false≢true t)
  meets-point lo hi (a ∷ b ∷ l) q ps r h t = elim (or_cases (lt lo b && lt a hi) (meets lo hi l) t) [
    | inl u ↦
        let (p, d, x, y) = shared-point a b lo hi ps.0 q (rising-above a (b ∷ l) r).0 h
        (and_left (lt lo b) (lt a hi) u) (and_right (lt lo b) (lt a hi) u) in
        (p, d, or_left (within a b p) (holds l p) x, y)
    | inr u ↦
        let (p, d, x, y) = meets-point lo hi l q ps.1.1 (rising-tail b l (rising-tail a (b ∷ l) r)) h u in
        (p, d, or_right (within a b p) (holds l p) x, y)
  ]

  pub hit-point : (l hits : List Float) → All P l → All P hits → rising l ≡ true → is_hit_by l hits ≡ true
      → (p : Float) × P p × (holds l p ≡ true) × (holds hits p ≡ true)
  unfolding is_hit_by holds
  hit-point l [] pl ph r t = absurd (false≢true t)
  hit-point l (lo ∷ []) pl ph r t = absurd (false≢true t)
  hit-point l (lo ∷ hi ∷ hits) pl ph r t = elim (or_cases (lt lo hi && meets lo hi l) (is_hit_by l hits) t) [
    | inl u ↦
        let (p, d, x, y) = meets-point lo hi l ph.0 pl r (and_left (lt lo hi) (meets lo hi l) u)
        (and_right (lt lo hi) (meets lo hi l) u) in
        (p, d, x, or_left (within lo hi p) (holds hits p) y)
    | inr u ↦ let (p, d, x, y) = hit-point l hits pl ph.1.1 r u in (p, d, x, or_right (within lo hi p) (holds hits p) y)
  ]

-- a point of two pairs makes them meet
meet-at : (a b lo hi p : Float) → within a b p ≡ true → within lo hi p ≡ true → (lt lo b && lt a hi) ≡ true
meet-at a b lo hi p s t =
    both (lt lo b) (lt a hi) (le_lt_trans lo p b (and_left (le lo p) (lt p hi) t) (and_right (le a p) (lt p b) s))
    (le_lt_trans a p hi (and_left (le a p) (lt p b) s) (and_right (le lo p) (lt p hi) t))

meets_at : (lo hi : Float) (l : List Float) (p : Float) → holds l p ≡ true → within lo hi p ≡ true → meets lo hi l ≡ true
unfolding meets holds
meets_at lo hi [] p s t = absurd (false≢true s)
meets_at lo hi (a ∷ []) p s t = absurd (false≢true s)
meets_at lo hi (a ∷ b ∷ l) p s t = elim (or_cases (within a b p) (holds l p) s) [
  | inl u ↦ or_left (lt lo b && lt a hi) (meets lo hi l) (meet-at a b lo hi p u t)
  | inr u ↦ or_right (lt lo b && lt a hi) (meets lo hi l) (meets_at lo hi l p u t)
]

pub hit-at : (l hits : List Float) (p : Float) → holds l p ≡ true → holds hits p ≡ true → is_hit_by l hits ≡ true
unfolding is_hit_by holds
hit-at l [] p s t = absurd (false≢true t)
hit-at l (lo ∷ []) p s t = absurd (false≢true t)
hit-at l (lo ∷ hi ∷ hits) p s t = elim (or_cases (within lo hi p) (holds hits p) t) [
  | inl u ↦
      or_left (lt lo hi && meets lo hi l) (is_hit_by l hits)
      (both (lt lo hi) (meets lo hi l)
      (le_lt_trans lo p hi (and_left (le lo p) (lt p hi) u) (and_right (le lo p) (lt p hi) u)) (meets_at lo hi l p s u))
  | inr u ↦ or_right (lt lo hi && meets lo hi l) (is_hit_by l hits) (hit-at l hits p s u)
]

pub no_hit : (l hits : List Float) → is_hit_by l hits ≡ false → Apart l hits
no_hit l hits t p s = elim (by_cases (holds hits p)) [ inl u ↦ absurd (clash (is_hit_by l hits) (hit-at l hits p s u) t) | inr u ↦ u ]

-- THE LAW: the set of a sound list stays exactly when no hit has a point of it. Where the ends of both are doubles,
-- it is enough that each point stays.
not-kept : (l hits : List Float) (p : Float) → holds l p ≡ true → holds hits p ≡ true → (holds l p && not (holds hits p)) ≡ holds l p → ⊥
not-kept l hits p x y e = clash (holds hits p) y
    (sym (not-not (holds hits p)) ∙ ap not (and_right (holds l p) (not (holds hits p)) (e ∙ x)))

pub unhit-points : (l hits : List Float) → sound l ≡ true → All Double l → All Double hits
    → ((p : Float) → Point p → (holds l p && not (holds hits p)) ≡ holds l p) → is_hit_by l hits ≡ false
unhit-points l hits s dl dh f = elim (by_cases (is_hit_by l hits)) [
  | inl t ↦
      let (p, d, x, y) = hit-point Double l hits dl dh (sound-rising l s) t in
      absurd (not-kept l hits p x y (f p (d, held_number l p x)))
  | inr t ↦ t
]

all-unit : (l : List Float) → All (λ e. Unit {0}) l
all-unit [] = tt
all-unit (x ∷ l) = (tt, all-unit l)

pub kept-unhit : (l hits : List Float) → sound l ≡ true
    → ((p : Float) → (holds l p && not (holds hits p)) ≡ holds l p) ↔ (is_hit_by l hits ≡ false)
kept-unhit l hits s = (to, from)
  where
    to : ((p : Float) → (holds l p && not (holds hits p)) ≡ holds l p) → is_hit_by l hits ≡ false
    to f = elim (by_cases (is_hit_by l hits)) [
      | inl t ↦ let (p, d, x, y) = hit-point (λ e. Unit {0}) l hits (all-unit l) (all-unit hits) (sound-rising l s) t
          in absurd (not-kept l hits p x y (f p))
      | inr t ↦ t
    ]

    from : is_hit_by l hits ≡ false → (p : Float) → (holds l p && not (holds hits p)) ≡ holds l p
    from t p = elim (by_cases (holds l p)) [
      | inl x ↦ both (holds l p) (not (holds hits p)) x (ap not (no_hit l hits t p x)) ∙ sym x
      | inr x ↦ ap (λ (b : Bool). b && not (holds hits p)) x ∙ sym x
    ]

-- a boundary of a sound list moves exactly when a hit has a point of it
pub moves-hit : (l hits m : List Float) → sound l ≡ true → ListOf (λ p. holds l p && not (holds hits p)) m
    → not (equal l m) ≡ is_hit_by l hits
moves-hit l hits m s k = elim (by_cases (equal l m)) [
  | inl e ↦ ap not e ∙ sym ((kept-unhit l hits s).0 (λ p. sym (k.points p) ∙ sym (equal-holds l m e p)))
  | inr e ↦ elim (by_cases (is_hit_by l hits)) [
    | inl t ↦ ap not e ∙ sym t
    | inr t ↦ absurd (clash (equal l m) (same_set l m s k.is_sound (λ p n. sym ((kept-unhit l hits s).1 t p) ∙ sym (k.points p))) e)
  ]
]
