-- `common_of` is the sound list of the points in both a and b, and where two pairs stand apart nothing is added.
use mathlib.Core.Path.{◌≡◌, refl, sym, ◌∙◌, ap, ap₂}
use mathlib.Core.Logic.{inl, inr}
use mathlib.Core.Bool.{Bool, true, false, ◌&&◌, ◌||◌}
use mathlib.Core.List.{List, [], ◌∷◌, ◌++◌}
use Prim.Native.Nat.{◌%◌}
use native.Mathlib.Omega.{arith}
use lib.ListN.{length, length-append}
use lib.Ieee.{Float, lt, le}
use Rattle.spans.specs.Spans.{within, holds, rising, sound, common, ListOf, pair_if}
use Rattle.spans.specs.Overlay.{higher_of, lower_of, shared_by, common_of}
use Rattle.doubles.specs.Doubles.{Number, larger_of, smaller_of}
use Rattle.logic.proofs.Bools.{and_left, and_right, and-false, both, by_cases, clash}
use Rattle.doubles.proofs.Order.{lt→le, le→not-lt, le_trans, lt_trans, lt-le-trans}
use Rattle.spans.proofs.Ends.{All, all_append, all_map, Over, AtMost, Above, above-less, rising-tail, rising-above, rising-append}
use Rattle.spans.proofs.Sets.{odd_n-mod, sound-rising, make-sound}
use Rattle.spans.proofs.Points.{holds-append, numbers_of}
use Rattle.span_overlay.proofs.Less.{higher-first, higher-second, higher-both, lower-first, lower-second, lower-both}
use Rattle.span_overlay.proofs.Less.{pair-all, pair-even, pair-rising, pair-holds, pair-none, either}

-- of two numbers, Rust's `max` and `min`
pub larger-is : (x y : Float) → Number x → larger_of x y ≡ higher_of x y
unfolding larger_of
larger-is x y n = rw n refl

pub smaller-is : (x y : Float) → Number x → smaller_of x y ≡ lower_of x y
unfolding smaller_of
smaller-is x y n = rw n refl

-- one pair with another
module _ (lo hi x y : Float) (nl : Number lo) (nh : Number hi) (nx : Number x) (ny : Number y) where
  pub shared-is : pair_if (larger_of lo x) (smaller_of hi y) ≡ pair_if (higher_of lo x) (lower_of hi y)
  shared-is = ap₂ pair_if (larger-is lo x nl) (smaller-is hi y nh)

  -- apart: the second past the first, the first past the second
  pub apart-past : lt hi x ≡ true → pair_if (larger_of lo x) (smaller_of hi y) ≡ []
  apart-past h = shared-is ∙ pair-none (higher_of lo x) (lower_of hi y)
      (le→not-lt (lower_of hi y) (higher_of lo x)
      (le_trans (lower_of hi y) hi (higher_of lo x) (lower-first hi y nh)
      (le_trans hi x (higher_of lo x) (lt→le hi x h) (higher-second lo x nl nx))))

  pub apart-front : lt y lo ≡ true → pair_if (larger_of lo x) (smaller_of hi y) ≡ []
  apart-front h = shared-is ∙ pair-none (higher_of lo x) (lower_of hi y)
      (le→not-lt (lower_of hi y) (higher_of lo x)
      (le_trans (lower_of hi y) y (higher_of lo x) (lower-second hi y nh ny)
      (le_trans y lo (higher_of lo x) (lt→le y lo h) (higher-first lo x nl))))

  pub both_hold : (p : Float) → holds (pair_if (larger_of lo x) (smaller_of hi y)) p ≡ (within lo hi p && within x y p)
  both_hold p = ap (λ (l : List Float). holds l p) shared-is ∙ pair-holds (higher_of lo x) (lower_of hi y) p ∙ go
    where
      go : within (higher_of lo x) (lower_of hi y) p ≡ (within lo hi p && within x y p)
      go = elim (by_cases (within (higher_of lo x) (lower_of hi y) p)) [
        | inl w ↦
            let l = and_left (le (higher_of lo x) p) (lt p (lower_of hi y)) w in
            let h = and_right (le (higher_of lo x) p) (lt p (lower_of hi y)) w in
            w ∙ sym (rw (
              le_trans lo (higher_of lo x) p (higher-first lo x nl) l,
              lt-le-trans p (lower_of hi y) hi h (lower-first hi y nh),
              le_trans x (higher_of lo x) p (higher-second lo x nl nx) l,
              lt-le-trans p (lower_of hi y) y h (lower-second hi y nh ny),
            ) refl)
        | inr w ↦ w ∙ sym (elim (by_cases (within lo hi p && within x y p)) [
          | inr k ↦ k
          | inl k ↦
              let a = and_left (within lo hi p) (within x y p) k in
              let b = and_right (within lo hi p) (within x y p) k in
              absurd (clash (within (higher_of lo x) (lower_of hi y) p)
              (both (le (higher_of lo x) p) (lt p (lower_of hi y))
              (higher-both (λ z. le z p ≡ true) lo x (and_left (le lo p) (lt p hi) a)
              (and_left (le x p) (lt p y) b))
              (lower-both (λ z. lt p z ≡ true) hi y (and_right (le lo p) (lt p hi) a) (and_right (le x p) (lt p y) b))) w)
        ])
      ]

  -- its ends lie above what is below both los, up to both his
  pub shared-over : (z : Float) → lt z lo ≡ true → Above z (pair_if (larger_of lo x) (smaller_of hi y))
  shared-over z h = rw shared-is
      (pair-all (Over z) (higher_of lo x) (lower_of hi y)
      (λ t. let k = lt-le-trans z lo (higher_of lo x) h (higher-first lo x nl) in
      (k, lt_trans z (higher_of lo x) (lower_of hi y) k t)))

  pub shared-up_to : All (λ e. (le e hi ≡ true) × (le e y ≡ true)) (pair_if (larger_of lo x) (smaller_of hi y))
  shared-up_to = rw shared-is (pair-all (λ e. (le e hi ≡ true) × (le e y ≡ true)) (higher_of lo x) (lower_of hi y) (λ t. (
    (
      le_trans (higher_of lo x) (lower_of hi y) hi (lt→le (higher_of lo x) (lower_of hi y) t) (lower-first hi y nh),
      le_trans (higher_of lo x) (lower_of hi y) y (lt→le (higher_of lo x) (lower_of hi y) t) (lower-second hi y nh ny),
    ),
    (lower-first hi y nh, lower-second hi y nh ny),
  )))

  pub shared-above : (z : Float) → lt z x ≡ true → Above z (pair_if (larger_of lo x) (smaller_of hi y))
  shared-above z h = rw shared-is
      (pair-all (Over z) (higher_of lo x) (lower_of hi y)
      (λ t. let k = lt-le-trans z x (higher_of lo x) h (higher-second lo x nl nx) in
      (k, lt_trans z (higher_of lo x) (lower_of hi y) k t)))

-- ---- a pair with a list
module _ (lo hi : Float) (nl : Number lo) (nh : Number hi) where
  pub by-none : (b : List Float) → All Number b → Above hi b → shared_by lo hi b ≡ []
  unfolding shared_by
  by-none [] nb h = refl
  by-none (x ∷ []) nb h = refl
  by-none (x ∷ y ∷ b) nb h = ap₂ ◌++◌ (apart-past lo hi x y nl nh nb.0 nb.1.0 h.0) (by-none b nb.1.1 h.1.1)

  by-even : (b : List Float) → length (shared_by lo hi b) % 2 ≡ 0
  unfolding shared_by
  by-even [] = omega arith
  by-even (x ∷ []) = omega arith
  by-even (x ∷ y ∷ b) = omega (
    arith,
    length-append (pair_if (larger_of lo x) (smaller_of hi y)) (shared_by lo hi b),
    pair-even (larger_of lo x) (smaller_of hi y),
    by-even b,
  )

  by_over : (z : Float) (b : List Float) → All Number b → lt z lo ≡ true → Above z (shared_by lo hi b)
  unfolding shared_by
  by_over z [] nb h = tt
  by_over z (x ∷ []) nb h = tt
  by_over z (x ∷ y ∷ b) nb h = all_append (Over z) (pair_if (larger_of lo x) (smaller_of hi y)) (shared_by lo hi b)
      (shared-over lo hi x y nl nh nb.0 nb.1.0 z h) (by_over z b nb.1.1 h)

  by-above : (z : Float) (b : List Float) → All Number b → Above z b → Above z (shared_by lo hi b)
  unfolding shared_by
  by-above z [] nb h = tt
  by-above z (x ∷ []) nb h = tt
  by-above z (x ∷ y ∷ b) nb h = all_append (Over z) (pair_if (larger_of lo x) (smaller_of hi y)) (shared_by lo hi b)
      (shared-above lo hi x y nl nh nb.0 nb.1.0 z h.0) (by-above z b nb.1.1 h.1.1)

  by-up_to : (b : List Float) → All Number b → All (AtMost hi) (shared_by lo hi b)
  unfolding shared_by
  by-up_to [] nb = tt
  by-up_to (x ∷ []) nb = tt
  by-up_to (x ∷ y ∷ b) nb = all_append (AtMost hi) (pair_if (larger_of lo x) (smaller_of hi y)) (shared_by lo hi b)
      (all_map (λ e. (le e hi ≡ true) × (le e y ≡ true)) (AtMost hi) (λ e k. k.0)
      (pair_if (larger_of lo x) (smaller_of hi y)) (shared-up_to lo hi x y nl nh nb.0 nb.1.0)) (by-up_to b nb.1.1)

  by-rising : (b : List Float) → All Number b → rising b ≡ true → rising (shared_by lo hi b) ≡ true
  unfolding shared_by rising
  by-rising [] nb r = refl
  by-rising (x ∷ []) nb r = refl
  by-rising (x ∷ y ∷ b) nb r =
      let first = pair_if (larger_of lo x) (smaller_of hi y) in
      let t : rising (y ∷ b) ≡ true = rising-tail x (y ∷ b) r in
      rising-append first (shared_by lo hi b) (pair-rising (larger_of lo x) (smaller_of hi y)) (by-rising b nb.1.1 (rising-tail y b t))
      (all_map (λ e. (le e hi ≡ true) × (le e y ≡ true)) (λ e. Above e (shared_by lo hi b))
      (λ e k. above-less e y k.1 (shared_by lo hi b) (by-above y b nb.1.1 (rising-above y b t))) first
      (shared-up_to lo hi x y nl nh nb.0 nb.1.0))

  by-holds : (b : List Float) (p : Float) → All Number b → holds (shared_by lo hi b) p ≡ (within lo hi p && holds b p)
  unfolding shared_by holds
  by-holds [] p nb = sym (and-false (within lo hi p) false refl)
  by-holds (x ∷ []) p nb = sym (and-false (within lo hi p) false refl)
  by-holds (x ∷ y ∷ b) p nb =
      let first = pair_if (larger_of lo x) (smaller_of hi y) in
      holds-append first (shared_by lo hi b) p (odd_n-mod (length first) (pair-even (larger_of lo x) (smaller_of hi y)))
      ∙ ap₂ ◌||◌ (both_hold lo hi x y nl nh nb.0 nb.1.0 p) (by-holds b p nb.1.1)
      ∙ parts (within lo hi p) (within x y p) (holds b p)
    where
      parts : (w u v : Bool) → ((w && u) || (w && v)) ≡ (w && (u || v))
      parts true u v = refl
      parts false u v = refl

-- ---- two lists
-- a pair of b that ends below a has nothing in common with it
pub past-front : (x y : Float) (a b : List Float) → All Number a → Number x → Number y → Above y a → common_of a (x ∷ y ∷ b) ≡ common_of a b
unfolding common_of shared_by
past-front x y [] b na nx ny h = refl
past-front x y (lo ∷ []) b na nx ny h = refl
past-front x y (lo ∷ hi ∷ a) b na nx ny h =
    ap₂ ◌++◌ (ap (λ (l : List Float). l ++ shared_by lo hi b) (apart-front lo hi x y na.0 na.1.0 nx ny h.0))
    (past-front x y a b na.1.1 nx ny h.1.1)

pub with_none : (a : List Float) → common_of a [] ≡ []
unfolding common_of shared_by
with_none [] = refl
with_none (x ∷ []) = refl
with_none (x ∷ y ∷ a) = with_none a

common-even : (a b : List Float) → All Number a → length (common_of a b) % 2 ≡ 0
unfolding common_of
common-even [] b na = omega arith
common-even (x ∷ []) b na = omega arith
common-even (lo ∷ hi ∷ a) b na =
    omega (
      arith,
      length-append (shared_by lo hi b) (common_of a b),
      by-even lo hi na.0 na.1.0 b,
      common-even a b na.1.1,
    )

common-over : (z : Float) (a b : List Float) → All Number a → All Number b → Above z a → Above z (common_of a b)
unfolding common_of
common-over z [] b na nb h = tt
common-over z (x ∷ []) b na nb h = tt
common-over z (lo ∷ hi ∷ a) b na nb h =
    all_append (Over z) (shared_by lo hi b) (common_of a b) (by_over lo hi na.0 na.1.0 z b nb h.0)
    (common-over z a b na.1.1 nb h.1.1)

common-rising : (a b : List Float) → All Number a → All Number b → rising a ≡ true → rising b ≡ true → rising (common_of a b) ≡ true
unfolding common_of rising
common-rising [] b na nb ra rb = refl
common-rising (x ∷ []) b na nb ra rb = refl
common-rising (lo ∷ hi ∷ a) b na nb ra rb =
    let r : rising (hi ∷ a) ≡ true = rising-tail lo (hi ∷ a) ra in
    rising-append (shared_by lo hi b) (common_of a b) (by-rising lo hi na.0 na.1.0 b nb rb)
    (common-rising a b na.1.1 nb (rising-tail hi a r) rb)
    (all_map (AtMost hi) (λ e. Above e (common_of a b))
    (λ e k. above-less e hi k (common_of a b) (common-over hi a b na.1.1 nb (rising-above hi a r)))
    (shared_by lo hi b) (by-up_to lo hi na.0 na.1.0 b nb))

common-holds : (a b : List Float) (p : Float) → All Number a → All Number b → holds (common_of a b) p ≡ common a b p
unfolding common_of holds
common-holds [] b p na nb = refl
common-holds (x ∷ []) b p na nb = refl
common-holds (lo ∷ hi ∷ a) b p na nb =
    holds-append (shared_by lo hi b) (common_of a b) p (odd_n-mod (length (shared_by lo hi b)) (by-even lo hi na.0 na.1.0 b))
    ∙ ap₂ ◌||◌ (by-holds lo hi na.0 na.1.0 b p nb) (common-holds a b p na.1.1 nb)
    ∙ either (within lo hi p) (holds a p) (holds b p)

pub common-list : (a b : List Float) → sound a ≡ true → sound b ≡ true → ListOf (common a b) (common_of a b)
common-list a b sa sb = record {
  is_sound = make-sound (common_of a b) (common-even a b (numbers_of a sa))
      (common-rising a b (numbers_of a sa) (numbers_of b sb) (sound-rising a sa) (sound-rising b sb));
  points = λ p. common-holds a b p (numbers_of a sa) (numbers_of b sb);
}
