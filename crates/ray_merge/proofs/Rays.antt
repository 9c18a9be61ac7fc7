-- A sound list whose points lie in a bounded list is bounded.
use mathlib.Core.Path.{◌≡◌, refl}
use mathlib.Core.Logic.{inl, inr}
use mathlib.Core.Bool.{true, ◌&&◌, false≢true}
use mathlib.Core.List.{List, [], ◌∷◌}
use Prim.Native.Nat.{ℕ, suc, ◌%◌}
use native.Mathlib.Omega.{arith}
use lib.ListN.{length}
use lib.Ieee.{Float, lt, le}
use Rattle.logic.proofs.Bools.{and_left, and_right, both, or_cases, or_left, or_right, by_cases, clash}
use Rattle.doubles.proofs.Order.{lt-number, lt→le, le_refl, le_trans, lt_irrefl, lt-le-trans, not-le→lt}
use Rattle.spans.specs.Spans.{within, holds, sound, Within}
use Rattle.spans.proofs.Sets.{sound-rising, sound-mod, make-sound}
use Rattle.spans.proofs.Ends.{rising-first, rising-tail}
use Rattle.spans.specs.Rays.{bounded}

tail-sound : (x y : Float) (l : List Float) → sound (x ∷ y ∷ l) ≡ true → sound l ≡ true
tail-sound x y l h =
    make-sound l (even (length l) (sound-mod (x ∷ y ∷ l) h)) (rising-tail y l (rising-tail x (y ∷ l) (sound-rising (x ∷ y ∷ l) h)))
  where
    even : (n : ℕ) → suc (suc n) % 2 ≡ 0 → n % 2 ≡ 0
    even n h = omega arith

-- ---- bounds
module _ (lo hi : Float) where
  -- the first end, and the others
  first : (x : Float) (l : List Float) → bounded lo hi (x ∷ l) ≡ true → (le lo x ≡ true) × (le x hi ≡ true) × (bounded lo hi l ≡ true)
  unfolding bounded
  first x l h =
      let t = and_right (le lo x) (le x hi && bounded lo hi l) h in
      (and_left (le lo x) (le x hi && bounded lo hi l) h, and_left (le x hi) (bounded lo hi l) t, and_right (le x hi) (bounded lo hi l) t)

  -- the points of a bounded list lie within the bounds
  point-bounds : (l : List Float) (p : Float) → bounded lo hi l ≡ true → holds l p ≡ true → (le lo p ≡ true) × (lt p hi ≡ true)
  unfolding holds
  point-bounds [] p b h = absurd (false≢true h)
  point-bounds (x ∷ []) p b h = absurd (false≢true h)
  point-bounds (x ∷ y ∷ l) p b h =
      let f = first x (y ∷ l) b in
      let g = first y l f.2 in
      elim (or_cases (within x y p) (holds l p) h) [
        | inl k ↦ (le_trans lo x p f.0 (and_left (le x p) (lt p y) k), lt-le-trans p y hi (and_right (le x p) (lt p y) k) g.1)
        | inr k ↦ point-bounds l p g.2 k
      ]

  -- a sound list whose points lie in a bounded list is bounded
  pub bounded-within : (m l : List Float) → bounded lo hi m ≡ true → sound l ≡ true → Within m l → bounded lo hi l ≡ true
  unfolding bounded holds
  bounded-within m [] b s w = refl
  bounded-within m (x ∷ []) b s w = absurd (odd (sound-mod (x ∷ []) s))
    where
      odd : 1 % 2 ≡ 0 → ⊥
      odd h = omega arith
  bounded-within m (x ∷ y ∷ l) b s w =
      let up : lt x y ≡ true = rising-first x y l (sound-rising (x ∷ y ∷ l) s) in
      let at-lo : (le lo x ≡ true) × (lt x hi ≡ true) =
      point-bounds m x b (w x (or_left (within x y x) (holds l x) (both (le x x) (lt x y) (le_refl x (lt-number x y up).0) up))) in
      let tail = bounded-within m l b (tail-sound x y l s) (λ p h. w p (or_right (within x y p) (holds l p) h)) in
      both (le lo x) (le x hi && (le lo y && (le y hi && bounded lo hi l))) at-lo.0
      (both (le x hi) (le lo y && (le y hi && bounded lo hi l)) (lt→le x hi at-lo.1)
      (both (le lo y) (le y hi && bounded lo hi l) (le_trans lo x y at-lo.0 (lt→le x y up))
      (both (le y hi) (bounded lo hi l) (below up at-lo.1) tail)))
    where
      -- the upper bound is no point of the list
      below : lt x y ≡ true → lt x hi ≡ true → le y hi ≡ true
      below up under = elim (by_cases (le y hi)) [
        | inl k ↦ k
        | inr k ↦
            let over : lt hi y ≡ true = not-le→lt y hi (lt-number x y up).1 (lt-number x hi under).1 k in
            let in-m = w hi (or_left (within x y hi) (holds l hi) (both (le x hi) (lt hi y) (lt→le x hi under) over)) in
            absurd (clash (lt hi hi) (point-bounds m hi b in-m).1 (lt_irrefl hi))
      ]
