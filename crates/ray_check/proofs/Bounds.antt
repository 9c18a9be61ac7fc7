-- The test of `is_bounded`: a list is bounded where each of its elements is, and not where one is not.
use Rattle.std.specs.Prelude.{◌≡◌, Bool, true, false, ◌&&◌, List, [], ◌∷◌, ℕ, zero, suc, ◌<◌, length, slice_index_or, Float, MatchBool}
use Rattle.std.specs.Float.Ieee.{nan, le}
use Rattle.std.specs.List.{AllWithin, HoldsAt}
use Rattle.std.proofs.Common.{refl, sym, ap, arith}
use Rattle.logic.proofs.Bools.{both, and_left, and_right, and-false}
use Rattle.spans.specs.Rays.{bounded}

-- `a && b` fails, and so does what asks it and more
and_then : (a b r : Bool) → (a && b) ≡ false → (a && (b && r)) ≡ false
and_then true b r h = ap (λ (t : Bool). t && r) h
and_then false b r h = refl

module _ (lo hi : Float) where
  abbrev pub Inside : Bool → Float → Type 0
  Inside b x = (le lo x && le x hi) ≡ b

  all_inside : (l : List Float) → ((k : ℕ) (d : Float) → k < length l → Inside true (slice_index_or l k d)) → bounded lo hi l ≡ true
  unfolding bounded
  all_inside [] f = refl
  all_inside (x ∷ l) f =
      let h : (le lo x && le x hi) ≡ true = f 0 nan (omega arith) in
      both _ _ (and_left _ _ h) (both _ _ (and_right _ _ h) (all_inside l (λ k d g. f (suc k) d (omega arith))))

  one_outside : (l : List Float) (k : ℕ) → k < length l → HoldsAt (Inside false) l k → bounded lo hi l ≡ false
  unfolding bounded
  one_outside (x ∷ l) zero h f = and_then (le lo x) (le x hi) (bounded lo hi l) (f nan)
  one_outside (x ∷ l) (suc k) h f =
      let t : bounded lo hi l ≡ false = one_outside l k (omega arith) (λ d. f d) in
      and-false (le lo x) _ (and-false (le x hi) _ t)
  one_outside [] k h f = absurd (omega arith)

  pub bounded-tells : (l : List Float) (r : Bool)
      → MatchBool r (AllWithin (Inside true) l 0 (length l)) ((k : ℕ) × (k < length l) × HoldsAt (Inside false) l k)
      → r ≡ bounded lo hi l
  bounded-tells l true f = sym (all_inside l (λ k d h. f k d (omega arith) h))
  bounded-tells l false f = sym (one_outside l f.0 f.1 f.2)
