-- A test that both ends hold fails exactly outside the range; and between finite ends, outside is not finite, below or
-- above. Assumes nothing.
use Rattle.std.proofs.Common.{◌≡◌, true, false, ◌&&◌, ◌⊎◌, sym, refl, inl, inr, true≢false}
use lib.Ieee.{Float, nan, inf, fin, lt, le, eq, is_nan}
use lib.Ieee.Scale.{finite}
use Rattle.logic.proofs.Bools.{and_cases, and_left, and_right, clash}
use Rattle.doubles.specs.Constants.{plus_zero}
use Rattle.doubles.specs.Doubles.{Number}
use Rattle.doubles.specs.Ranges.{OutOf, OutOfPositive}
use Rattle.doubles.proofs.Order.{not-le→lt, lt→not-le, fin-number}

pub finite_number : (x : Float) → finite x ≡ true → Number x
unfolding is_nan
finite_number nan h = absurd (true≢false (sym h))
finite_number (inf s) h = refl
finite_number (fin s m e) h = refl

module _ (lo hi x : Float) where
  pub out_of : (le lo x && le x hi) ≡ false → OutOf lo hi x
  unfolding OutOf
  out_of h = and_cases (le lo x) (le x hi) h

  pub not-out : (le lo x && le x hi) ≡ true → OutOf lo hi x → ⊥
  unfolding OutOf
  not-out h (inl l) = clash (le lo x) (and_left (le lo x) (le x hi) h) l
  not-out h (inr l) = clash (le x hi) (and_right (le lo x) (le x hi) h) l

module _ (hi x : Float) where
  pub out-of-positive : (lt plus_zero x && le x hi) ≡ false → OutOfPositive hi x
  unfolding OutOfPositive
  out-of-positive h = and_cases (lt plus_zero x) (le x hi) h

  pub not-out-positive : (lt plus_zero x && le x hi) ≡ true → OutOfPositive hi x → ⊥
  unfolding OutOfPositive
  not-out-positive h (inl l) = clash (lt plus_zero x) (and_left (lt plus_zero x) (le x hi) h) l
  not-out-positive h (inr l) = clash (le x hi) (and_right (lt plus_zero x) (le x hi) h) l

-- not finite, below lo, or above hi
abbrev pub Beyond : (lo hi x : Float) → Type 0
Beyond lo hi x = (finite x ≡ false) ⊎ ((lt x lo ≡ true) ⊎ (lt hi x ≡ true))

endless-out : (lo hi x : Float) → finite lo ≡ true → finite hi ≡ true → finite x ≡ false → (le lo x ≡ false) ⊎ (le x hi ≡ false)
unfolding le lt eq
endless-out nan hi x f g i = absurd (true≢false (sym f))
endless-out (inf s) hi x f g i = absurd (true≢false (sym f))
endless-out (fin s m e) nan x f g i = absurd (true≢false (sym g))
endless-out (fin s m e) (inf t) x f g i = absurd (true≢false (sym g))
endless-out (fin s m e) (fin t n d) nan f g i = inl refl
endless-out (fin s m e) (fin t n d) (inf true) f g i = inl refl
endless-out (fin s m e) (fin t n d) (inf false) f g i = inr refl
endless-out (fin s m e) (fin t n d) (fin r k c) f g i = absurd (true≢false i)

module _ (lo hi : Float) (f : finite lo ≡ true) (g : finite hi ≡ true) where
  pub out-beyond : (x : Float) → OutOf lo hi x → Beyond lo hi x
  unfolding OutOf
  out-beyond nan h = inl refl
  out-beyond (inf s) h = inl refl
  out-beyond (fin s m e) (inl l) = inr (inl (not-le→lt lo (fin s m e) (finite_number lo f) (fin-number s m e) l))
  out-beyond (fin s m e) (inr l) = inr (inr (not-le→lt (fin s m e) hi (fin-number s m e) (finite_number hi g) l))

  pub beyond-out : (x : Float) → Beyond lo hi x → OutOf lo hi x
  unfolding OutOf
  beyond-out x (inl i) = endless-out lo hi x f g i
  beyond-out x (inr (inl l)) = inl (lt→not-le x lo l)
  beyond-out x (inr (inr l)) = inr (lt→not-le hi x l)
