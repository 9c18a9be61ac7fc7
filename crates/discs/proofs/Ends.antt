-- The ends of a strip against a point x / s: by their units (`end_below`, `end-above`), and an end further out holds what the nearer one
-- holds (`below-le`, `above-le`). Assumes nothing.
use mathlib.Core.Path.{◌≡◌, sym, subst}
use mathlib.Core.Bool.{true, false, true≢false}
use Prim.Native.Nat.{ℕ}
use native.Mathlib.Nat.{mul-le-mul_left}
use native.Mathlib.Omega.{arith}
use lib.Dec.{T}
use lib.IntN.{ℤ, pos, ◌*ℤ◌}
use lib.Signed.{◌≤ℤ◌}
use lib.Ieee.{Float, nan, inf, fin, binary64, le, fits}
use Rattle.doubles_rounding.specs.Units.{HasUnits}
use Rattle.doubles_rounding.proofs.IntegerParts.{scaled-le, le-scaled, to-scaled-le, to-le-scaled}
use Rattle.doubles_rounding.proofs.Values.{own-units, le-value}
use Rattle.discs.specs.Disc.{in_units, EndBelow, EndAbove}

pub end_below : (s : ℕ) (v : Float) (z x : ℤ) → HasUnits binary64 v z → (pos s *ℤ z) ≤ℤ x → EndBelow s v x
unfolding EndBelow
end_below s nan z x w h = absurd w.finite
end_below s (inf t) z x w h = absurd w.finite
end_below s (fin t m e) z x w h = subst (λ (u : ℤ). (pos s *ℤ u) ≤ℤ x) (sym w.units) h

pub end-above : (s : ℕ) (v : Float) (z x : ℤ) → HasUnits binary64 v z → x ≤ℤ (pos s *ℤ z) → EndAbove s v x
unfolding EndAbove
end-above s nan z x w h = absurd w.finite
end-above s (inf true) z x w h = absurd w.finite
end-above s (inf false) z x w h = absurd w.finite
end-above s (fin t m e) z x w h = subst (λ (u : ℤ). x ≤ℤ (pos s *ℤ u)) (sym w.units) h

-- ---- an end further out
pub below-le : (s : ℕ) (x : ℤ) (a b : Float) → T (fits binary64 a) → T (fits binary64 b) → le a b ≡ true → EndBelow s b x → EndBelow s a x
unfolding EndBelow le
below-le s x nan b p q h k = absurd (true≢false (sym h))
below-le s x (inf true) b p q h k = tt
below-le s x (inf false) nan p q h k = absurd k
below-le s x (inf false) (inf true) p q h k = absurd (true≢false (sym h))
below-le s x (inf false) (inf false) p q h k = absurd k
below-le s x (inf false) (fin t n d) p q h k = absurd (true≢false (sym h))
below-le s x (fin u m e) nan p q h k = absurd k
below-le s x (fin u m e) (inf true) p q h k = absurd (true≢false (sym h))
below-le s x (fin u m e) (inf false) p q h k = absurd k
below-le s x (fin u m e) (fin t n d) p q h k =
    below (fin u m e) (fin t n d) (own-units binary64 (fin u m e) p tt) (own-units binary64 (fin t n d) q tt) h k
  where
    below : (a b : Float) → HasUnits binary64 a (in_units a) → HasUnits binary64 b (in_units b) → le a b ≡ true
        → (pos s *ℤ in_units b) ≤ℤ x → (pos s *ℤ in_units a) ≤ℤ x
    below a b v w h k =
        let order = le-value binary64 a b (in_units a) (in_units b) v w h in
        to-scaled-le s (in_units a) x (omega (arith, mul-le-mul_left s order, scaled-le s (in_units b) x k))

pub above-le : (s : ℕ) (x : ℤ) (a b : Float) → T (fits binary64 a) → T (fits binary64 b) → le a b ≡ true → EndAbove s a x → EndAbove s b x
unfolding EndAbove le
above-le s x nan b p q h k = absurd k
above-le s x (inf true) b p q h k = absurd k
above-le s x (inf false) nan p q h k = absurd (true≢false (sym h))
above-le s x (inf false) (inf true) p q h k = absurd (true≢false (sym h))
above-le s x (inf false) (inf false) p q h k = k
above-le s x (inf false) (fin t n d) p q h k = absurd (true≢false (sym h))
above-le s x (fin u m e) nan p q h k = absurd (true≢false (sym h))
above-le s x (fin u m e) (inf true) p q h k = absurd (true≢false (sym h))
above-le s x (fin u m e) (inf false) p q h k = tt
above-le s x (fin u m e) (fin t n d) p q h k =
    above (fin u m e) (fin t n d) (own-units binary64 (fin u m e) p tt) (own-units binary64 (fin t n d) q tt) h k
  where
    above : (a b : Float) → HasUnits binary64 a (in_units a) → HasUnits binary64 b (in_units b) → le a b ≡ true
        → x ≤ℤ (pos s *ℤ in_units a) → x ≤ℤ (pos s *ℤ in_units b)
    above a b v w h k =
        let order = le-value binary64 a b (in_units a) (in_units b) v w h in
        to-le-scaled s (in_units b) x (omega (arith, mul-le-mul_left s order, le-scaled s (in_units a) x k))
