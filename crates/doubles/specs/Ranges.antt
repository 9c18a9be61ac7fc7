-- Ranges of doubles as document 01's refusals name them. No comparison holds of a NaN, so a NaN is outside every
-- range; an infinity is outside where the ends are finite.
use Rattle.std.specs.Prelude.{◌≡◌, false, ◌⊎◌, Float}
use Rattle.std.specs.Float.Ieee.{lt, le}
use Rattle.doubles.specs.Constants.{plus_zero}

-- outside [lo, hi]
unfoldable pub OutOf : (lo hi x : Float) → Type 0
OutOf lo hi x = (le lo x ≡ false) ⊎ (le x hi ≡ false)

-- outside (0, hi]
unfoldable pub OutOfPositive : (hi x : Float) → Type 0
OutOfPositive hi x = (lt plus_zero x ≡ false) ⊎ (le x hi ≡ false)
