-- Which points a turned interval holds: those whose own turn the interval holds, where a negative sign moves the end
-- that belongs to it over.
use Rattle.std.specs.Prelude.{◌≡◌, Bool, cond, ◌&&◌, Float}
use Rattle.std.specs.Float.Ieee.{neg, lt, le}
use Rattle.doubles.specs.Constants.{plus_zero}
use Rattle.frame.specs.declared.Pair.{Pair}
use Rattle.frame.specs.Frame.{turned}

-- a point turned by a sign
unfoldable pub turned_point : Float → Float → Float
turned_point s p = cond (lt plus_zero s) p (neg p)

-- lo ≤ p ≤ hi, lo < p < hi, lo ≤ p < hi and lo < p ≤ hi
abbrev pub closed : Pair → Float → Bool
closed i p = le i.lo p && le p i.hi

abbrev pub between : Pair → Float → Bool
between i p = lt i.lo p && lt p i.hi

abbrev pub from_lo : Pair → Float → Bool
from_lo i p = le i.lo p && lt p i.hi

abbrev pub to_hi : Pair → Float → Bool
to_hi i p = lt i.lo p && le p i.hi

-- what turning by the sign s does to the points of an interval
pub record FrameTurned (s : Float) (i : Pair) (p : Float) : Type 0 where
  pub closed_is : closed (turned s i) p ≡ closed i (turned_point s p)
  pub between_is : between (turned s i) p ≡ between i (turned_point s p)
  -- a span holds lo and not hi; turned by a positive sign it still does, by a negative one it holds the points whose
  -- turn lies above lo and up to hi
  pub span_is : from_lo (turned s i) p ≡ cond (lt plus_zero s) (from_lo i p) (to_hi i (neg p))
