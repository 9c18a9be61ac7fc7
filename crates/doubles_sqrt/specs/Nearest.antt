-- IEEE 754's square root: the double nearest to the exact root.
use Rattle.std.specs.Prelude.{◌+◌, ◌*◌, ◌^◌, ◌<◌, T, Float}
use Rattle.std.specs.Float.{Format}
use Rattle.std.specs.Float.Ieee.{low, fits}
use Rattle.std.specs.Float.Ieee.Positive.{positive}
use Rattle.doubles_sqrt.specs.Root.{magnitude}

-- r is nearer to the root of x than y is, for finite r and y: where y is larger, the root lies below the point midway
-- between the two, and where y is smaller, above it. In units, twice that point is r + y, and the root's square is x
-- * 2 ^ low. Signs are not looked at, and a NaN or an infinity counts as 0.
pub record Nearer (f : Format) (x r y : Float) : Type 0 where
  pub above : magnitude f r < magnitude f y → 4 * (magnitude f x * 2 ^ low f) < (magnitude f r + magnitude f y)
      * (magnitude f r + magnitude f y)
  pub below : magnitude f y < magnitude f r → (magnitude f r + magnitude f y) * (magnitude f r + magnitude f y) < 4
      * (magnitude f x * 2 ^ low f)

-- r is the correctly rounded root of x, for a positive finite x: a positive finite value of the format that is nearer
-- to the root than every other value of the format.
pub record NearestRoot (f : Format) (x r : Float) : Type 0 where
  pub holds : T (fits f r)
  pub above_zero : T (positive r)
  pub nearer : (y : Float) → T (fits f y) → Nearer f x r y
