-- Constants, and tests on three numbers, one per axis.
use Rattle.std.specs.Prelude.{Bool, ◌&&◌, ℕ, pos, Float}
use Rattle.std.specs.Float.{binary64}
use Rattle.std.specs.Float.Ieee.{of_int, le}
use Rattle.grid.specs.declared.Vec3.{Vec3}

-- a whole number as the nearest double, Rust's `as f64`
abbrev pub whole : ℕ → Float
whole n = of_int binary64 (pos n)

-- from lo to hi; a NaN never is
unfoldable pub is_between : Float → Float → Float → Bool
is_between x lo hi = le lo x && le x hi

unfoldable pub all_between : Vec3 → Float → Float → Bool
all_between p lo hi = is_between p.x lo hi && (is_between p.y lo hi && is_between p.z lo hi)
