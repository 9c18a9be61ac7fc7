-- Finite values of a format as whole numbers of units. A unit is the format's smallest positive value, 2 ^ -1074 for binary64.
use Rattle.std.specs.Prelude.{◌≡◌, ℕ, Bool, cond, T, ℤ, pos, neg_ℤ, Float}
use Rattle.std.specs.Float.{nan, inf, fin, Format}
use Rattle.std.specs.Float.Ieee.{fits}
use Rattle.std.specs.Float.Ieee.Scale.{finite}
use Rattle.doubles_sqrt.specs.Root.{magnitude}

-- n with a sign, negative where s is true
abbrev pub signed : Bool → ℕ → ℤ
signed s n = cond s (neg_ℤ (pos n)) (pos n)

-- a finite value's number of units, with its sign; 0 for a NaN and an infinity
unfoldable pub signed_magnitude : Format → Float → ℤ
unfolding magnitude
signed_magnitude f nan = pos 0
signed_magnitude f (inf s) = pos 0
signed_magnitude f (fin s m e) = signed s (magnitude f (fin s m e))

-- x is a finite value that the format holds, of z units
pub record HasUnits (f : Format) (x : Float) (z : ℤ) : Type 0 where
  pub held : T (fits f x)
  pub finite : T (finite x)
  pub units : signed_magnitude f x ≡ z
