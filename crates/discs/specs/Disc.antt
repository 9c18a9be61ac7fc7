-- The exact disc of a tool that stands still, and what it is for a strip to hold one of its points. Positions are whole numbers
-- of units of 2 ^ -1074, so every double is one. A point x, y at the scale s is x / s and y / s units: at s = 2 ^ k it has k
-- binary digits more than the doubles. Every rational point is such a point, and a real point of the closed disc within the
-- band is a limit of rational ones, so a closed pair that holds all of these holds it too.
use Rattle.std.specs.Prelude.{ℕ, ◌+◌, ◌*◌, ◌^◌, ◌≤◌, ◌<◌, true, false, T, ℤ, pos, nat_abs, ◌-ℤ◌, ◌*ℤ◌, ◌≤ℤ◌, Float}
use Rattle.std.specs.Float.{nan, inf, fin, binary64}
use Rattle.std.specs.Float.Ieee.{fits}
use Rattle.std.specs.Float.Ieee.Scale.{finite}
use Rattle.doubles_rounding.specs.Units.{signed_magnitude}
use Rattle.strips.specs.declared.Strip.{Strip}
use Rattle.strips.specs.declared.Strip.TheVariants.{Hit, Miss}

-- a finite double in units
abbrev pub in_units : Float → ℤ
in_units x = signed_magnitude binary64 x

-- x is a finite double of at most M units in size
pub record SizeAtMost (M : ℕ) (x : Float) : Type 0 where
  pub held : T (fits binary64 x)
  pub finite : T (finite x)
  pub bound : nat_abs (in_units x) ≤ M

-- e and the guard are each at least M / margin_parts
abbrev pub margin_parts : ℕ
margin_parts = 2 ^ 49

-- What W-234 asks of the numbers. M units bound the sizes of the centre's coordinates cx and cy, of the band's edges y0 and y1,
-- of e, the guard and the radius r, which is not negative. M is 2 ^ -20 at least, and so is every M that is 1e-6 at least
-- (`millionth-least` and `decimal-least` in proofs/Numbers.antt).
pub record DiscPre (M : ℕ) (cx cy y0 y1 e guard r : Float) : Type 0 where
  pub bound_least : 2 ^ 1054 ≤ M
  pub cx_bounded : SizeAtMost M cx
  pub cy_bounded : SizeAtMost M cy
  pub y0_bounded : SizeAtMost M y0
  pub y1_bounded : SizeAtMost M y1
  pub e_bounded : SizeAtMost M e
  pub guard_bounded : SizeAtMost M guard
  pub r_bounded : SizeAtMost M r
  pub r_least : (pos 0) ≤ℤ (in_units r)
  pub e_least : (pos M) ≤ℤ (pos margin_parts *ℤ in_units e)
  pub guard_least : (pos M) ≤ℤ (pos margin_parts *ℤ in_units guard)

-- the square of an integer, by its size
abbrev pub square_of : ℤ → ℕ
square_of z = nat_abs z * nat_abs z

-- the point x, y at the scale s lies in the closed disc of radius r around cx, cy, and in the closed band from y0 to y1
pub record InDisc (cx cy r y0 y1 : Float) (s : ℕ) (x y : ℤ) : Type 0 where
  pub scale : 0 < s
  pub near : square_of (x -ℤ pos s *ℤ in_units cx) + square_of (y -ℤ pos s *ℤ in_units cy) ≤ square_of (pos s *ℤ in_units r)
  pub above : (pos s *ℤ in_units y0) ≤ℤ y
  pub below : y ≤ℤ (pos s *ℤ in_units y1)

-- a double is at most x / s units
unfoldable pub EndBelow : ℕ → Float → ℤ → Type 0
EndBelow s nan x = ⊥
EndBelow s (inf t) x = T t
EndBelow s (fin t m e) x = (pos s *ℤ in_units (fin t m e)) ≤ℤ x

-- a double is at least x / s units
unfoldable pub EndAbove : ℕ → Float → ℤ → Type 0
EndAbove s nan x = ⊥
EndAbove s (inf true) x = ⊥
EndAbove s (inf false) x = Unit {0}
EndAbove s (fin t m e) x = x ≤ℤ (pos s *ℤ in_units (fin t m e))

-- the strip, with both ends, holds x / s units; a miss holds nothing
unfoldable pub HoldsClosed : ℕ → ℤ → Strip → Type 0
unfolding EndBelow EndAbove
HoldsClosed s x Miss = ⊥
HoldsClosed s x (Hit lo hi) = EndBelow s lo x × EndAbove s hi x
