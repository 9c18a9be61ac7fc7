-- Extents along x within a band of y, each operation rounded (sweep.rs: disk_strip, stadium_strip).
use Rattle.std.specs.Prelude.{cond, Float}
use Rattle.std.specs.Float.{binary64}
use Rattle.std.specs.Float.Ieee.{add, sub, mul, div, neg, lt, le}
use Rattle.doubles.specs.Constants.{plus_zero}
use Rattle.doubles.specs.Doubles.{larger_of, smaller_of}
use Rattle.doubles_sqrt.specs.Root.{square_root}
use Rattle.strips.specs.declared.PlanePoint.{PlanePoint}
use Rattle.strips.specs.declared.Strip.{Strip}
use Rattle.strips.specs.declared.Strip.TheVariants.{Hit, Miss}
use Rattle.strips.specs.Polygon.{polygon_strip}

-- how far y lies outside the band from y0 to y1
unfoldable pub band_distance : Float → Float → Float → Float
band_distance y y0 y1 = cond (lt y y0) (sub binary64 y0 y) (cond (lt y1 y) (sub binary64 y y1) plus_zero)

-- half the chord of a circle of radius rho at the distance dy from its centre
unfoldable pub half_chord : Float → Float → Float
half_chord rho dy = square_root binary64 (larger_of (mul binary64 (sub binary64 rho dy) (add binary64 rho dy)) plus_zero)

-- the chord at the distance dy from a centre at x, if the circle reaches it
unfoldable pub chord_strip : Float → Float → Float → Strip
chord_strip x rho dy =
    cond (le dy rho)
    (Hit (sub binary64 x (half_chord rho dy)) (add binary64 x (half_chord rho dy)))
    Miss

unfoldable pub disk_strip : PlanePoint → Float → Float → Float → Strip
disk_strip c rho y0 y1 = chord_strip c.x rho (band_distance c.y y0 y1)

-- the smallest extent that holds both
unfoldable pub hull : Strip → Strip → Strip
hull Miss b = b
hull (Hit lo hi) Miss = Hit lo hi
hull (Hit lo hi) (Hit lo' hi') = Hit (smaller_of lo lo') (larger_of hi hi')

-- the rectangle between the end disks; `length` is the plan length from a to b
unfoldable pub side_strip : PlanePoint → PlanePoint → Float → Float → Float → Float → Strip
side_strip a b length rho y0 y1 =
    let nx = mul binary64 (div binary64 (neg (sub binary64 b.y a.y)) length) rho in
    let ny = mul binary64 (div binary64 (sub binary64 b.x a.x) length) rho in
    cond (lt plus_zero length)
    (polygon_strip
    (record { x = add binary64 a.x nx; y = add binary64 a.y ny })
    (record { x = add binary64 b.x nx; y = add binary64 b.y ny })
    (record { x = sub binary64 b.x nx; y = sub binary64 b.y ny })
    (record { x = sub binary64 a.x nx; y = sub binary64 a.y ny })
    y0 y1)
    Miss

unfoldable pub stadium_strip : PlanePoint → PlanePoint → Float → Float → Float → Float → Strip
stadium_strip a b length rho y0 y1 =
    hull (hull (disk_strip a rho y0 y1) (disk_strip b rho y0 y1)) (side_strip a b length rho y0 y1)
