-- The code's tests of a tool; `unfit-tool` and `bad-tool` in proofs/Limits.antt tie them to document 01's clauses. A
-- NaN fails every test.
use Rattle.std.specs.Prelude.{Bool, true, false, not, ◌&&◌, Float}
use Rattle.std.specs.Float.Ieee.{lt, le, is_nan}
use Rattle.doubles.specs.Constants.{million, millionth, plus_zero}
use Rattle.cutter.specs.declared.CutterShape.{CutterShape}
use Rattle.cutter.specs.declared.CutterShape.TheVariants.{Flat, Ball, Bull, Drill, Chamfer, Beam, Probe, Lollipop, Dovetail}
use Rattle.cutter.specs.declared.PreparedCutter.{PreparedCutter}

-- in (0, 1e6]
unfoldable pub above_zero : Float → Bool
above_zero x = lt plus_zero x && le x million

-- in [0, 1e6]
unfoldable pub from_zero : Float → Bool
from_zero x = le plus_zero x && le x million

-- any double but a NaN
unfoldable pub is_not_nan : Float → Bool
is_not_nan x = not (is_nan x)

-- the numbers that must be above 0
unfoldable pub sizes_fit : PreparedCutter → Bool
sizes_fit c = above_zero c.diameter_mm && (above_zero c.cutting_length_mm && above_zero c.radius)

-- the numbers that may be 0
unfoldable pub heights_fit : PreparedCutter → Bool
heights_fit c = from_zero c.tip_height && (from_zero c.slope && from_zero c.shoulder)

-- the tool is no shorter than its cutting part
unfoldable pub lengths_fit : PreparedCutter → Bool
lengths_fit c = le c.cutting_length_mm c.overall_length_mm && le c.overall_length_mm million

-- the neck and the shank never cut: of them only a NaN is refused
unfoldable pub diameters_fit : PreparedCutter → Bool
diameters_fit c = is_not_nan c.neck_diameter_mm && is_not_nan c.shank_diameter_mm

-- the shape's own numbers, and for a dovetail the slope, by which its radius is divided
unfoldable pub shape_fits : CutterShape → Float → Bool
shape_fits Flat slope = true
shape_fits Ball slope = true
shape_fits (Bull corner) slope = from_zero corner
shape_fits (Drill angle) slope = from_zero angle
shape_fits (Chamfer angle diameter) slope = from_zero angle && from_zero diameter
shape_fits Beam slope = true
shape_fits Probe slope = true
shape_fits Lollipop slope = true
shape_fits (Dovetail angle) slope = from_zero angle && le millionth slope

-- all tests of refusal 6
unfoldable pub within_limits : CutterShape → PreparedCutter → Bool
within_limits shape c = sizes_fit c && (heights_fit c && (lengths_fit c && (diameters_fit c && shape_fits shape c.slope)))

-- the test of refusal 5
unfoldable pub is_beam : CutterShape → Bool
is_beam Flat = false
is_beam Ball = false
is_beam (Bull corner) = false
is_beam (Drill angle) = false
is_beam (Chamfer angle diameter) = false
is_beam Beam = true
is_beam Probe = false
is_beam Lollipop = false
is_beam (Dovetail angle) = false
