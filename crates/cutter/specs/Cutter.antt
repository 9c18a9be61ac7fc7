-- The radius of a cutter by height, each operation rounded (tool.rs: radius_at; sweep.rs: cut_radius, cut_max, cut_min).
use Rattle.std.specs.Prelude.{Bool, true, false, cond, not, ◌||◌, ◌&&◌, Float, Option, None, Some}
use Rattle.std.specs.Float.{nan, inf, fin, binary64}
use Rattle.std.specs.Float.Ieee.{add, sub, mul, div, lt, le}
use Rattle.doubles.specs.Constants.{plus_zero, two}
use Rattle.doubles.specs.Doubles.{larger_of, smaller_of, clamp_of}
use Rattle.doubles_sqrt.specs.Root.{square_root}
use Rattle.cutter.specs.declared.CutterShape.{CutterShape}
use Rattle.cutter.specs.declared.CutterShape.TheVariants.{Flat, Ball, Bull, Drill, Chamfer, Beam, Probe, Lollipop, Dovetail}
use Rattle.cutter.specs.declared.PreparedCutter.{PreparedCutter}
use Rattle.cutter.specs.declared.ProfileSlice.{ProfileSlice}
use Rattle.cutter.specs.declared.ProfileSlice.TheVariants.{Cutting, NonCutting}

-- neither a NaN nor an infinity
unfoldable pub is_finite : Float → Bool
is_finite nan = false
is_finite (inf s) = false
is_finite (fin s m e) = true

-- half the chord of a circle of radius r at the height z above its lowest point
unfoldable pub arc_at : Float → Float → Float
arc_at r z = square_root binary64 (larger_of (mul binary64 z (sub binary64 (mul binary64 two r) z)) plus_zero)

-- the full radius from the tip height on, and x below it
abbrev pub widening : PreparedCutter → Float → Float → Float
widening c z x = cond (le c.tip_height z) c.radius x

-- within the cutting length, by shape
unfoldable pub cutting_radius : CutterShape → PreparedCutter → Float → Float
cutting_radius Flat c z = c.radius
cutting_radius Ball c z = widening c z (arc_at c.radius z)
cutting_radius (Bull corner) c z = widening c z (add binary64 (sub binary64 c.radius corner) (arc_at corner z))
cutting_radius (Drill angle) c z = widening c z (mul binary64 z c.slope)
cutting_radius (Chamfer angle diameter) c z = widening c z (add binary64 (div binary64 diameter two) (mul binary64 z c.slope))
cutting_radius Beam c z = c.radius
cutting_radius Probe c z = widening c z (arc_at c.radius z)
cutting_radius Lollipop c z = arc_at c.radius z
cutting_radius (Dovetail angle) c z = sub binary64 c.radius (div binary64 z c.slope)

-- no section: z is not finite, below the tip or above the tool
unfoldable pub off_tool : Float → Float → Bool
off_tool overall z = not (is_finite z) || (lt z plus_zero || lt overall z)

-- the neck up to the shoulder, then the shank
unfoldable pub shank_diameter : PreparedCutter → Float → Float
shank_diameter c z = cond (le z c.shoulder) c.neck_diameter_mm c.shank_diameter_mm

unfoldable pub radius_at : CutterShape → PreparedCutter → Float → ProfileSlice
radius_at shape c z =
    cond (off_tool c.overall_length_mm z)
    ProfileSlice.Outside
    (cond (le z c.cutting_length_mm) (Cutting (cutting_radius shape c z)) (NonCutting (div binary64 (shank_diameter c z) two)))

-- a section's radius, and 0 where there is none
abbrev pub radius_of : ProfileSlice → Float
radius_of (Cutting r) = r
radius_of (NonCutting r) = r
radius_of ProfileSlice.Outside = plus_zero

unfoldable pub cut_radius : CutterShape → PreparedCutter → Float → Float
cut_radius shape c h = radius_of (radius_at shape c (clamp_of h plus_zero c.cutting_length_mm))

unfoldable pub cut_max : CutterShape → PreparedCutter → Float → Float → Option Float
cut_max shape c h0 h1 =
    let lo = larger_of h0 plus_zero in
    let hi = smaller_of h1 c.cutting_length_mm in
    cond (le lo hi) (Some (cut_radius shape c (clamp_of c.tip_height lo hi))) None

unfoldable pub cut_min : CutterShape → PreparedCutter → Float → Float → Option Float
cut_min shape c h0 h1 =
    cond (le plus_zero h0 && le h1 c.cutting_length_mm) (Some (smaller_of (cut_radius shape c h0) (cut_radius shape c h1))) None
