-- DOCUMENT 01'S EXAMPLES marked (p), in its order, as one table; `examples-right` in proofs/Examples.antt claims them all.
-- Each row is stated over what the function's contract cites.
use Rattle.std.specs.Prelude.{◌≡◌, Bool, true, false, List, [], ◌∷◌, ℕ, ◌*◌, Float, Ok}
use Rattle.std.specs.Float.{nan}
use Rattle.std.specs.Float.Ieee.{neg}
use Rattle.spans.specs.Spans.{NormalOf, Within, Outside}
use Rattle.spans.specs.Overlay.{less_of, common_of}
use Rattle.grid.specs.Grid.{whole}
use Rattle.grid.specs.Rays.{ray_count}
use Rattle.grid.specs.declared.Vec3.{Vec3}
use Rattle.grid.specs.declared.DexelStockSpec.{DexelStockSpec}
use Rattle.grid.specs.declared.DexelGrid.{DexelGrid}
use Rattle.grid.specs.Causes.{mm}
use Rattle.grid.specs.FromSpec.{grid_of}
use Rattle.strips.specs.declared.Strip.TheVariants.{Hit}
use Rattle.strips.specs.Strip.{disk_strip}
use Rattle.cutter.specs.declared.CutterShape.{CutterShape}
use Rattle.cutter.specs.declared.CutterShape.TheVariants.{Ball}
use Rattle.cutter.specs.declared.PreparedCutter.{PreparedCutter}
use Rattle.cutter.specs.declared.ProfileSlice.TheVariants.{Cutting}
use Rattle.cutter.specs.Cutter.{radius_at}
use Rattle.frame.specs.declared.Pair.{Pair}
use Rattle.frame.specs.Frame.{frame, local_axis, world_of}
use Rattle.doubles.specs.Rounding.{ratio}

-- what is asked, and last what it must come to
pub data WorkedExample : Type 0 where
  normalizes : (pairs want : List Float) → WorkedExample
  subtracts intersects : (a b want : List Float) → WorkedExample
  contains : (outer inner : List Float) (want : Bool) → WorkedExample
  grids : (to size : Float) (cells : ℕ) (step : Float) (rays : ℕ) → WorkedExample
  disk : (x y radius y0 y1 lo hi : Float) → WorkedExample
  radius_there : (shape : CutterShape) (cutter : PreparedCutter) (height want : Float) → WorkedExample
  turns : (sign : Float) (given want : Pair) → WorkedExample

abbrev pub corner : Float → Vec3
corner x = record { x = x; y = x; z = x }

-- the box from 0 to `to` along each axis, with the budgets that so many rays need
abbrev pub box : (to size : Float) (rays : ℕ) → DexelStockSpec
box to size rays =
    record {
      version = 1;
      min_mm = corner (ratio 0 1);
      max_mm = corner to;
      cell_size_mm = size;
      max_rays = rays;
      max_intervals = 2 * rays;
    }

-- the grid with these cells and this step along each axis
abbrev pub even : (cells : ℕ) (step : Float) → DexelGrid
even n step = record { c0 = n; c1 = n; c2 = n; s0 = step; s1 = step; s2 = step }

abbrev pub RowRight : WorkedExample → Type 0
RowRight (normalizes pairs want) = NormalOf pairs want
RowRight (subtracts a b want) = less_of a b ≡ want
RowRight (intersects a b want) = common_of a b ≡ want
RowRight (contains outer inner true) = Within outer inner
RowRight (contains outer inner false) = Outside outer inner
RowRight (grids to size cells step rays) = (grid_of (box to size rays) mm ≡ Ok (even cells step)) × (ray_count (even cells step) ≡ rays)
RowRight (disk x y radius y0 y1 lo hi) = disk_strip (record { x = x; y = y }) radius y0 y1 ≡ Hit lo hi
RowRight (radius_there shape cutter height want) = radius_at shape cutter height ≡ Cutting want
RowRight (turns sign given want) = world_of (frame 0 sign) (local_axis 1) given ≡ want

abbrev pub WorkedRight : List WorkedExample → Type 0
WorkedRight [] = Unit {0}
WorkedRight (e ∷ es) = RowRight e × WorkedRight es

-- radius 5 and tip height 5, on a shank of diameter 8
abbrev pub ball : PreparedCutter
ball =
    record {
      diameter_mm = whole 10;
      cutting_length_mm = whole 10;
      overall_length_mm = whole 50;
      neck_diameter_mm = whole 8;
      shank_diameter_mm = whole 8;
      radius = whole 5;
      tip_height = whole 5;
      slope = whole 0;
      shoulder = whole 10;
    }

abbrev pub example_pair : (lo hi : Float) → Pair
example_pair lo hi = record { lo = lo; hi = hi }

unfoldable pub worked_examples : List WorkedExample
unfolding ratio neg
worked_examples =
    normalizes (whole 3 ∷ whole 4 ∷ whole 1 ∷ whole 2 ∷ whole 2 ∷ whole 3 ∷ []) (whole 1 ∷ whole 4 ∷ [])
    ∷ normalizes (whole 1 ∷ whole 1 ∷ nan ∷ whole 2 ∷ whole 2 ∷ whole 1 ∷ []) []
    ∷ normalizes (whole 1 ∷ whole 2 ∷ whole 3 ∷ whole 4 ∷ []) (whole 1 ∷ whole 2 ∷ whole 3 ∷ whole 4 ∷ [])
    ∷ subtracts (whole 0 ∷ whole 2 ∷ whole 3 ∷ whole 5 ∷ []) (whole 1 ∷ whole 4 ∷ []) (whole 0 ∷ whole 1 ∷ whole 4 ∷ whole 5 ∷ [])
    ∷ subtracts (whole 0 ∷ whole 1 ∷ []) (whole 1 ∷ whole 2 ∷ []) (whole 0 ∷ whole 1 ∷ [])
    ∷ subtracts (whole 0 ∷ whole 10 ∷ []) (whole 0 ∷ whole 10 ∷ []) []
    ∷ intersects (whole 0 ∷ whole 2 ∷ whole 3 ∷ whole 5 ∷ []) (whole 1 ∷ whole 4 ∷ []) (whole 1 ∷ whole 2 ∷ whole 3 ∷ whole 4 ∷ [])
    ∷ contains (whole 0 ∷ whole 2 ∷ whole 3 ∷ whole 5 ∷ []) (whole 1 ∷ whole 4 ∷ []) false
    ∷ contains (whole 0 ∷ whole 2 ∷ whole 3 ∷ whole 5 ∷ []) [] true
    ∷ grids (whole 10) (whole 3) 4 (ratio 5 2) 48
    ∷ disk (whole 0) (whole 0) (whole 5) (whole 3) (whole 7) (neg (whole 4)) (whole 4)
    ∷ radius_there Ball ball (whole 2) (whole 4)
    ∷ turns (neg (whole 1)) (example_pair (whole 1) (whole 2)) (example_pair (neg (whole 2)) (neg (whole 1)))
    ∷ []
