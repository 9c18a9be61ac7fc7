-- One small sweep worked out, as a table; `examples-right` in proofs/Examples.antt claims it, and `example-accepted`
-- that it has no cause. The blank is the uncut box from 0 to 10 in one cell, so with one ray along each axis. A flat
-- cutter of radius 13 points up: over its cutting length it covers the ray's cross-section of ±5 from 12 to the left
-- to 12 to the right. The guard is 1/2.
use Rattle.std.specs.Prelude.{◌≡◌, List, [], ◌∷◌, ◌++◌, ℕ, Float, replicate}
use Rattle.std.specs.Float.{binary64}
use Rattle.std.specs.Float.Ieee.{neg, of_bits}
use Rattle.doubles.specs.Constants.{plus_zero}
use Rattle.frame.specs.declared.Axis.TheVariants.{PosZ}
use Rattle.cutter.specs.declared.CutterShape.TheVariants.{Flat}
use Rattle.cutter.specs.declared.PreparedCutter.{PreparedCutter}
use Rattle.grid.specs.declared.Vec3.{Vec3}
use Rattle.grid.specs.declared.DexelStockSpec.{DexelStockSpec}
use Rattle.grid.specs.Causes.{grid_in}
use Rattle.stock_fill.specs.Uncut.{uncut}
use Rattle.sweep_model.specs.Walk.{Walked, Done, Stop}
use Rattle.sweep_model.specs.SweepEntries.{Setting}
use Rattle.sweep.specs.Answer.{setting_of, walk_of}
use Rattle.doubles.specs.Rounding.{ratio}
use Rattle.store.specs.Store.{Cells, cells}

-- n / 2 and -n / 2
abbrev pub halves : ℕ → Float
halves n = ratio n 2

abbrev pub below : ℕ → Float
below n = neg (ratio n 2)

abbrev pub ten : Float
ten = of_bits binary64 0x4024_0000_0000_0000

abbrev pub example_corner : Float → Vec3
example_corner x = record { x = x; y = x; z = x }

unfoldable pub blank : DexelStockSpec
blank = record {
  version = 1;
  min_mm = example_corner plus_zero;
  max_mm = example_corner ten;
  cell_size_mm = ten;
  max_rays = 3;
  max_intervals = 6;
}

unfoldable pub flat : PreparedCutter
unfolding ratio
flat =
    record {
      diameter_mm = ratio 26 1;
      cutting_length_mm = ratio 20 1;
      overall_length_mm = ratio 50 1;
      neck_diameter_mm = ratio 26 1;
      shank_diameter_mm = ratio 26 1;
      radius = ratio 13 1;
      tip_height = plus_zero;
      slope = plus_zero;
      shoulder = ratio 20 1;
    }

-- six records and six heads to lay the uncut store in
abbrev pub lent : Cells
lent = cells (replicate 12 plus_zero) (replicate 12 0) (replicate 6 0)

unfoldable pub sweeping : Setting
unfolding blank flat ratio
sweeping = setting_of blank PosZ Flat flat (halves 1) (uncut blank (grid_in blank) lent)

-- a plunge at x, y to the height z: a chord of length 0 with no error
abbrev pub plunge : (x y z : Float) → List Float
plunge x y z = x ∷ y ∷ z ∷ x ∷ y ∷ z ∷ plus_zero ∷ plus_zero ∷ []

-- through the blank; with the tip in the blank, so that no height of the cross-section is certainly covered; and far
-- beside it, where one ray is visited
unfoldable pub three_chords : List Float
unfolding ratio
three_chords = plunge (ratio 5 1) (ratio 5 1) (below 2) ++ plunge (ratio 5 1) (ratio 5 1) (halves 2)
    ++ plunge (ratio 100 1) (ratio 5 1) (below 2)

-- the two rays across the tool are each hit by the first chord with an inner, and by the second without: no inner is [0, 0]
unfoldable pub four_entries : List Float
unfolding ratio
four_entries =
    plus_zero ∷ plus_zero ∷ below 17 ∷ halves 37 ∷ below 13 ∷ halves 33
    ∷ ratio 1 1 ∷ plus_zero ∷ below 17 ∷ halves 37 ∷ below 13 ∷ halves 33
    ∷ plus_zero ∷ plus_zero ∷ below 17 ∷ halves 37 ∷ plus_zero ∷ plus_zero
    ∷ ratio 1 1 ∷ plus_zero ∷ below 17 ∷ halves 37 ∷ plus_zero ∷ plus_zero ∷ []

-- a walk with this budget and this many cells of log, and what it must come to
pub record SweepExample : Type 0 where
  pub budget : ℕ
  pub cells : ℕ
  pub want : Walked

abbrev pub example : ℕ → ℕ → Walked → SweepExample
example budget n want = record { budget = budget; cells = n; want = want }

abbrev pub SweepExamplesRight : List SweepExample → Type 0
SweepExamplesRight [] = Unit {0}
SweepExamplesRight (e ∷ es) = (walk_of sweeping three_chords e.budget e.cells ≡ e.want) × SweepExamplesRight es

-- five visits and four entries fit exactly; one visit fewer is 8, one cell fewer 16, and 8 comes first where both run out at a visit
unfoldable pub sweep_examples : List SweepExample
unfolding four_entries
sweep_examples =
    example 5 24 (Done 5 four_entries)
    ∷ example 4 24 (Stop 8)
    ∷ example 5 23 (Stop 16)
    ∷ example 3 18 (Stop 8)
    ∷ example 0 0 (Stop 8)
    ∷ []
