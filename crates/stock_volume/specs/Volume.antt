-- The volume of a stock, as the Rust works it out: each operation is rounded, in ray order.
use Rattle.std.specs.Prelude.{◌≡◌, true, false, List, [], ◌∷◌, ◌++◌, ℕ, zero, suc, ◌+◌, Float, Result, Ok, Err}
use Rattle.std.specs.Float.{binary64, inf}
use Rattle.std.specs.Float.Ieee.{add, sub, mul}
use Rattle.doubles.specs.Constants.{one, plus_zero}
use Rattle.doubles.specs.Doubles.{larger_of, smaller_of}
use Rattle.refusal.specs.Refusal.{Cause, cause, Due, NoneDue, number_of}
use Rattle.refusal.specs.declared.Refusal.{Refusal}
use Rattle.grid.specs.Axes.{world_axis, step_along, cross_of}
use Rattle.grid.specs.FromSpec.{extents_of}
use Rattle.grid.specs.Rays.{rays_along, offset}
use Rattle.grid.specs.Causes.{grid_causes, grid_in}
use Rattle.grid.specs.declared.WorldAxis.{WorldAxis}
use Rattle.grid.specs.declared.DexelStockSpec.{DexelStockSpec}
use Rattle.grid.specs.declared.DexelGrid.{DexelGrid}
use Rattle.store_read.specs.Lengths.{length_from}
use Rattle.stock.specs.Stock.{SoundCells, is_short, ray_list, Possible, Certain}
use Rattle.stock_volume.specs.declared.AxisVolume.{AxisVolume}
use Rattle.stock_volume.specs.declared.DexelVolume.{DexelVolume}
use Rattle.store.specs.Store.{Cells}

-- the area of a ray's cell: the product of the steps on the two axes across it
unfoldable pub area_of : DexelGrid → WorldAxis → Float
area_of g a = mul binary64 (step_along g (cross_of a).u) (step_along g (cross_of a).v)

-- one ray more: the length of each of its lists, times the area. An empty list has length plus zero.
unfoldable pub add_ray : DexelStockSpec → Cells → Float → ℕ → AxisVolume → AxisVolume
add_ray spec c area ray v =
    record {
      certain = add binary64 v.certain (mul binary64 (length_from plus_zero (ray_list spec c ray Certain)) area);
      possible = add binary64 v.possible (mul binary64 (length_from plus_zero (ray_list spec c ray Possible)) area);
    }

-- so many rays from the first on, in order
unfoldable pub volume_to : DexelStockSpec → Cells → Float → (first count : ℕ) → AxisVolume
unfolding add_ray
volume_to spec c area first zero = record { certain = plus_zero; possible = plus_zero }
volume_to spec c area first (suc k) = add_ray spec c area (first + k) (volume_to spec c area first k)

-- all rays along an axis
abbrev pub volume_along : DexelStockSpec → DexelGrid → Cells → WorldAxis → AxisVolume
volume_along spec g c a = volume_to spec c (area_of g a) (offset g a) (rays_along g a)

-- the volume of the box, the product of the extents begun with 1
unfoldable pub box_volume : DexelStockSpec → Float
box_volume spec = mul binary64 (mul binary64 (mul binary64 one (extents_of spec).x) (extents_of spec).y) (extents_of spec).z

-- what the three grids tell: the largest of the certain volumes, the smallest of the possible ones, and what the box
-- has besides, not below zero
unfoldable pub bounds_by : Float → (x y z : AxisVolume) → DexelVolume
bounds_by total x y z =
    let lower : Float = larger_of (larger_of (larger_of plus_zero x.certain) y.certain) z.certain in
    let upper : Float = smaller_of (smaller_of (smaller_of (inf false) x.possible) y.possible) z.possible in
    record {
      x_certain_mm3 = x.certain;
      x_possible_mm3 = x.possible;
      y_certain_mm3 = y.certain;
      y_possible_mm3 = y.possible;
      z_certain_mm3 = z.certain;
      z_possible_mm3 = z.possible;
      remaining_lower_mm3 = lower;
      remaining_upper_mm3 = upper;
      removed_lower_mm3 = larger_of (sub binary64 total upper) plus_zero;
      removed_upper_mm3 = larger_of (sub binary64 total lower) plus_zero;
    }

-- the volume of a stock
abbrev pub volume_of : DexelStockSpec → DexelGrid → Cells → DexelVolume
volume_of spec g c = bounds_by (box_volume spec) (volume_along spec g c (world_axis 0))
    (volume_along spec g c (world_axis 1)) (volume_along spec g c (world_axis 2))

-- 12 and 11, once `grid` accepts
abbrev pub store_causes : DexelStockSpec → DexelGrid → Cells → ℕ → List Cause
store_causes spec g c intervals = cause 12 (is_short spec g c ≡ true) ∷ cause 11 (SoundCells spec g c intervals → ⊥) ∷ []

-- a refused call gives the number that is due; an accepted one, with no cause, has a sound store and gives its volume
abbrev pub VolumePost : List Cause → DexelStockSpec → DexelGrid → Cells → (intervals : ℕ) → Result DexelVolume Refusal → Type 0
VolumePost causes spec g c intervals (Err e) = Due causes (number_of e)
VolumePost causes spec g c intervals (Ok w) = NoneDue causes × SoundCells spec g c intervals × (w ≡ volume_of spec g c)

-- document 01's order for `volume`: 1, 2, 3, 12, 11
abbrev pub volume_causes : DexelStockSpec → (units : List ℕ) → Cells → ℕ → List Cause
volume_causes spec units c intervals = grid_causes spec units ++ store_causes spec (grid_in spec) c intervals
