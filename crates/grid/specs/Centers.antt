-- Where a ray stands in its cell, and where cells end.
use Rattle.std.specs.Prelude.{cond, ℕ, ◌-◌, ◌/◌, ◌%◌, eqb, leb, Float}
use Rattle.std.specs.Float.{binary64}
use Rattle.std.specs.Float.Ieee.{add, mul}
use Rattle.grid.specs.Axes.{along_of, cells_along, step_along, cross_of}
use Rattle.grid.specs.Grid.{whole}
use Rattle.grid.specs.declared.WorldAxis.{WorldAxis}
use Rattle.grid.specs.declared.DexelStockSpec.{DexelStockSpec}
use Rattle.grid.specs.declared.DexelGrid.{DexelGrid}
use Rattle.grid.specs.declared.RayCenter.{RayCenter}
use Rattle.grid.specs.Rays.{offset, ray_axis, half}

unfoldable pub ray_index : DexelGrid → (ray : ℕ) → ℕ
unfolding offset ray_axis
ray_index g ray = ray - offset g (ray_axis g ray)

-- the centre of cell i along an axis
unfoldable pub cell_center : DexelStockSpec → DexelGrid → WorldAxis → (i : ℕ) → Float
cell_center s g a i = add binary64 (along_of s.min_mm a) (mul binary64 (add binary64 (whole i) half) (step_along g a))

-- the centre of a ray's cross-section: its index is iv · cells[u] + iu
unfoldable pub ray_center_of : DexelStockSpec → DexelGrid → WorldAxis → (index : ℕ) → RayCenter
unfolding cell_center
ray_center_of s g a index =
    let n = cells_along g (cross_of a).u in
    record { u = cell_center s g (cross_of a).u (index % n); v = cell_center s g (cross_of a).v (index / n) }

-- the boundary between the cells i - 1 and i along an axis: the box's own faces at both ends
unfoldable pub cell_bound_of : DexelStockSpec → DexelGrid → WorldAxis → (i : ℕ) → Float
cell_bound_of s g a i =
    cond (eqb i 0) (along_of s.min_mm a)
    (cond (leb (cells_along g a) i) (along_of s.max_mm a)
    (add binary64 (along_of s.min_mm a) (mul binary64 (whole i) (step_along g a))))
