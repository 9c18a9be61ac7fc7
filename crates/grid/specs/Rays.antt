-- The rays of a grid: how many run along each axis, how they are numbered, and where each stands.
use Rattle.std.specs.Prelude.{cond, ℕ, ◌+◌, ◌-◌, ◌*◌, ◌<◌, ltb, Float}
use Rattle.std.specs.Float.{binary64}
use Rattle.std.specs.Float.Ieee.{of_bits, to_unsigned, sub, div}
use Rattle.doubles.specs.Doubles.{clamp_of, floor_of}
use Rattle.grid.specs.Axes.{by_axis, world_axis, along_of, cells_along, step_along, cross_of}
use Rattle.grid.specs.Grid.{whole}
use Rattle.grid.specs.declared.WorldAxis.{WorldAxis}
use Rattle.grid.specs.declared.DexelStockSpec.{DexelStockSpec}
use Rattle.grid.specs.declared.DexelGrid.{DexelGrid}
use Rattle.grid.specs.declared.RayBounds.{RayBounds}

-- document 01: rays = c0·c1 + c1·c2 + c2·c0
unfoldable pub ray_count : DexelGrid → ℕ
ray_count g = g.c0 * g.c1 + g.c1 * g.c2 + g.c2 * g.c0

-- how many rays run along an axis: one for each pair of cells across it
unfoldable pub rays_along : DexelGrid → WorldAxis → ℕ
rays_along g a = cells_along g (cross_of a).u * cells_along g (cross_of a).v

-- how many rays stand before the first along an axis: rays count through axis 0, then 1, 2
unfoldable pub offset : DexelGrid → WorldAxis → ℕ
unfolding rays_along
offset g a = by_axis a 0 (rays_along g (world_axis 0)) (rays_along g (world_axis 0) + rays_along g (world_axis 1))

-- the number of a ray from its axis and its index, and both from its number
unfoldable pub ray_number : DexelGrid → WorldAxis → (index : ℕ) → ℕ
unfolding offset
ray_number g a index = offset g a + index

unfoldable pub ray_axis : DexelGrid → (ray : ℕ) → WorldAxis
unfolding offset
ray_axis g ray = cond (ltb ray (offset g (world_axis 1))) (world_axis 0) (cond (ltb ray (offset g (world_axis 2))) (world_axis 1) (world_axis 2))

-- the two ends of the box along a ray
unfoldable pub bounds_of : DexelStockSpec → DexelGrid → (ray : ℕ) → RayBounds
unfolding ray_axis
bounds_of s g ray = record { lo = along_of s.min_mm (ray_axis g ray); hi = along_of s.max_mm (ray_axis g ray) }

-- 0.5
abbrev pub half : Float
half = of_bits binary64 0x3fe0_0000_0000_0000

-- the cell along an axis that x lies in, or the nearest
unfoldable pub cell_at : DexelStockSpec → DexelGrid → WorldAxis → (x : Float) → ℕ
cell_at s g a x =
    to_unsigned 64 (clamp_of (floor_of (div binary64 (sub binary64 x (along_of s.min_mm a)) (step_along g a)))
    (of_bits binary64 0) (whole (cells_along g a - 1)))

-- a ray, by its number
abbrev pub Ray : DexelGrid → Type 0
Ray g = (r : ℕ) × (r < ray_count g)
