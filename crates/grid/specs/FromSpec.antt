-- `grid` of document 01, as the Rust works it out: each operation on doubles is rounded, in the Rust's order, and the
-- tests are those of the Rust but its last, which fails for no description that passes the others (specs/Retired.antt).
-- specs/Causes.antt has the refusals in document 01's own words; `grid-by-causes` in proofs/Causes.antt shows that they say
-- the same.
use Rattle.std.specs.Prelude.{Bool, cond, not, ◌&&◌, ◌||◌, List, ℕ, eqb, ltb, length, get_or, Float, Result, Ok, Err}
use Rattle.std.specs.Float.{binary64}
use Rattle.std.specs.Float.Ieee.{of_bits, to_unsigned, add, sub, mul, div, neg, lt}
use Rattle.doubles.specs.Constants.{million, millionth, one, two}
use Rattle.doubles.specs.Doubles.{larger_of, ceil_of}
use Rattle.grid.specs.declared.Vec3.{Vec3}
use Rattle.grid.specs.declared.DexelStockSpec.{DexelStockSpec}
use Rattle.grid.specs.declared.DexelGrid.{DexelGrid}
use Rattle.refusal.specs.declared.Refusal.{Refusal}
use Rattle.refusal.specs.declared.Refusal.TheVariants.{Description, RayLimit, IntervalLimit}
use Rattle.grid.specs.Grid.{whole, all_between}

-- 1e-5
abbrev pub least_size : Float
least_size = of_bits binary64 0x3ee4_f8b5_88e3_68f1

-- ---- tests on three numbers, one per axis

unfoldable pub any_below : Vec3 → Float → Bool
any_below p limit = lt p.x limit || (lt p.y limit || lt p.z limit)

unfoldable pub any_above : Vec3 → Float → Bool
any_above p limit = lt limit p.x || (lt limit p.y || lt limit p.z)

-- ---- refusal 1

-- the units are the two bytes "mm"
unfoldable pub is_mm : List ℕ → Bool
is_mm units = eqb (length units) 2 && (eqb (get_or units 0 0) 109 && eqb (get_or units 1 0) 109)

-- version 1 has one cell size for all axes
abbrev pub sizes_of : DexelStockSpec → Vec3
sizes_of s = record { x = s.cell_size_mm; y = s.cell_size_mm; z = s.cell_size_mm }

abbrev pub extents_of : DexelStockSpec → Vec3
extents_of s =
    record {
      x = sub binary64 s.max_mm.x s.min_mm.x;
      y = sub binary64 s.max_mm.y s.min_mm.y;
      z = sub binary64 s.max_mm.z s.min_mm.z;
    }

-- everything but the units
unfoldable pub misdescribed : DexelStockSpec → (sizes extents : Vec3) → Bool
misdescribed s sizes extents =
    not (eqb s.version 1)
    || (not (all_between s.min_mm (neg million) million)
    || (not (all_between s.max_mm (neg million) million)
    || (not (all_between sizes least_size million)
    || (eqb s.max_rays 0
    || (ltb 4294967295 s.max_rays
    || (eqb s.max_intervals 0
    || any_below extents millionth))))))

-- ---- cells, rays and steps

-- cells = ceil (extent / cell size), at least 1, as a double
unfoldable pub cell_count : (extent size : Float) → Float
cell_count extent size = larger_of (ceil_of (div binary64 extent size)) one

abbrev pub dims_of : (extents sizes : Vec3) → Vec3
dims_of e c = record { x = cell_count e.x c.x; y = cell_count e.y c.y; z = cell_count e.z c.z }

-- the grid with these cells: step = extent / cells
abbrev pub grid_with : (extents dims : Vec3) → DexelGrid
grid_with e d =
    record {
      c0 = to_unsigned 64 d.x;
      c1 = to_unsigned 64 d.y;
      c2 = to_unsigned 64 d.z;
      s0 = div binary64 e.x d.x;
      s1 = div binary64 e.y d.y;
      s2 = div binary64 e.z d.z;
    }

-- rays = c0 * c1 + c1 * c2 + c2 * c0, as a double
abbrev pub rays_of : (dims : Vec3) → Float
rays_of d = add binary64 (add binary64 (mul binary64 d.x d.y) (mul binary64 d.y d.z)) (mul binary64 d.z d.x)

-- ---- the answer

-- refusals 2 and 3, over the cells along each axis
unfoldable pub grid_over : DexelStockSpec → (extents dims : Vec3) → Result DexelGrid Refusal
grid_over s extents dims =
    cond (any_above dims (whole s.max_rays)) (Err RayLimit)
    (cond (lt (whole s.max_rays) (rays_of dims)) (Err RayLimit)
    (cond (lt (whole s.max_intervals) (mul binary64 two (rays_of dims))) (Err IntervalLimit)
    (Ok (grid_with extents dims))))

unfoldable pub grid_of : DexelStockSpec → (units : List ℕ) → Result DexelGrid Refusal
grid_of s units =
    cond (not (is_mm units)) (Err Description)
    (cond (misdescribed s (sizes_of s) (extents_of s)) (Err Description)
    (grid_over s (extents_of s) (dims_of (extents_of s) (sizes_of s))))
