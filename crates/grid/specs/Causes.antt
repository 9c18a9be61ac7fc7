-- The refusals of `grid` in document 01's own words, over whole numbers of cells and rays.
use Rattle.std.specs.Prelude.{◌≡◌, true, List, [], ◌∷◌, ◌⊎◌, ℕ, ◌*◌, ◌<◌, Result, Ok, Err}
use Rattle.std.specs.Float.Ieee.{neg, lt}
use Rattle.doubles.specs.Constants.{million, millionth}
use Rattle.doubles.specs.Ranges.{OutOf}
use Rattle.refusal.specs.Refusal.{Cause, cause, Due, NoneDue, number_of}
use Rattle.grid.specs.Axes.{along_of, cells_along}
use Rattle.grid.specs.FromSpec.{least_size, sizes_of, extents_of, dims_of, grid_with, grid_of}
use Rattle.grid.specs.Rays.{ray_count}
use Rattle.grid.specs.declared.Vec3.{Vec3}
use Rattle.grid.specs.declared.WorldAxis.{WorldAxis}
use Rattle.grid.specs.declared.DexelStockSpec.{DexelStockSpec}
use Rattle.grid.specs.declared.DexelGrid.{DexelGrid}
use Rattle.refusal.specs.declared.Refusal.{Refusal}

-- the bytes of "mm"
abbrev pub mm : List ℕ
mm = 109 ∷ 109 ∷ []

-- 1 description: a constructor for each clause of document 01; what is not finite is outside each of these ranges
pub data Misdescribed (s : DexelStockSpec) (sizes : Vec3) (units : List ℕ) : Type 0 where
  version_not_1 : (s.version ≡ 1 → ⊥) → Misdescribed s sizes units
  units_not_mm : (units ≡ mm → ⊥) → Misdescribed s sizes units
  min_out : (a : WorldAxis) → OutOf (neg million) million (along_of s.min_mm a) → Misdescribed s sizes units
  max_out : (a : WorldAxis) → OutOf (neg million) million (along_of s.max_mm a) → Misdescribed s sizes units
  size_out : (a : WorldAxis) → OutOf least_size million (along_of sizes a) → Misdescribed s sizes units
  no_rays : s.max_rays ≡ 0 → Misdescribed s sizes units
  too_many_rays : 4294967295 < s.max_rays → Misdescribed s sizes units
  no_intervals : s.max_intervals ≡ 0 → Misdescribed s sizes units
  thin : (a : WorldAxis) → lt (along_of (extents_of s) a) millionth ≡ true → Misdescribed s sizes units

-- 2 an axis has more cells, or all grids more rays, than `max_rays`
unfoldable pub Crowded : DexelStockSpec → DexelGrid → Type 0
Crowded s g = ((a : WorldAxis) × (s.max_rays < cells_along g a)) ⊎ (s.max_rays < ray_count g)

-- 3 twice the rays exceed `max_intervals`
unfoldable pub OverBudget : DexelStockSpec → DexelGrid → Type 0
OverBudget s g = s.max_intervals < 2 * ray_count g

-- the cells along each axis, as doubles; and the grid with them: cells = ceil (extent / cell size), at least 1, and step = extent / cells
abbrev pub dims_in : DexelStockSpec → Vec3
dims_in s = dims_of (extents_of s) (sizes_of s)

abbrev pub grid_in : DexelStockSpec → DexelGrid
grid_in s = grid_with (extents_of s) (dims_in s)

-- in document 01's order: 1, 2, 3
unfoldable pub grid_causes : DexelStockSpec → (units : List ℕ) → List Cause
grid_causes s units =
    cause 1 (Misdescribed s (sizes_of s) units)
    ∷ cause 2 (Crowded s (grid_in s))
    ∷ cause 3 (OverBudget s (grid_in s))
    ∷ []

-- an answer of `grid` by these causes
abbrev pub ByCauses : DexelStockSpec → (units : List ℕ) → Result DexelGrid Refusal → Type 0
ByCauses s units (Err e) = Due (grid_causes s units) (number_of e)
ByCauses s units (Ok g) = NoneDue (grid_causes s units) × (g ≡ grid_in s)

-- what `grid` promises: the Rust's answer, number for number (by `grid-as-rust` in proofs/Retired.antt with its last test
-- too), and that it is document 01's, by its causes
pub record GridPost (s : DexelStockSpec) (units : List ℕ) (r : Result DexelGrid Refusal) : Type 0 where
  pub is : r ≡ grid_of s units
  pub by : ByCauses s units r
