-- A stock: the lent store with its small record, beside a description that `grid` accepts.
use Rattle.std.specs.Prelude.{Bool, ◌||◌, List, ℕ, ◌+◌, ◌*◌, ◌/◌, ◌<◌, ltb, Float, length}
use Rattle.grid.specs.Rays.{ray_count, bounds_of, Ray}
use Rattle.grid.specs.declared.DexelStockSpec.{DexelStockSpec}
use Rattle.grid.specs.declared.DexelGrid.{DexelGrid}
use Rattle.spans.specs.Rays.{ValidRay}
use Rattle.store.specs.Store.{Cells, cells, ChainsSound, store_list}

-- Document 01's store and small record. With a description that `grid` accepts they are a stock.
pub record Stock : Type 0 where
  pub cells : Cells
  pub generation : ℕ
  pub intervals : ℕ

-- each ray has a possible and a certain list
pub data Kind : Type 0 where
  Possible Certain : Kind

-- the lists of the store count through the rays, possible first
abbrev pub list_number : ℕ → Kind → ℕ
list_number ray Possible = 2 * ray
list_number ray Certain = 2 * ray + 1

-- a list of a ray, as it stands in the cells
abbrev pub ray_list : DexelStockSpec → Cells → (ray : ℕ) → Kind → List Float
ray_list spec c ray k = store_list spec.max_intervals c (list_number ray k)

-- both lists of each ray
abbrev pub ray_lists : DexelStockSpec → (g : DexelGrid) → Cells → Ray g → Kind → List Float
ray_lists spec g c r k = ray_list spec c r.0 k

-- a ray of the store is valid within the box's bounds along it
abbrev pub ValidAt : DexelStockSpec → DexelGrid → Cells → ℕ → Type 0
ValidAt spec g c ray = ValidRay (bounds_of spec g ray).lo (bounds_of spec g ray).hi (ray_list spec c ray Possible)
    (ray_list spec c ray Certain)

-- the first n rays are valid
abbrev pub ValidTo : DexelStockSpec → DexelGrid → Cells → ℕ → Type 0
ValidTo spec g c n = (ray : ℕ) → ray < n → ValidAt spec g c ray

-- document 01's sound store: chains and free records, the interval total, and each ray valid within the box's bounds along it
pub record SoundCells (spec : DexelStockSpec) (g : DexelGrid) (c : Cells) (intervals : ℕ) : Type 0 where
  pub store : ChainsSound spec.max_intervals (2 * ray_count g) intervals c
  pub valid : ValidTo spec g c (ray_count g)

-- a stock is sound when its store is
abbrev pub SoundStock : DexelStockSpec → DexelGrid → Stock → Type 0
SoundStock spec g s = SoundCells spec g s.cells s.intervals

-- 12: fewer whole records than `max_intervals`, or fewer heads than two per ray
unfoldable pub is_short : DexelStockSpec → DexelGrid → Cells → Bool
is_short spec g c = ltb (length c.spans / 2) spec.max_intervals
    || (ltb (length c.links / 2) spec.max_intervals || ltb (length c.heads) (2 * ray_count g))

-- a stock by its lent cells and its small record's numbers
abbrev pub stock : (spans : List Float) (links heads : List ℕ) (generation intervals : ℕ) → Stock
stock spans links heads generation intervals = record { cells = cells spans links heads; generation = generation; intervals = intervals }
