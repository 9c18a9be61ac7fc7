-- The count of changed rays and of pairs, one ray at a time.
use Rattle.std.specs.Prelude.{◌≡◌, Bool, true, false, cond, ◌||◌, List, ℕ, zero, suc, ◌+◌, ◌/◌, length, Float}
use Rattle.grid.specs.Rays.{ray_count}
use Rattle.grid.specs.declared.DexelStockSpec.{DexelStockSpec}
use Rattle.grid.specs.declared.DexelGrid.{DexelGrid}
use Rattle.stock.specs.Stock.{SoundCells, ray_list, Possible, Certain}
use Rattle.log_model.specs.Logs.{entries, hits_on_ray}
use Rattle.log_model.specs.Counts.{is_hit_by, starts_left}
use Rattle.log_entries.specs.Named.{EachNamed}
use Rattle.log_keys.specs.Keys.{loses_of}
use Rattle.log_count.specs.declared.RayTotals.{RayTotals}
use Rattle.grid.specs.Facts.{GridFacts}
use Rattle.stock.specs.Steps.{StockRoom}
use Rattle.store.specs.Store.{Cells}

-- a log whose entries each name a ray, on a sound store with room
pub record Countable (spec : DexelStockSpec) (g : DexelGrid) (c : Cells) (intervals : ℕ) (log : List Float) : Type 0 where
  pub facts : GridFacts spec g
  pub room : StockRoom spec g c
  pub is_sound : SoundCells spec g c intervals
  pub named : EachNamed g log

-- the same, whatever the interval total
pub record Counting (spec : DexelStockSpec) (g : DexelGrid) (c : Cells) (log : List Float) : Type 0 where
  pub intervals : ℕ
  pub countable : Countable spec g c intervals log

-- the sum of f over the first n numbers
unfoldable pub sum_below : (ℕ → ℕ) → ℕ → ℕ
sum_below f zero = 0
sum_below f (suc i) = sum_below f i + f i

-- ---- one ray, by its number

-- the pairs of its lists as they stand
unfoldable pub pairs_of : DexelStockSpec → Cells → ℕ → ℕ
pairs_of spec c ray = length (ray_list spec c ray Possible) / 2 + length (ray_list spec c ray Certain) / 2

-- and when the log's hits are taken from them
unfoldable pub left_of : DexelStockSpec → DexelGrid → Cells → List Float → ℕ → ℕ
unfolding starts_left hits_on_ray entries
left_of spec g c log ray =
    starts_left (ray_list spec c ray Possible) (loses_of g log ray false)
    + starts_left (ray_list spec c ray Certain) (loses_of g log ray true)

-- the ray would change
unfoldable pub is_changed_ray : DexelStockSpec → DexelGrid → Cells → List Float → ℕ → Bool
unfolding is_hit_by hits_on_ray entries
is_changed_ray spec g c log ray =
    is_hit_by (ray_list spec c ray Possible) (loses_of g log ray false)
    || is_hit_by (ray_list spec c ray Certain) (loses_of g log ray true)

-- ---- all rays

-- the totals with the rays below `ray` counted: these have the pairs that are left to them, all others those that they have
pub record Prefixed (spec : DexelStockSpec) (g : DexelGrid) (c : Cells) (log : List Float) (ray : ℕ) (t : RayTotals) : Type 0 where
  pub changed : t.changed ≡ sum_below (λ r. cond (is_changed_ray spec g c log r) 1 0) ray
  pub pairs : t.pairs + sum_below (pairs_of spec c) ray ≡ sum_below (pairs_of spec c) (ray_count g) + sum_below (left_of spec g c log) ray

-- the rays below `next` are counted, and a buffer of the same size is left
pub record CountPost (spec : DexelStockSpec) (g : DexelGrid) (c : Cells) (log : List Float) (next : ℕ) (before after : List Float)
    (t : RayTotals) : Type 0 where
  pub size : length after ≡ length before
  pub prefixed : Prefixed spec g c log next t
