-- What a merge leaves of all rays: behind the chains of the log two sizes for each ray, behind these the new lists.
--
-- The cells of the work buffer, for R rays, E entries and a budget of N intervals; document 01 asks for 12 N + 36 E,
-- and 3 R is at most 2 N:
--
--             chains of the log            sizes          new lists            scratch of one ray
--             +----------+----------------+--------------+--------------------+----------+---------+-------+-------+
--             | by ray   | by entry       | two by ray   | of changed rays >> | possible | certain | outer | inner |
--             +----------+----------------+--------------+--------------------+----------+---------+-------+-------+
-- cells         R          E                2 R            6 N + 6 E            2 N        2 N       2 E     2 E
-- from cell   0          R                R + E          3 R + E              3 R + 6 N + 7 E
--
-- A chain's cell holds one more than the place of the ray's first, or of the next, entry, and 0 where there is none.
-- The sizes are 0 and 0 where the ray does not change, else one more than the pairs of its new possible list, and the
-- pairs of its new certain list. The new lists stand end to end. Before each ray they have at most 2 N cells, by the
-- budget; its own two have at most 4 N + 6 E (`limit_of`). The scratch holds the ray's lists and what normalising
-- makes of its hits, and is written anew for each ray.
use Rattle.std.specs.Prelude.{◌≡◌, List, ℕ, ◌+◌, ◌*◌, ◌≤◌, length, Float, Option, None, Some}
use Rattle.grid.specs.Rays.{ray_count}
use Rattle.grid.specs.declared.DexelStockSpec.{DexelStockSpec}
use Rattle.grid.specs.declared.DexelGrid.{DexelGrid}
use Rattle.stock.specs.Stock.{Stock, SoundStock, ray_lists}
use Rattle.log_model.specs.Logs.{entries, entry_count}
use Rattle.log_model.specs.Counts.{pairs_after}
use Rattle.log_lay.specs.Updates.{updates_from, lists_end}
use Rattle.log_model.specs.Updates.{MergeUpdates}
use Rattle.log_group.specs.Groups.{Grouped}
use Rattle.log_merge.specs.declared.RayUpdate.{RayUpdate}
use Rattle.grid.specs.Facts.{GridFacts}
use Rattle.stock.specs.Steps.{StockRoom}
use Rattle.store.specs.Store.{Cells}

-- the first size of a ray: 0 where it does not change, else one more than the pairs of its new possible list
abbrev pub first_size_of : Option RayUpdate → ℕ
first_size_of None = 0
first_size_of (Some u) = u.possible + 1

-- the second size: the pairs of its new certain list
abbrev pub second_size_of : Option RayUpdate → ℕ
second_size_of None = 0
second_size_of (Some u) = u.certain

-- what the ray adds to the number of those that change
abbrev pub one_if_changed : Option RayUpdate → ℕ
one_if_changed None = 0
one_if_changed (Some u) = 1

-- where the sizes stand, and the lists
abbrev pub sizes_at : DexelGrid → (log : List Float) → ℕ
sizes_at g log = ray_count g + entry_count log

abbrev pub lists_from : DexelGrid → (log : List Float) → ℕ
lists_from g log = sizes_at g log + 2 * ray_count g

-- a sound stock of these cells, a grouped log that leaves it no more pairs than it has records, and document 01's work pairs
pub record MergeAllPre (spec : DexelStockSpec) (g : DexelGrid) (c : Cells) (log work : List Float) : Type 0 where
  pub grid : GridFacts spec g
  pub room : StockRoom spec g c
  pub stock : Stock
  pub of_cells : stock.cells ≡ c
  pub sound : SoundStock spec g stock
  pub grouped : Grouped g log work
  pub budget : pairs_after g (ray_lists spec g stock.cells) (entries log) ≤ spec.max_intervals
  pub pairs : 12 * spec.max_intervals + 36 * entry_count log ≤ length work

-- the sizes and the new lists in the buffer are the updates that the log asks of each stock of these cells, and so many rays change
pub record MergeAllPost (spec : DexelStockSpec) (g : DexelGrid) (c : Cells) (log before after : List Float) (changed : ℕ) : Type 0 where
  pub size : length after ≡ length before
  pub merges : (s : Stock) → s.cells ≡ c
      → MergeUpdates g (ray_lists spec g s.cells) (entries log) 0
      (updates_from after (sizes_at g log) (lists_from g log) 0 (ray_count g)) changed
  pub ends : lists_end after (sizes_at g log) (lists_from g log) 0 (ray_count g) ≤ length after
