-- What a merge leaves of one ray.
use Rattle.std.specs.Prelude.{◌≡◌, Bool, true, false, not, ◌&&◌, List, ℕ, ◌+◌, ◌*◌, ◌≤◌, ◌<◌, length, get_or, Float, Option, MatchOption}
use Rattle.std.specs.Float.{nan}
use Rattle.spans.specs.Spans.{equal, NormalOf}
use Rattle.spans.specs.Overlay.{less_of}
use Rattle.grid.specs.Rays.{ray_count}
use Rattle.grid.specs.declared.DexelStockSpec.{DexelStockSpec}
use Rattle.grid.specs.declared.DexelGrid.{DexelGrid}
use Rattle.log_model.specs.Logs.{entries, entry_count, outer, inner, hits_on_ray}
use Rattle.stock.specs.Stock.{ValidTo, ray_list, Possible, Certain}
use Rattle.log_group.specs.Groups.{Grouped}
use Rattle.ray_subtract.specs.Steps.{cells_from}
use Rattle.log_merge.specs.declared.RayUpdate.{RayUpdate}
use Rattle.log_merge.specs.declared.Sizes.{Sizes}
use Rattle.stock.specs.Steps.{ChainsInRoom}
use Rattle.store.specs.Store.{Cells}

-- a boundary of one of the lists moves when the hits are taken away: of possible by the inner ones, of certain by both
abbrev pub ray_moves : (possible certain outers inners : List Float) → Bool
ray_moves possible certain outers inners =
    not (equal possible (less_of possible inners) && equal certain (less_of (less_of certain outers) inners))

-- a boundary moves, and what the hits leave of both lists stands from cell `at` on, possible's before certain's, in at most `limit` cells
pub record NewLists (possible certain outers inners : List Float) (at limit : ℕ) (w : List Float) (r : RayUpdate) : Type 0 where
  pub moved : ray_moves possible certain outers inners ≡ true
  pub most : 2 * r.possible + 2 * r.certain ≤ limit
  pub possible_is : cells_from at (2 * r.possible) w ≡ less_of possible inners
  pub certain_is : cells_from (at + 2 * r.possible) (2 * r.certain) w ≡ less_of (less_of certain outers) inners

-- where no boundary moves there is no update; else the new lists stand from cell `from` on. The cells in front are as before
pub record RayCutPost (possible certain outers inners : List Float) (from limit : ℕ) (before after : List Float)
    (r : Option RayUpdate) : Type 0 where
  pub size : length after ≡ length before
  pub front : (q : ℕ) → q < from → get_or after q nan ≡ get_or before q nan
  pub update : MatchOption r (ray_moves possible certain outers inners ≡ false) (NewLists possible certain outers inners from limit after)

-- the store can be read, the log is grouped in the buffer, and there is room for a ray's lists and hits from cell s on
pub record LoadPre (spec : DexelStockSpec) (g : DexelGrid) (c : Cells) (log work : List Float) (ray s : ℕ) : Type 0 where
  pub store : ChainsInRoom spec g c
  pub valid : ValidTo spec g c (ray_count g)
  pub grouped : Grouped g log work
  pub below : ray < ray_count g
  pub past : ray_count g + entry_count log ≤ s
  pub room : s + 4 * spec.max_intervals + 4 * entry_count log ≤ length work

-- both lists and those that normalising makes of the outer and the inner hits stand one after the other from cell s on; the cells in front
-- are as before
pub record LoadPost (possible certain outers inners : List Float) (s : ℕ) (before after : List Float) (r : Sizes) : Type 0 where
  pub size : length after ≡ length before
  pub front : (q : ℕ) → q < s → get_or after q nan ≡ get_or before q nan
  pub possible_cells : r.possible ≡ length possible
  pub certain_cells : r.certain ≡ length certain
  pub outer_most : r.outer ≤ length outers
  pub inner_most : r.inner ≤ length inners
  pub possible_is : cells_from s r.possible after ≡ possible
  pub certain_is : cells_from (s + r.possible) r.certain after ≡ certain
  pub outer_hits : NormalOf outers (cells_from (s + r.possible + r.certain) r.outer after)
  pub inner_hits : NormalOf inners (cells_from (s + r.possible + r.certain + r.outer) r.inner after)

-- the most cells that both new lists of a ray can have
abbrev pub limit_of : DexelStockSpec → (log : List Float) → ℕ
limit_of spec log = 4 * spec.max_intervals + 6 * entry_count log

-- a ray of the store less what normalising makes of the hits of the log on it
pub record MergeRayPost (spec : DexelStockSpec) (g : DexelGrid) (c : Cells) (log : List Float) (ray q : ℕ) (before after : List Float)
    (r : Option RayUpdate) : Type 0 where
  pub outer_normal : List Float
  pub inner_normal : List Float
  pub outer_is : NormalOf (hits_on_ray g (entries log) ray outer) outer_normal
  pub inner_is : NormalOf (hits_on_ray g (entries log) ray inner) inner_normal
  pub cut : RayCutPost (ray_list spec c ray Possible) (ray_list spec c ray Certain) outer_normal inner_normal q
      (limit_of spec log) before after r
