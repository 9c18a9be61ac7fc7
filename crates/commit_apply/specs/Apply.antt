-- What an accepted log finds in the cells, and what applying it leaves there.
use Rattle.std.specs.Prelude.{◌≡◌, List, ℕ, ◌≤◌, length, replicate, Float}
use Rattle.doubles.specs.Constants.{plus_zero}
use Rattle.grid.specs.declared.DexelStockSpec.{DexelStockSpec}
use Rattle.grid.specs.declared.DexelGrid.{DexelGrid}
use Rattle.store.specs.Updates.{Update, applied}
use Rattle.stock.specs.Stock.{SoundCells, ray_lists}
use Rattle.log_model.specs.Logs.{entries}
use Rattle.log_model.specs.Steps.{WorkRoom}
use Rattle.log_model.specs.Counts.{pairs_after}
use Rattle.log_entries.specs.Named.{EachNamed}
use Rattle.log_model.specs.Updates.{MergeUpdates}
use Rattle.grid.specs.Facts.{GridFacts}
use Rattle.stock.specs.Steps.{StockRoom}
use Rattle.store.specs.Store.{Cells}

-- the grid, the cells and the log have passed the tests
pub record ApplyPre (spec : DexelStockSpec) (g : DexelGrid) (c : Cells) (log work : List Float) : Type 0 where
  pub facts : GridFacts spec g
  pub room : StockRoom spec g c
  pub total : ℕ
  pub sound : SoundCells spec g c total
  pub work_room : WorkRoom spec.max_intervals log work
  pub named : EachNamed g log
  pub few_pairs : pairs_after g (ray_lists spec g c) (entries log) ≤ spec.max_intervals

-- the log's updates are done, and the work buffer is all plus zero
pub record ApplyPost (spec : DexelStockSpec) (g : DexelGrid) (c : Cells) (log work : List Float) (m : ℕ) (d : Cells)
    (work' : List Float) : Type 0 where
  pub updates : List Update
  pub merges : MergeUpdates g (ray_lists spec g c) (entries log) 0 updates m
  pub left : d ≡ applied spec.max_intervals c updates
  pub cleared : work' ≡ replicate (length work) plus_zero
