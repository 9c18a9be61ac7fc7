-- What a log commit answers, and what it leaves in each cell of each buffer.
use Rattle.std.specs.Prelude.{◌≡◌, List, ℕ, ◌*◌, length, replicate, Float, Result, Ok, Err}
use Rattle.doubles.specs.Constants.{plus_zero}
use Rattle.grid.specs.Rays.{ray_count}
use Rattle.grid.specs.Causes.{ByCauses}
use Rattle.grid.specs.declared.DexelStockSpec.{DexelStockSpec}
use Rattle.grid.specs.declared.DexelGrid.{DexelGrid}
use Rattle.refusal.specs.declared.Refusal.{Refusal}
use Rattle.refusal.specs.Refusal.{number_of}
use Rattle.store.specs.Updates.{Update, CellsPastKept}
use Rattle.stock.specs.Stock.{Stock, ray_lists}
use Rattle.log_model.specs.Logs.{entries, commit_of}
use Rattle.log_model.specs.Model.{LogAnswer, changed, refused}
use Rattle.log_model.specs.View.{CommitOnAnyGrid}
use Rattle.log_model.specs.Updates.{MergeUpdates, committed_stock}

-- the answer in the model's words: how many rays changed, or document 01's number
abbrev pub answer_of : Result ℕ Refusal → LogAnswer
answer_of (Ok m) = changed m
answer_of (Err e) = refused (number_of e)

-- An accepted commit leaves the stock with the log's updates done. The cells past the counted records and past the heads are as before, and
-- the work buffer is all plus zero.
pub record AcceptedCells (spec : DexelStockSpec) (g : DexelGrid) (s : Stock) (log work : List Float) (m : ℕ)
    (t : Stock) (work' : List Float) : Type 0 where
  pub updates : List Update
  pub merges : MergeUpdates g (ray_lists spec g s.cells) (entries log) 0 updates m
  pub left : t ≡ committed_stock spec s updates
  pub past : CellsPastKept spec.max_intervals (2 * ray_count g) s.cells t.cells
  pub cleared : work' ≡ replicate (length work) plus_zero

-- a refused commit leaves the work buffer untouched; that it leaves the stock is in the promise
abbrev pub LogCellsPost : (spec : DexelStockSpec) (g : DexelGrid) (s : Stock) (log work : List Float) → Result ℕ Refusal
    → (t : Stock) (work' : List Float) → Type 0
LogCellsPost spec g s log work (Ok m) t work' = AcceptedCells spec g s log work m t work'
LogCellsPost spec g s log work (Err e) t work' = work' ≡ work

-- what a log commit leaves in the cells; a description that `grid` refuses is one more refusal
abbrev pub LogCellsOnAnyGrid : Result DexelGrid Refusal → (spec : DexelStockSpec) (s : Stock) (log work : List Float) → Result ℕ Refusal
    → (t : Stock) (work' : List Float) → Type 0
LogCellsOnAnyGrid (Ok g) spec s log work a t work' = LogCellsPost spec g s log work a t work'
LogCellsOnAnyGrid (Err e) spec s log work a t work' = work' ≡ work

-- THE LOG COMMIT: what a run of logs is made of, and every cell of every buffer
pub record LogCommitPost (spec : DexelStockSpec) (units : List ℕ) (s : Stock) (log : List Float) (allowance : ℕ)
    (work : List Float) (a : Result ℕ Refusal) (t : Stock) (work' : List Float) : Type 0 where
  -- the answer of `grid`, by document 01's causes 1 to 3
  pub described : Result DexelGrid Refusal
  pub by : ByCauses spec units described
  pub promise : CommitOnAnyGrid described spec s (commit_of log allowance work) (answer_of a) t
  pub left : LogCellsOnAnyGrid described spec s log work a t work'
