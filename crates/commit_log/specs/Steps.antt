-- The log commit on a stock whose description has a grid.
use Rattle.std.specs.Prelude.{List, ℕ, Float, Result}
use Rattle.grid.specs.declared.DexelStockSpec.{DexelStockSpec}
use Rattle.grid.specs.declared.DexelGrid.{DexelGrid}
use Rattle.stock.specs.Stock.{Stock}
use Rattle.refusal.specs.declared.Refusal.{Refusal}
use Rattle.log_model.specs.Logs.{commit_of}
use Rattle.log_model.specs.Runs.{CommitStep as CommitPromise}
use Rattle.log_model.specs.View.{lent_store}
use Rattle.commit_log.specs.LogCommit.{answer_of, LogCellsPost}

-- a log commit on a stock whose description has the grid g
pub record LogCommitOnGrid (spec : DexelStockSpec) (g : DexelGrid) (s : Stock) (log : List Float) (allowance : ℕ)
    (work : List Float) (a : Result ℕ Refusal) (t : Stock) (work' : List Float) : Type 0 where
  pub promise : CommitPromise spec g (lent_store spec g) s (commit_of log allowance work) (answer_of a) t
  pub left : LogCellsPost spec g s log work a t work'
