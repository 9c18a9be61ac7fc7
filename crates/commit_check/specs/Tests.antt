-- The tests of a log commit, and the number that is due where one is not passed.
use Rattle.std.specs.Prelude.{List, ℕ, ◌-◌, ◌*◌, ◌^◌, ◌≤◌, ◌<◌, Float, ⊤, Result, Ok, Err}
use Rattle.grid.specs.Rays.{ray_count}
use Rattle.grid.specs.declared.DexelStockSpec.{DexelStockSpec}
use Rattle.grid.specs.declared.DexelGrid.{DexelGrid}
use Rattle.stock.specs.Stock.{Stock, SoundStock, ray_lists}
use Rattle.refusal.specs.Refusal.{Cause, Due, number_of}
use Rattle.refusal.specs.declared.Refusal.{Refusal}
use Rattle.log_model.specs.Logs.{entries, WholeLog, Commit, commit_of}
use Rattle.log_model.specs.Steps.{WorkRoom}
use Rattle.log_model.specs.Model.{log_commit_causes}
use Rattle.log_model.specs.Counts.{changed_ray_count, pairs_after}
use Rattle.log_model.specs.Runs.{point_sets}
use Rattle.log_model.specs.View.{lent_store}
use Rattle.log_entries.specs.Named.{EachNamed}
use Rattle.store.specs.Steps.{Room}

-- every test of the commit is passed
pub record LogChecked (spec : DexelStockSpec) (g : DexelGrid) (s : Stock) (log : List Float) (allowance : ℕ)
    (work : List Float) : Type 0 where
  pub room : Room spec.max_intervals (2 * ray_count g) s.cells
  pub work_room : WorkRoom spec.max_intervals log work
  pub whole : WholeLog log
  pub sound : SoundStock spec g s
  pub below : s.generation < 2 ^ 64 - 1
  pub named : EachNamed g log
  pub few_rays : changed_ray_count g (ray_lists spec g s.cells) (entries log) ≤ allowance
  pub few_pairs : pairs_after g (ray_lists spec g s.cells) (entries log) ≤ spec.max_intervals

-- the causes of a log commit on a stock
abbrev pub stock_log_causes : (spec : DexelStockSpec) (g : DexelGrid) → Stock → Commit → List Cause
stock_log_causes spec g s c = log_commit_causes spec g ((lent_store spec g).lent s) (¬ SoundStock spec g s)
    (point_sets g (lent_store spec g) s) s.generation c

-- the answer of all tests: each is passed, or the refusal whose number is due
abbrev pub LogCheckPost : (spec : DexelStockSpec) (g : DexelGrid) (s : Stock) (log : List Float) (allowance : ℕ) (work : List Float)
    → Result ⊤ Refusal → Type 0
LogCheckPost spec g s log allowance work (Ok u) = LogChecked spec g s log allowance work
LogCheckPost spec g s log allowance work (Err e) = Due (stock_log_causes spec g s (commit_of log allowance work)) (number_of e)
