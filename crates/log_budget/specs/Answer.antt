-- Which budget a log commit would pass.
use Rattle.std.specs.Prelude.{cond, List, ℕ, ltb, Float, Result, Ok, Err, ⊤}
use Rattle.grid.specs.declared.DexelStockSpec.{DexelStockSpec}
use Rattle.grid.specs.declared.DexelGrid.{DexelGrid}
use Rattle.log_model.specs.Logs.{entries}
use Rattle.log_model.specs.Counts.{changed_ray_count, pairs_after}
use Rattle.refusal.specs.Refusal.{number_of}
use Rattle.refusal.specs.declared.Refusal.{Refusal}
use Rattle.stock.specs.Stock.{ray_lists}
use Rattle.store.specs.Store.{Cells}

-- document 01's number of each answer; 0 where there is none
abbrev pub budget_number : Result ⊤ Refusal → ℕ
budget_number (Ok _) = 0
budget_number (Err e) = number_of e

-- 9: one more changed ray than allowed; 10: intervals after the commit above `max_intervals`; 9 comes first
unfoldable pub budget_of : (allowance intervals changed left : ℕ) → ℕ
budget_of allowance intervals changed left = cond (ltb allowance changed) 9 (cond (ltb intervals left) 10 0)

-- the same of a log on a store: the rays that it would change, and the pairs of all lists as they would then be
abbrev pub budget_in : (spec : DexelStockSpec) (g : DexelGrid) → Cells → (log : List Float) (allowance : ℕ) → ℕ
budget_in spec g c log allowance =
    budget_of allowance spec.max_intervals (changed_ray_count g (ray_lists spec g c) (entries log))
    (pairs_after g (ray_lists spec g c) (entries log))
