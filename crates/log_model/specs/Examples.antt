-- A worked run of logs on the lent store, every number of it given; `run-right` in proofs/Examples.antt claims all
-- that `RunRight` says. The blank is the box from 0 to 10 in one cell, so with one ray along each axis, and has room
-- for eight records. On its uncut store come three logs: one that cuts the ray along axis 1, one with no ray allowed
-- where it would change one, and one whose inner hit sticks out of its outer hit.
use Rattle.std.specs.Prelude.{◌≡◌, true, List, [], ◌∷◌, ℕ, zero, suc, replicate, Float, Ok}
use Rattle.spans.specs.Spans.{equal}
use Rattle.grid.specs.Grid.{whole}
use Rattle.grid.specs.FromSpec.{grid_of}
use Rattle.grid.specs.declared.DexelStockSpec.{DexelStockSpec}
use Rattle.grid.specs.declared.DexelGrid.{DexelGrid}
use Rattle.stock.specs.Stock.{Stock, Kind, Possible, Certain, ray_list}
use Rattle.stock_fill.specs.Uncut.{uncut, uncut_tally}
use Rattle.log_model.specs.Logs.{Commit}
use Rattle.log_model.specs.Model.{LogAnswer, changed, refused}
use Rattle.log_model.specs.Runs.{Run}
use Rattle.log_model.specs.View.{lent_store}
use Rattle.grid.specs.Rays.{Ray}
use Rattle.store.specs.Store.{cells}

-- the box with room for n records, and its grid
abbrev pub example_box : ℕ → DexelStockSpec
example_box n = record {
  version = 1;
  min_mm = record { x = whole 0; y = whole 0; z = whole 0 };
  max_mm = record { x = whole 10; y = whole 10; z = whole 10 };
  cell_size_mm = whole 10;
  max_rays = 3;
  max_intervals = n;
}

abbrev pub example_grid : DexelGrid
example_grid = record { c0 = 1; c1 = 1; c2 = 1; s0 = whole 10; s1 = whole 10; s2 = whole 10 }

-- the uncut store: records 1 to 6 in ray order, possible first, and two free ones
abbrev pub example_stock : Stock
example_stock = record {
  cells = record {
    spans = whole 0 ∷ whole 10 ∷ whole 0 ∷ whole 10 ∷ whole 0 ∷ whole 10 ∷ whole 0 ∷ whole 10 ∷ whole 0 ∷ whole 10 ∷ whole 0 ∷ whole 10
        ∷ whole 0 ∷ whole 0 ∷ whole 0 ∷ whole 0 ∷ [];
    links = 0 ∷ 1 ∷ 0 ∷ 2 ∷ 0 ∷ 3 ∷ 0 ∷ 4 ∷ 0 ∷ 5 ∷ 0 ∷ 6 ∷ 0 ∷ 0 ∷ 0 ∷ 0 ∷ [];
    heads = 1 ∷ 2 ∷ 3 ∷ 4 ∷ 5 ∷ 6 ∷ [];
  };
  generation = 0;
  intervals = 6;
}

-- a log of one entry: outer 1 to 4, inner 2 to 3
abbrev pub example_hit : Float → Float → List Float
example_hit axis index = axis ∷ index ∷ whole 1 ∷ whole 4 ∷ whole 2 ∷ whole 3 ∷ []

-- index, allowance and work pairs of a commit
abbrev pub example_commit : ℕ → ℕ → ℕ → Commit
example_commit index allowance work = record { log = example_hit (whole 1) (whole index); allowance = allowance; work = work }

-- no ray is allowed, and the ray along axis 0 would change
abbrev pub not_allowed : Commit
not_allowed = record { log = example_hit (whole 0) (whole 0); allowance = 0; work = 66 }

-- outer 9 to 10, inner 4 to 10
abbrev pub inner_wider : Commit
inner_wider = record { log = whole 1 ∷ whole 0 ∷ whole 9 ∷ whole 10 ∷ whole 4 ∷ whole 10 ∷ []; allowance = 1; work = 66 }

abbrev pub three_logs : List Commit
three_logs = example_commit 0 1 66 ∷ not_allowed ∷ inner_wider ∷ []

abbrev pub three_answers : List LogAnswer
three_answers = changed 1 ∷ refused 9 ∷ changed 1 ∷ []

-- the lists at the end: the ray along axis 1 has 0 to 2 and 3 to 4 for possible, 0 to 1 for certain, and the other rays are full
abbrev pub example_list_after : ℕ → Kind → List Float
example_list_after zero k = whole 0 ∷ whole 10 ∷ []
example_list_after (suc zero) Possible = whole 0 ∷ whole 2 ∷ whole 3 ∷ whole 4 ∷ []
example_list_after (suc zero) Certain = whole 0 ∷ whole 1 ∷ []
example_list_after (suc (suc n)) k = whole 0 ∷ whole 10 ∷ []

-- a stock as the run leaves it: generation 2, seven intervals, and these lists
pub record AtEnd (t : Stock) : Type 0 where
  pub lists : (r : Ray example_grid) (k : Kind) → equal (ray_list (example_box 8) t.cells r.0 k) (example_list_after r.0 k) ≡ true
  pub generation : t.generation ≡ 2
  pub intervals : t.intervals ≡ 7

-- THE WORKED RUN
pub record RunRight : Type 0 where
  pub accepted : grid_of (example_box 8) (109 ∷ 109 ∷ []) ≡ Ok example_grid
  -- the fill lays the first stock in cells that held 7
  pub fills : uncut (example_box 8) example_grid (cells (replicate 16 (whole 7)) (replicate 16 7) (replicate 6 7)) ≡ example_stock.cells
  pub fills_record : uncut_tally example_grid ≡ record { generation = example_stock.generation; intervals = example_stock.intervals }
  -- there is a run
  pub end : Stock
  pub ran : Run (example_box 8) example_grid (lent_store (example_box 8) example_grid) example_stock three_logs three_answers end
  -- and every run gives these answers and ends so
  pub answers : (vs : List LogAnswer) (t : Stock)
      → Run (example_box 8) example_grid (lent_store (example_box 8) example_grid) example_stock three_logs vs t → vs ≡ three_answers
  pub ends : (vs : List LogAnswer) (t : Stock)
      → Run (example_box 8) example_grid (lent_store (example_box 8) example_grid) example_stock three_logs vs t → AtEnd t
