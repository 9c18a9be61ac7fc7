-- A run on a description that `grid` refuses.
use Rattle.std.specs.Prelude.{◌≡◌, List, ℕ, ◌+◌, ◌*◌, ◌≤◌, ◌<◌, get_or, Float}
use Rattle.stock.specs.Stock.{Stock}
use Rattle.log_model.specs.Model.{refused}
use Rattle.commit_run.specs.RunLogs.{answer_by}

-- a description that `grid` refuses with the number k: nothing is written but k, as the answer to each of i commits
pub record AllRefused (k i : ℕ) (s : Stock) (work : List Float) (answers : List ℕ) (t : Stock) (work' : List Float)
    (answers' : List ℕ) : Type 0 where
  pub stock_stays : t ≡ s
  pub work_stays : work' ≡ work
  pub each : (j : ℕ) → j < i → answer_by (get_or answers' (2 * j) 0) (get_or answers' (2 * j + 1) 0) ≡ refused k
  pub past : (q : ℕ) → 2 * i ≤ q → get_or answers' q 0 ≡ get_or answers q 0
