-- What is counted of the rows of a replay.
use Rattle.std.specs.Prelude.{Bool, cond, List, ℕ, ◌+◌, eqb, ltb, leb, get_or, set, replicate}
use Rattle.vector_rows.specs.declared.RowCounts.{RowCounts}
use Rattle.vector_rows.specs.declared.RowOutcome.{RowOutcome}
use Rattle.vector_rows.specs.declared.RowOutcome.TheVariants.{Agrees, Differs, Unread}

-- no row yet
unfoldable pub none : RowCounts
none = record { agree = replicate 16 0; differ = replicate 16 0; unread = 0; rows = 0; first = 0 }

-- one more, up to the largest count
unfoldable pub up : ℕ → ℕ
up n = cond (eqb n 18446744073709551615) n (n + 1)

-- one more at place k
unfoldable pub up_at : List ℕ → ℕ → List ℕ
unfolding up
up_at counts k = set counts k (up (get_or counts k 0))

-- the first that differs, where there is one already, else this row
unfoldable pub first_differing : (first row : ℕ) → ℕ
first_differing first row = cond (eqb first 0) row first

-- a row more of function k that agrees, that differs, and one that cannot be read
unfoldable pub agreed : RowCounts → ℕ → RowCounts
unfolding up up_at
agreed t k = record { agree = up_at t.agree k; differ = t.differ; unread = t.unread; rows = up t.rows; first = t.first }

unfoldable pub differed : RowCounts → ℕ → RowCounts
unfolding up up_at first_differing
differed t k =
    record {
      agree = t.agree;
      differ = up_at t.differ k;
      unread = t.unread;
      rows = up t.rows;
      first = first_differing t.first (up t.rows);
    }

unfoldable pub missed : RowCounts → RowCounts
unfolding up
missed t = record { agree = t.agree; differ = t.differ; unread = up t.unread; rows = up t.rows; first = t.first }

-- a row more; one of a function that has no place cannot be read
unfoldable pub counted : RowCounts → RowOutcome → RowCounts
unfolding agreed differed missed
counted t (Agrees k) = cond (ltb k 16) (agreed t k) (missed t)
counted t (Differs k) = cond (ltb k 16) (differed t k) (missed t)
counted t Unread = missed t

-- what a row of function k of so many showed
unfoldable pub outcome_of : (k functions : ℕ) → Bool → RowOutcome
outcome_of k functions agrees = cond (leb functions k) Unread (cond agrees (Agrees k) (Differs k))
