-- How a replay reads on to the next row.
use Rattle.std.specs.Prelude.{ℕ, ◌<◌, ◌≤◌}
use Rattle.vector_rows.specs.RowCounts.{missed}
use Rattle.vector_rows.specs.declared.RowCounts.{RowCounts}
use Rattle.vector_rows.specs.declared.Replay.{Replay}

-- a row of so many words fits the longest text, and its first word has at most 16 digits
pub record RowPre (head words : ℕ) : Type 0 where
  pub digits : head ≤ 16
  pub one_word : 0 < words
  pub fits : words ≤ 243

-- from the first counts to the second only rows that cannot be read came
pub data UnreadBetween (t : RowCounts) : RowCounts → Type 0 where
  no_row : UnreadBetween t t
  one_row : {u : RowCounts} → UnreadBetween t u → UnreadBetween t (missed u)

-- the rows passed on the way to the next are counted as unread, and fewer rows are left
pub record NextRowPost (t : RowCounts) (left : ℕ) (r : Replay) : Type 0 where
  pub unread : UnreadBetween t r.counts
  pub fewer : r.left < left
