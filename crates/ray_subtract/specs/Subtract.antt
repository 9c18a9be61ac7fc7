-- What hits take from a list.
use Rattle.std.specs.Prelude.{◌≡◌, Bool, cond, not, ◌&&◌, ◌||◌, List, ℕ, ◌+◌, ◌*◌, leb, length, take, drop, Float}
use Rattle.spans.specs.Spans.{holds, equal, ListOf, set_minus}
use Rattle.ray_subtract.specs.declared.MergedList.{MergedList}

-- the points that certain loses; possible loses those of the inner hits alone
abbrev pub either_hit : List Float → List Float → Float → Bool
either_hit outer inner p = holds outer p || holds inner p

-- the cells that a list takes in the work buffer: none where it did not move
abbrev pub new_cells : MergedList → ℕ
new_cells part = cond part.moved (2 * part.pairs) 0

-- the list that is handed back: the new one, from cell `at` of the work buffer on, or the caller's own
abbrev pub handed_back : MergedList → List Float → List Float → ℕ → List Float
handed_back part before work at =
    cond (part.moved && leb (at + 2 * part.pairs) (length work)) (take (2 * part.pairs) (drop at work)) before

-- a list and what becomes of it: whether a boundary of it moved, which points are left, and how many pairs
pub record ListAfterHits (before : List Float) (hit : Float → Bool) (part : MergedList) (after : List Float) : Type 0 where
  pub moves : part.moved ≡ not (equal before after)
  pub list : ListOf (set_minus (holds before) hit) after
  pub pairs : length after ≡ 2 * part.pairs
