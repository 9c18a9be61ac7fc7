-- What the steps that work a pair into a sound list leave.
use Rattle.std.specs.Prelude.{◌≡◌, Bool, true, false, List, [], ◌∷◌, ◌++◌, ℕ, ◌+◌, ◌-◌, ◌%◌, ◌≤◌, ◌<◌, eqb, length, get_or, take, drop, Float}
use Rattle.std.specs.Float.{nan}
use Rattle.spans.specs.Spans.{NormalOf}
use Rattle.spans.specs.Steps.{SameFrom}

-- of the first n ends, those from r on fail the test, and the one before r passes it
pub record EndsCounted (test : Float → Bool) (l : List Float) (n r : ℕ) : Type 0 where
  pub most : r ≤ n
  pub past : (k : ℕ) → r ≤ k → k < n → test (get_or l k nan) ≡ false
  pub last : 0 < r → test (get_or l (r - 1) nan) ≡ true

-- the cells from `from` to `from + count` stand at `to`; those in front of both places are as before, and so are those past the new place
pub record CellsMoved (before : List Float) (from to count : ℕ) (after : List Float) : Type 0 where
  pub size : length after ≡ length before
  pub front : (k : ℕ) → k < from → k < to → get_or after k nan ≡ get_or before k nan
  pub cells : (k : ℕ) → k < count → get_or after (to + k) nan ≡ get_or before (from + k) nan
  pub rest : SameFrom (to + count) before after

-- x as a list of one where b holds
abbrev pub end_if : Bool → Float → List Float
end_if true x = x ∷ []
end_if false x = []

-- The list l with the ends from place i to place j replaced by lo and hi: lo only where an even number of ends stand in front of it,
-- hi only where an even number stand in front of place j. So a pair that lo or hi falls into keeps its other end.
abbrev pub join_at : List Float → ℕ → ℕ → Float → Float → List Float
join_at l i j lo hi = take i l ++ (end_if (eqb (i % 2) 0) lo ++ (end_if (eqb (j % 2) 0) hi ++ drop j l))

pub record SplicePost (before : List Float) (n i j : ℕ) (lo hi : Float) (after : List Float) (r : ℕ) : Type 0 where
  pub size : length after ≡ length before
  pub most : r ≤ n + 2
  pub ends : take r after ≡ join_at (take n before) i j lo hi
  pub rest : SameFrom (n + 2) before after

-- the first r ends are what normalising makes of the first n, a sound list, and the pair
pub record InsertPost (before : List Float) (n : ℕ) (lo hi : Float) (after : List Float) (r : ℕ) : Type 0 where
  pub size : length after ≡ length before
  pub most : r ≤ n + 2
  pub list : NormalOf (take n before ++ (lo ∷ hi ∷ [])) (take r after)
  pub rest : SameFrom (n + 2) before after
