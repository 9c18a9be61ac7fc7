-- What is asked of a pair and a sound list, and what is written.
use Rattle.std.specs.Prelude.{◌≡◌, true, List, ◌++◌, ℕ, ◌+◌, ◌%◌, ◌≤◌, length, take, Float}
use Rattle.std.specs.Float.Ieee.{lt}
use Rattle.spans.specs.Spans.{sound}
use Rattle.spans.specs.Steps.{UpTo}
use Rattle.spans.specs.declared.Place.{Place}
use Rattle.spans.specs.Overlay.{cut_by}

-- what `cut_pair` asks: a pair, and room for what is left of it past the first n ends
pub record OverlayCutPre (rest : List Float) (from hi : Float) (before : List Float) (n : ℕ) : Type 0 where
  pub rest_sound : sound rest ≡ true
  pub pair : lt from hi ≡ true
  pub room : n + length rest + 2 ≤ length before

-- what the list leaves of the pair stands past the first n ends; the ends of the list that are passed are at most hi
pub record OverlayCutPost (rest : List Float) (from hi : Float) (before : List Float) (n : ℕ) (after : List Float)
    (r : Place) : Type 0 where
  pub size : length after ≡ length before
  pub passed_most : r.passed ≤ length rest
  pub passed_even : r.passed % 2 ≡ 0
  pub passed_up_to : UpTo hi (take r.passed rest)
  pub most : r.end ≤ n + r.passed + 2
  pub ends : take r.end after ≡ take n before ++ cut_by from hi rest
