-- What a pass over pairs leaves.
use Rattle.std.specs.Prelude.{◌≡◌, List, ℕ, ◌-◌, ◌%◌, ◌≤◌, length, take, drop, Float}
use Rattle.spans.specs.Spans.{NormalOf}
use Rattle.spans.specs.Steps.{FilledFront}
use Rattle.spans.specs.declared.Place.{Place}

-- the first r cells are the list
pub record ListInFront (list before after : List Float) (r : ℕ) : Type 0 where
  pub size : length after ≡ length before
  pub count : r ≡ length list
  pub ends : take r after ≡ list

-- the first cells are what normalising makes of a part of the pairs, which has `limit` ends
pub record JoinedPart (part : List Float) (limit : ℕ) (spans before after : List Float) (r : Place) : Type 0 where
  pub passed_most : r.passed ≤ length spans
  pub passed_even : r.passed % 2 ≡ 0
  pub filled : FilledFront (NormalOf part) before limit after r.end

-- of the first `passed` ends
abbrev pub JoinedFromFront : List Float → List Float → List Float → Place → Type 0
JoinedFromFront spans before after r = JoinedPart (take r.passed spans) r.passed spans before after r

-- of the ends from `passed` on
abbrev pub JoinedFromBack : List Float → List Float → List Float → Place → Type 0
JoinedFromBack spans before after r = JoinedPart (drop r.passed spans) (length spans - r.passed) spans before after r
