-- What is asked of two lists and a buffer, and what the lists leave of each other.
use Rattle.std.specs.Prelude.{◌≡◌, Bool, false, ◌&&◌, List, ℕ, ◌+◌, ◌/◌, ◌<◌, length, Float}
use Rattle.refusal.specs.Refusal.{Cause}
use Rattle.spans.specs.Spans.{sound, less, common, ListOf}
use Rattle.spans.specs.Results.{list_causes}
use Rattle.spans.specs.Overlay.{less_of, common_of}

-- for two lists and a buffer of `room` cells; one is bad where it is not sound
abbrev pub combine_causes : List Float → List Float → ℕ → List Cause
combine_causes a b room = list_causes (room / 2 < length a / 2 + length b / 2) ((sound a && sound b) ≡ false)

-- the sound list of a set, end by end: which zero stands at an end is settled too
pub record ExactListOf (s : Float → Bool) (exact l : List Float) : Type 0 where
  pub list : ListOf s l
  pub ends : l ≡ exact

-- l is a less b
abbrev pub LessOf : List Float → List Float → List Float → Type 0
LessOf a b l = ExactListOf (less a b) (less_of a b) l

-- l has the points in both a and b
abbrev pub CommonOf : List Float → List Float → List Float → Type 0
CommonOf a b l = ExactListOf (common a b) (common_of a b) l
