-- The causes of `normalize`.
use Rattle.std.specs.Prelude.{◌≡◌, List, ℕ, ◌/◌, ◌%◌, ◌<◌, length, Float}
use Rattle.refusal.specs.Refusal.{Cause}
use Rattle.spans.specs.Results.{list_causes}

-- for arbitrary pairs and a buffer of `room` cells; the list is bad where part of a pair is over
abbrev pub normalize_causes : List Float → ℕ → List Cause
normalize_causes spans room = list_causes (room / 2 < length spans / 2) (length spans % 2 ≡ 1)
