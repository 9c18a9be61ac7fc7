-- Steps: the answer of a search through the entries.
use Rattle.std.specs.Prelude.{◌≡◌, false, List, ℕ, Float, Option, None, Some}
use Rattle.spans.specs.Spans.{holds}
use Rattle.log_model.specs.Logs.{HitKind}
use Rattle.log_model.specs.declared.Entry.{Entry}
use Rattle.ray_trace.specs.Reasons.{hit_pairs, FirstHolding}

-- the number of the first entry whose pair holds p, or none where no pair does
abbrev pub FoundAt : HitKind → List Entry → Float → Option ℕ → Type 0
FoundAt w es p None = holds (hit_pairs w es) p ≡ false
FoundAt w es p (Some k) = FirstHolding w p es k
