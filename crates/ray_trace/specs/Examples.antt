-- Places on a ray from 0 to 10 and why each shows as it does, as one table; `examples-right` in proofs/Examples.antt
-- claims that the reason of each row is the true one. Axis and index of each entry are NaN: they do not count.
use Rattle.std.specs.Prelude.{List, [], ◌∷◌, ◌++◌, ℕ, Float}
use Rattle.std.specs.Float.{nan}
use Rattle.std.specs.Float.Ieee.{neg}
use Rattle.doubles.specs.Rounding.{ratio}
use Rattle.grid.specs.Grid.{whole}
use Rattle.log_model.specs.Logs.{entries}
use Rattle.ray_trace.specs.Reasons.{TrueReason}
use Rattle.ray_trace.specs.declared.Reason.{Reason}
use Rattle.ray_trace.specs.declared.Reason.TheVariants.{NotPossible, RemovedBy, UncertainBy, NotCertain, StillCertain}

-- what is asked, and last what it must come to
pub record TraceExample : Type 0 where
  pub possible : List Float
  pub certain : List Float
  pub log : List Float
  pub place : Float
  pub reason : Reason

-- possible is 0 to 10, certain 0 to `certain-to`
abbrev pub traced : (certain-to : ℕ) (log : List Float) (place : Float) → Reason → TraceExample
traced certain-to log place reason = record {
  possible = whole 0 ∷ whole 10 ∷ [];
  certain = whole 0 ∷ whole certain-to ∷ [];
  log = log;
  place = place;
  reason = reason;
}

-- a log of one entry
abbrev pub one_entry : (outer-lo outer-hi inner-lo inner-hi : ℕ) → List Float
one_entry a b c d = nan ∷ nan ∷ whole a ∷ whole b ∷ whole c ∷ whole d ∷ []

abbrev pub TracedRight : List TraceExample → Type 0
TracedRight [] = Unit {0}
TracedRight (e ∷ es) = TrueReason e.possible e.certain (entries e.log) e.place e.reason × TracedRight es

unfoldable pub trace_examples : List TraceExample
unfolding ratio neg
trace_examples =
    traced 10 (one_entry 1 4 2 3) (ratio 5 2) (RemovedBy 1)
    ∷ traced 10 (one_entry 1 4 2 3) (ratio 3 2) (UncertainBy 1)
    ∷ traced 10 (one_entry 1 4 2 3) (whole 4) StillCertain
    ∷ traced 10 (one_entry 1 4 2 3) (whole 3) (UncertainBy 1)
    ∷ traced 10 (one_entry 1 4 2 3) (neg (whole 1)) NotPossible
    ∷ traced 10 (one_entry 1 4 2 3) (whole 10) NotPossible
    ∷ traced 5 (one_entry 1 4 2 3) (whole 7) NotCertain
    -- the second entry is wider: of those that hold the place the first counts, and an inner pair before an outer one
    ∷ traced 10 (one_entry 1 4 2 3 ++ one_entry 0 9 1 6) (ratio 5 2) (RemovedBy 1)
    ∷ traced 10 (one_entry 1 4 2 3 ++ one_entry 0 9 1 6) (ratio 3 2) (RemovedBy 2)
    ∷ traced 10 (one_entry 1 4 2 3 ++ one_entry 0 9 1 6) (whole 7) (UncertainBy 2)
    -- the inner pair lies outside the outer one
    ∷ traced 10 (one_entry 1 2 4 6) (whole 5) (RemovedBy 1)
    ∷ []
