-- What the steps of a sweep answer.
use Rattle.std.specs.Prelude.{List, ◌++◌, ℕ, ◌-◌, ◌/◌, Float, length, replicate, take, Result, Ok, Err}
use Rattle.doubles.specs.Constants.{plus_zero}
use Rattle.refusal.specs.Refusal.{Due, NoneDue, number_of}
use Rattle.refusal.specs.declared.Refusal.{Refusal}
use Rattle.stock.specs.Stock.{SoundCells}
use Rattle.sweep_visits.specs.declared.VisitCursor.{VisitCursor}
use Rattle.sweep.specs.declared.Totals.{Totals}
use Rattle.sweep_model.specs.SweepEntries.{Setting}
use Rattle.sweep_walk.specs.Steps.{Sweepable}
use Rattle.sweep.specs.Answer.{setting_causes}

-- the answer of the check of a setting; one that is admitted has a sound store and can be swept
abbrev pub SweepCheckPost : Setting → (intervals : ℕ) → (chords : List Float) → Result (Unit {0}) Refusal → Type 0
SweepCheckPost s intervals chords (Ok u) =
    NoneDue (setting_causes s intervals chords)
    × Sweepable s.spec s.grid s.cells
    × SoundCells s.spec s.grid s.cells intervals
SweepCheckPost s intervals chords (Err e) = Due (setting_causes s intervals chords) (number_of e)

-- the end of a walk as an answer, and the log with what is not an entry zero
abbrev pub end_of : Result VisitCursor Refusal → Result Totals Refusal
end_of (Err e) = Err e
end_of (Ok c) = Ok (record { entries = c.at / 6; visits = c.visits })

abbrev pub logged_by : Result VisitCursor Refusal → ℕ
logged_by (Err e) = 0
logged_by (Ok c) = c.at

abbrev pub end_log : Result VisitCursor Refusal → List Float → List Float
end_log x log = take (logged_by x) log ++ replicate (length log - logged_by x) plus_zero
