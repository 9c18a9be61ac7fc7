-- What the question why a place shows as it does answers.
use Rattle.std.specs.Prelude.{◌≡◌, true, List, [], ◌∷◌, Float, Result, Ok, Err}
use Rattle.std.specs.Float.Ieee.{is_nan}
use Rattle.refusal.specs.Refusal.{Cause, cause, Due, NoneDue, number_of}
use Rattle.refusal.specs.declared.Refusal.{Refusal}
use Rattle.spans.specs.Rays.{ValidRay}
use Rattle.log_model.specs.Logs.{WholeLog, entries}
use Rattle.ray_trace.specs.Reasons.{TrueReason}
use Rattle.ray_trace.specs.declared.Reason.{Reason}

-- whole entries, and a ray that is valid within its bounds
pub record TracePre (lo hi : Float) (possible certain log : List Float) : Type 0 where
  pub whole_log : WholeLog log
  pub ray : ValidRay lo hi possible certain

-- the causes in their order. 12 has none: no buffer is lent to be written.
abbrev pub trace_causes : (lo hi : Float) → (possible certain log : List Float) → (place : Float) → List Cause
trace_causes lo hi possible certain log place = cause 11 (¬ TracePre lo hi possible certain log) ∷ cause 19 (is_nan place ≡ true) ∷ []

-- a refused call gives the number that is due; an accepted one, with no cause, a reason of which `is` holds
abbrev pub AnsweredReason : List Cause → (Reason → Type 0) → Result Reason Refusal → Type 0
AnsweredReason causes is (Ok r) = NoneDue causes × is r
AnsweredReason causes is (Err e) = Due causes (number_of e)

-- what an accepted question promises of the reason that it gives: the ray is valid, and the reason is the true one
pub record Traced (lo hi : Float) (possible certain log : List Float) (place : Float) (r : Reason) : Type 0 where
  pub ray : ValidRay lo hi possible certain
  pub reason_true : TrueReason possible certain (entries log) place r

abbrev pub TracePost : (lo hi : Float) → (possible certain log : List Float) → (place : Float) → Result Reason Refusal → Type 0
TracePost lo hi possible certain log place =
    AnsweredReason (trace_causes lo hi possible certain log place) (Traced lo hi possible certain log place)
