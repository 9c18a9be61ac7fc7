-- What the check of two lists answers.
use Rattle.std.specs.Prelude.{List, Result, Ok, Err}
use Rattle.refusal.specs.Refusal.{Cause, Due, NoneDue, number_of}
use Rattle.refusal.specs.declared.Refusal.{Refusal}

-- no cause is present, or the refusal's number is due
abbrev pub CombineCheckPost : List Cause → Result (Unit {0}) Refusal → Type 0
CombineCheckPost causes (Ok u) = NoneDue causes
CombineCheckPost causes (Err e) = Due causes (number_of e)
