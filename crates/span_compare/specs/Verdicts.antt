-- What a comparison of two span lists answers.
use Rattle.std.specs.Prelude.{◌≡◌, Bool, true, false, ◌&&◌, List, [], ◌∷◌, Float, Result, Ok, Err}
use Rattle.refusal.specs.Refusal.{Cause, cause, Due, NoneDue, number_of}
use Rattle.refusal.specs.declared.Refusal.{Refusal}
use Rattle.spans.specs.Spans.{sound, Within, Outside, Share, Apart}

-- the causes of both comparisons: 11 a list is not sound
abbrev pub compare_causes : List Float → List Float → List Cause
compare_causes a b = cause 11 ((sound a && sound b) ≡ false) ∷ []

-- a refused call gives the refusal whose number is due; an accepted one, with no cause, says what was found
abbrev pub ComparePost : List Cause → (Bool → Type 0) → Result Bool Refusal → Type 0
ComparePost causes found (Ok b) = NoneDue causes × found b
ComparePost causes found (Err e) = Due causes (number_of e)

-- whether the outer list has each point of the inner one, with the reason: if not, some point is in the inner alone
abbrev pub Contains : List Float → List Float → Bool → Type 0
Contains outer inner true = Within outer inner
Contains outer inner false = Outside outer inner

-- whether the lists have a point in common, with the reason
abbrev pub Overlaps : List Float → List Float → Bool → Type 0
Overlaps a b true = Share a b
Overlaps a b false = Apart a b
