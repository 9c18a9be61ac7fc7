-- What is found where two span lists are compared.
use Rattle.std.specs.Prelude.{◌≡◌, Bool, true, false, List, Float}
use Rattle.spans.specs.Spans.{holds, Within, Apart}
use Rattle.spans.specs.Steps.{EndOfEither}

-- whether the outer list has each point of the inner one; if not, an end of one of them is in the inner alone
abbrev pub Covers : List Float → List Float → Bool → Type 0
Covers outer inner true = Within outer inner
Covers outer inner false = (p : Float) × EndOfEither outer inner p × (holds inner p ≡ true) × (holds outer p ≡ false)

-- whether the lists have a point in common; if so, an end of one of them is in both
abbrev pub Meets : List Float → List Float → Bool → Type 0
Meets a b true = (p : Float) × EndOfEither a b p × (holds a p ≡ true) × (holds b p ≡ true)
Meets a b false = Apart a b
