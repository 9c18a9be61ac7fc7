-- What a comparison of two lists tells.
use mathlib.Core.Path.{◌≡◌, refl}
use mathlib.Core.Bool.{Bool, true, false}
use mathlib.Core.List.{List}
use lib.Ieee.{Float}
use Rattle.logic.proofs.Bools.{clash}
use Rattle.spans.specs.Spans.{holds, Within}
use Rattle.span_cover.specs.Cover.{Covers}

-- a comparison tells whether the inner list lies within the outer one
pub covers-tells : (outer inner : List Float) (r : Bool) → Covers outer inner r
    → (r ≡ true → Within outer inner) × (Within outer inner → r ≡ true)
covers-tells outer inner true f = ((λ e. f), (λ w. refl))
covers-tells outer inner false f = ((λ e. absurd (clash false e refl)), (λ w. absurd (clash (holds outer f.0) (w f.0 f.2) f.3)))
