-- `grid_from_spec::is_mm` meets its contract. Assumes nothing.
use Rattle.std.proofs.Common.{◌≡◌, refl, ◌∙◌, ap, List, [], ◌∷◌, ℕ, length, eqb, ne_eqb, arith}
use mathlib.Core.Bool.{Bool, true, false, ◌&&◌, and-false}
use lib.Pointwise.{pointwise}
use Rattle.grid.proofs.Tests.{and_no}
use Rattle.grid.specs.FromSpec.{is_mm}
use Rattle.grid_from_spec.proofs.is_mm.Goals as goal

two : (a b : Bool) → (a && (b && true)) ≡ (a && b)
two true true = refl
two true false = refl
two false b = refl

never : (a b : Bool) → (a && (b && false)) ≡ false
never true b = and-false b
never false b = refl

-- a text is "mm" where it has two bytes, each an m
same-as-mm : (units : List ℕ) → pointwise eqb units (109 ∷ 109 ∷ []) ≡ is_mm units
unfolding is_mm
same-as-mm [] = refl
same-as-mm (a ∷ []) = and-false (eqb a 109)
same-as-mm (a ∷ b ∷ []) = two (eqb a 109) (eqb b 109)
same-as-mm (a ∷ b ∷ c ∷ units) =
    never (eqb a 109) (eqb b 109) ∙ and_no _ _ (ne_eqb (length (a ∷ b ∷ c ∷ units)) 2 (λ h. omega arith))

pub returns : goal.returns
returns c = c.eq.ensures ∙ ap (pointwise eqb c.args.units.now) c.as_slice.ensures ∙ same-as-mm c.args.units.now
