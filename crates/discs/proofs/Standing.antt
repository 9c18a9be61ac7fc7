-- W-234: for the tool at either end of a chord, the outer pair before it is turned holds each point of the exact disc within the
-- band, if the guard is 1 at most. Assumes nothing.
use Rattle.std.specs.Prelude.{Float, Option}
use mathlib.Core.Path.{◌≡◌, sym, subst}
use mathlib.Core.Bool.{true}
use mathlib.Core.Logic.{inl, inr}
use lib.Ieee.{le}
use Rattle.logic.proofs.Bools.{by_cases}
use Rattle.doubles.specs.Constants.{one}
use Rattle.doubles.specs.Ranges.{OutOfPositive}
use Rattle.sweep_model.specs.declared.Profile.{Profile}
use Rattle.sweep_model.specs.declared.ChordOnAxis.{ChordOnAxis}
use Rattle.sweep_model.specs.declared.Section.{Section}
use Rattle.discs.specs.Disc.{HoldsClosed}
use Rattle.discs.specs.Outer.{outer_local_at, outer_local}
use Rattle.discs.specs.Standing.{EndsCovered}
use Rattle.discs.proofs.Numbers.{guard-most}
use Rattle.discs.proofs.Stadium.{first-covered, last-covered}

-- refusal 7's limit of the guard, the only one that the theorem takes
pub ends-covered : (p : Profile) (l : ChordOnAxis) (s : Section) → (OutOfPositive one l.guard → ⊥) → EndsCovered p l s
unfolding outer_local OutOfPositive
ends-covered p l s fits =
    record {
      at_first = λ M r S scale x y d.
          subst (λ (q : Option Float). HoldsClosed scale x (outer_local_at l s q)) (sym S.widest)
          (first-covered M l.a l.b l.length s.y0 s.y1 l.e l.guard r
          (guard-most M l.guard S.numbers.guard_bounded most) scale x y S.numbers d);
      at_last = λ M r S scale x y d.
          subst (λ (q : Option Float). HoldsClosed scale x (outer_local_at l s q)) (sym S.widest)
          (last-covered M l.a l.b l.length s.y0 s.y1 l.e l.guard r
          (guard-most M l.guard S.numbers.guard_bounded most) scale x y S.numbers d);
    }
  where
    most : le l.guard one ≡ true
    most = elim (by_cases (le l.guard one)) [ inl h ↦ h | inr h ↦ absurd (fits (inr h)) ]
