-- What follows from a cause being due: at most one number is, and where one is due the causes are not all absent. Which numbers refusals have.
use mathlib.Core.Path.{◌≡◌, refl, sym, ◌∙◌}
use mathlib.Core.Bool.{false, ◌||◌}
use mathlib.Core.List.{List, [], ◌∷◌}
use mathlib.Core.Logic.{inl, inr}
use Prim.Native.Nat.{ℕ}
use lib.Dec.{eqb}
use Rattle.refusal.specs.Refusal.{Cause, Due, NoneDue, number_of}
use Rattle.refusal.specs.declared.Refusal.{Refusal}
use Rattle.refusal.specs.declared.Refusal.TheVariants.{Description, RayLimit, IntervalLimit, Beam, Tool, Chord, VisitBudget, RayBudget, IntervalBudget}
use Rattle.refusal.specs.declared.Refusal.TheVariants.{Unsound, ShortBuffer, Change, BaseGeneration, LastGeneration, LogFull, NoRay, Text, Place}

-- one number at the most is due
pub due-unique : (cs : List Cause) (j k : ℕ) → Due cs j → Due cs k → j ≡ k
unfolding Due
due-unique [] j k d e = absurd d
due-unique (c ∷ cs) j k (inl d) (inl e) = d.1 ∙ sym e.1
due-unique (c ∷ cs) j k (inl d) (inr e) = absurd (e.0 d.0)
due-unique (c ∷ cs) j k (inr d) (inl e) = absurd (d.0 e.0)
due-unique (c ∷ cs) j k (inr d) (inr e) = due-unique cs j k d.1 e.1

-- an accepted call has no number due
pub none-due : (cs : List Cause) (k : ℕ) → NoneDue cs → Due cs k → ⊥
unfolding Due NoneDue
none-due [] k n d = d
none-due (c ∷ cs) k n (inl d) = n.0 d.0
none-due (c ∷ cs) k n (inr d) = none-due cs k n.1 d.1

-- the first cause of a list is due
pub first : (c : Cause) (cs : List Cause) → c.present → Due (c ∷ cs) c.number
unfolding Due
first c cs p = inl (p, refl)

-- a later one is due where the first is absent
pub later : (c : Cause) (cs : List Cause) (k : ℕ) → ¬ c.present → Due cs k → Due (c ∷ cs) k
unfolding Due
later c cs k n d = inr (n, d)

-- no refusal has the number 0, which stands for none, or the retired 4
pub number-allowed : (e : Refusal) → (eqb (number_of e) 0 || eqb (number_of e) 4) ≡ false
number-allowed Description = refl
number-allowed RayLimit = refl
number-allowed IntervalLimit = refl
number-allowed Beam = refl
number-allowed Tool = refl
number-allowed Chord = refl
number-allowed VisitBudget = refl
number-allowed RayBudget = refl
number-allowed IntervalBudget = refl
number-allowed Unsound = refl
number-allowed ShortBuffer = refl
number-allowed Change = refl
number-allowed BaseGeneration = refl
number-allowed LastGeneration = refl
number-allowed LogFull = refl
number-allowed NoRay = refl
number-allowed Text = refl
number-allowed Place = refl
