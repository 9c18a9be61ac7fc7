-- The numbers that C gets stand for the entry's answer: no refusal has the number 0, and none the retired 4.
use mathlib.Core.Path.{◌≡◌, refl, sym, subst}
use mathlib.Core.Bool.{Bool, true, false, not, ◌&&◌, ◌||◌, true≢false}
use mathlib.Core.List.{List, [], ◌∷◌}
use mathlib.Core.Logic.{inl, inr}
use Prim.Native.Nat.{ℕ, zero, suc}
use lib.Dec.{eqb}
use Rattle.std.specs.Prelude.{Result, Ok, Err}
use Rattle.refusal.specs.Refusal.{Cause, Due, number_of}
use Rattle.refusal.specs.declared.Refusal.{Refusal}
use Rattle.refusal.specs.declared.Refusal.TheVariants.{Description, RayLimit, IntervalLimit, Beam, Tool, Chord, VisitBudget, RayBudget, IntervalBudget}
use Rattle.refusal.specs.declared.Refusal.TheVariants.{Unsound, ShortBuffer, Change, BaseGeneration, LastGeneration, LogFull, NoRay, Text, Place}
use Rattle.logic.proofs.Bools.{and_left, and_right}
use Rattle.c_results.specs.Numbers.{AnsweredBy, HandedAs}

-- a number that a refusal may have: 0 stands for none, and 4 is retired
abbrev pub is_given : ℕ → Bool
is_given k = not (eqb k 0 || eqb k 4)

-- the number of each cause is one of these
abbrev pub all_given : List Cause → Bool
all_given [] = true
all_given (c ∷ cs) = is_given c.number && all_given cs

-- so is the number that is due
pub due-given : (cs : List Cause) (k : ℕ) → all_given cs ≡ true → Due cs k → is_given k ≡ true
unfolding Due
due-given [] k n d = absurd d
due-given (c ∷ cs) k n (inl d) = rw d.1 (and_left (is_given c.number) (all_given cs) n)
due-given (c ∷ cs) k n (inr d) = due-given cs k (and_right (is_given c.number) (all_given cs) n) d.1

-- no refusal has the number 0
pub number-not-zero : (e : Refusal) → eqb (number_of e) 0 ≡ false
number-not-zero Description = refl
number-not-zero RayLimit = refl
number-not-zero IntervalLimit = refl
number-not-zero Beam = refl
number-not-zero Tool = refl
number-not-zero Chord = refl
number-not-zero VisitBudget = refl
number-not-zero RayBudget = refl
number-not-zero IntervalBudget = refl
number-not-zero Unsound = refl
number-not-zero ShortBuffer = refl
number-not-zero Change = refl
number-not-zero BaseGeneration = refl
number-not-zero LastGeneration = refl
number-not-zero LogFull = refl
number-not-zero NoRay = refl
number-not-zero Text = refl
number-not-zero Place = refl

module _ {A S : Type 0} (numbers : A → S → Type 0) (promise : Result A Refusal → Type 0) where
  pub answered : (r : Result A Refusal) (n : ℕ) (before after : S) → promise r → HandedAs numbers r n before after
      → AnsweredBy numbers promise n before after
  answered (Ok a) n before after p h = subst (λ (x : ℕ). AnsweredBy numbers promise x before after) (sym h.0) (a, (h.1, p))
  answered (Err e) zero before after p h =
      absurd (true≢false (subst (λ (x : ℕ). eqb x 0 ≡ false) (sym h.0) (number-not-zero e)))
  answered (Err e) (suc k) before after p h = (e, sym h.0, p, h.1)
