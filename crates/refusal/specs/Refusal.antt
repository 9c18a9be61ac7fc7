-- Refusals by cause. Each entry lists its causes in the order of document 01 or 02; the first that is present decides the answer.
use Rattle.std.specs.Prelude.{◌≡◌, List, [], ◌∷◌, ◌⊎◌, ℕ}
use Rattle.refusal.specs.declared.Refusal.{Refusal}
use Rattle.refusal.specs.declared.Refusal.TheVariants.{Description, RayLimit, IntervalLimit, Beam, Tool, Chord, VisitBudget, RayBudget, IntervalBudget}
use Rattle.refusal.specs.declared.Refusal.TheVariants.{Unsound, ShortBuffer, Change, BaseGeneration, LastGeneration, LogFull, NoRay, Text, Place}

-- the number of each refusal in document 01 or 02; 4 is retired
abbrev pub number_of : Refusal → ℕ
number_of Description = 1
number_of RayLimit = 2
number_of IntervalLimit = 3
number_of Beam = 5
number_of Tool = 6
number_of Chord = 7
number_of VisitBudget = 8
number_of RayBudget = 9
number_of IntervalBudget = 10
number_of Unsound = 11
number_of ShortBuffer = 12
number_of Change = 13
number_of BaseGeneration = 14
number_of LastGeneration = 15
number_of LogFull = 16
number_of NoRay = 17
number_of Text = 18
number_of Place = 19

-- a cause: its number in document 01 or 02, and what it is for it to be present
pub record Cause : Type 1 where
  pub number : ℕ
  pub present : Type 0

abbrev pub cause : ℕ → Type 0 → Cause
cause n p = record { number = n; present = p }

-- the number k is due: its cause is present, and none before it is
unfoldable pub Due : List Cause → ℕ → Type 0
Due [] k = ⊥
Due (c ∷ cs) k = (c.present × (k ≡ c.number)) ⊎ (¬ c.present × Due cs k)

-- no cause is present
unfoldable pub NoneDue : List Cause → Type 0
NoneDue [] = Unit {0}
NoneDue (c ∷ cs) = ¬ c.present × NoneDue cs
