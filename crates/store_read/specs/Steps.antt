-- What the functions that test and measure a ray of the store answer.
use Rattle.std.specs.Prelude.{◌≡◌, Bool, true, false, List, [], ◌∷◌, ℕ, Float, Option, Some, None}
use Rattle.std.specs.Float.Ieee.{le}
use Rattle.doubles.specs.Constants.{plus_zero}
use Rattle.spans.specs.Rays.{ValidRay}
use Rattle.store_read.specs.Reading.{Readable}
use Rattle.store_read.specs.declared.RaySums.{RaySums}
use Rattle.store.specs.Store.{list_from}
use Rattle.spans.specs.Containment.{from}
use Rattle.store_read.specs.Lengths.{length_from}

-- the list has no first end below low
abbrev pub starts_in : (low : Float) → List Float → Bool
starts_in low [] = true
starts_in low (a ∷ l) = le low a

-- the answer of a test of a list: where it passes, the list's length
abbrev pub ListSumPost : (passes : Bool) → List Float → Option Float → Type 0
ListSumPost passes l (Some length) = (passes ≡ true) × (length ≡ length_from plus_zero l)
ListSumPost passes l None = passes ≡ false

-- the answer of the test of a ray: where it is valid, the lengths of its lists
abbrev pub RaySumsPost : (low high : Float) (possible certain : List Float) → Option RaySums → Type 0
RaySumsPost low high possible certain (Some r) =
    ValidRay low high possible certain × (r.possible ≡ length_from plus_zero possible) × (r.certain ≡ length_from plus_zero certain)
RaySumsPost low high possible certain None = ValidRay low high possible certain → ⊥

-- record number r begins the list from its first pair whose upper end is not below x
pub record ReachPost (n : ℕ) (spans : List Float) (links : List ℕ) (k : ℕ) (x : Float) (r : ℕ) : Type 0 where
  pub rest : list_from n spans links r ≡ from x (list_from n spans links k)
  pub readable : Readable n spans links r
