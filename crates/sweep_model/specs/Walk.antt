-- The walk over the visited rays: 8 where the budget is used up (sweep.rs 348-354), then the ray's entry, or 16, which is
-- added, where the log has no room for it.
use Rattle.std.specs.Prelude.{cond, List, [], ◌∷◌, ◌++◌, ℕ, ◌+◌, leb, Float, length}

-- all visited, with the visit total and the entries; or the number of a refusal
pub data Walked : Type 0 where
  Done : (visits : ℕ) → (entries : List Float) → Walked
  Stop : ℕ → Walked

-- the rays still to visit, after k visits with the entries l in a log of `len` cells
unfoldable pub walk : (budget len : ℕ) → List (List Float) → (k : ℕ) → List Float → Walked
walk budget len [] k l = Done k l
walk budget len (e ∷ es) k l =
    cond (leb budget k) (Stop 8) (cond (leb (length l + length e) len) (walk budget len es (k + 1) (l ++ e)) (Stop 16))
