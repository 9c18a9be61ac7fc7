-- The two searches, through the pairs of a list and through the entries of a log: what was passed does not hold p.
use mathlib.Core.Path.{◌≡◌, refl, sym, ap, ◌∙◌}
use mathlib.Core.Bool.{Bool, true, false, ◌||◌}
use mathlib.Core.Logic.{◌⊎◌, inl, inr}
use mathlib.Core.List.{List, [], ◌∷◌, ◌++◌}
use Prim.Native.Nat.{ℕ, zero, suc, ◌+◌, ◌≤◌, ◌<◌}
use native.Mathlib.Omega.{arith}
use native.Mathlib.Nat.{zero-add, add-zero}
use native.Mathlib.Numerals.{add-one}
use lib.Ieee.{Float, nan, le, lt}
use Rattle.std.specs.Prelude.{None, Some}
use lib.ListN.{length, get_or}
use Rattle.logic.proofs.Bools.{and-false}
use Rattle.spans.specs.Spans.{within, holds}
use Rattle.log_model.specs.Logs.{entry_at, entries_from, entry_count, entries, HitKind}
use Rattle.log_entries.proofs.Places.{AllFrom, all_first, all_rest}
use Rattle.ray_trace.specs.Reasons.{hit_pairs, hit_holds, FirstHolding, first_entry, later_entry}
use Rattle.ray_trace.specs.Steps.{FoundAt}

-- ---- through the pairs of a list
no-pair : (l : List Float) (p : Float) → length l ≤ 1 → holds l p ≡ false
unfolding holds
no-pair [] p h = refl
no-pair (x ∷ []) p h = refl
no-pair (x ∷ y ∷ l) p h = absurd (long l h)
  where
    long : (l : List Float) → length (x ∷ y ∷ l) ≤ 1 → ⊥
    long l h = omega arith

-- the pair in front decides, or the rest does
pair-or-rest : (pair rest : List Float) (p : Float) → length pair ≡ 2
    → holds (pair ++ rest) p ≡ (within (get_or pair 0 nan) (get_or pair 1 nan) p || holds rest p)
unfolding holds
pair-or-rest (lo ∷ hi ∷ []) rest p h = refl
pair-or-rest [] rest p h = absurd (omega arith)
pair-or-rest (x ∷ []) rest p h = absurd (omega arith)
pair-or-rest (x ∷ y ∷ z ∷ l) rest p h = absurd (omega arith)

module _ (s left : List Float) (p : Float) (same : holds s p ≡ holds left p) where
  module _ (pair rest : List Float) (cut : left ≡ pair ++ rest) (two : length pair ≡ 2) where
    front : holds s p ≡ (within (get_or pair 0 nan) (get_or pair 1 nan) p || holds rest p)
    front = same ∙ rw cut (pair-or-rest pair rest p two)

    pub pair-holds : within (get_or pair 0 nan) (get_or pair 1 nan) p ≡ true → true ≡ holds s p
    pair-holds t = sym (front ∙ ap (λ (b : Bool). b || holds rest p) t)

    pub pair-passed : (le (get_or pair 0 nan) p ≡ false) ⊎ (lt p (get_or pair 1 nan) ≡ false) → holds s p ≡ holds rest p
    pair-passed (inl t) = front ∙ rw t
    pair-passed (inr t) = front ∙ rw (and-false (le (get_or pair 0 nan) p) (lt p (get_or pair 1 nan)) t)

  pub pairs-passed : length left < 2 → false ≡ holds s p
  pairs-passed h = sym (same ∙ no-pair left p (omega arith))

-- ---- through the entries of a log
module _ (w : HitKind) (log : List Float) (p : Float) where
  abbrev Passed : ℕ → Type 0
  Passed j = hit_holds w (entry_at log j) p ≡ false

  first-from : (i n k : ℕ) → k < n → AllFrom Passed i k → hit_holds w (entry_at log (i + k)) p ≡ true
      → FirstHolding w p (entries_from log i n) (suc k)
  unfolding entries_from
  first-from i (suc n) zero h f t = first_entry (rw (add-zero i) at t)
  first-from i (suc n) (suc k) h f t =
      later_entry (all_first i k f) (first-from (suc i) n k (omega arith) (all_rest i k f) (rw (next i k) at t))
    where
      next : (i k : ℕ) → i + suc k ≡ suc i + k
      next i k = omega arith
  first-from i zero k h f t = absurd (none k h)
    where
      none : (k : ℕ) → k < 0 → ⊥
      none k h = omega arith

  none_from : (i n : ℕ) → AllFrom Passed i n → holds (hit_pairs w (entries_from log i n)) p ≡ false
  unfolding holds hit_pairs entries_from
  none_from i zero f = refl
  none_from i (suc n) f = rw (all_first i n f) (none_from (suc i) n (all_rest i n f))

  -- the entry at place i is the first that holds p, or none does
  pub entry_found : (i : ℕ) → i < entry_count log → ((j : ℕ) → j < i → Passed j) → hit_holds w (entry_at log i) p ≡ true
      → FoundAt w (entries log) p (Some (i + 1))
  unfolding entries
  entry_found i h f t = rw (add-one i) (first-from 0 (entry_count log) i h (λ j _ k. f j (omega arith)) (rw (zero-add i) t))

  pub entries-passed : ((j : ℕ) → j < entry_count log → Passed j) → FoundAt w (entries log) p None
  unfolding entries
  entries-passed f = none_from 0 (entry_count log) (λ j _ k. f j (omega arith))
