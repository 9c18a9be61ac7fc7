-- The entries of a log by their place, and one entry more of a scan from the first.
use mathlib.Core.Path.{◌≡◌, refl, ap, ◌∙◌}
use mathlib.Core.Bool.{Bool, true, false, cond}
use mathlib.Core.List.Memᴰ
use mathlib.Core.List.{List, [], ◌∷◌, ◌++◌, Memᴰ}
use mathlib.Core.Logic.{inl, inr}
use Prim.Native.Nat.{ℕ, zero, suc, ◌+◌, ◌/◌, ◌≤◌, ◌<◌}
use native.Mathlib.Omega.{arith}
use native.Mathlib.Decide.{dec_lt}
use lib.ListN.{length}
use lib.Ieee.{Float}
use Rattle.grid.specs.declared.DexelGrid.{DexelGrid}
use Rattle.log_model.specs.declared.Entry.{Entry}
use Rattle.log_model.specs.Logs.{entry_at, entries_from, entry_count, entries, names_ray, HitKind, hit_lo, hit_hi, hits_on_ray}
use Rattle.grid.specs.Rays.{Ray}

from-length : (log : List Float) (i n : ℕ) → length (entries_from log i n) ≡ n
unfolding entries_from
from-length log i zero = refl
from-length log i (suc n) = ap suc (from-length log (suc i) n)

pub entries-length : (log : List Float) → length (entries log) ≡ entry_count log
unfolding entries
entries-length log = from-length log 0 (length log / 6)

from-has : (log : List Float) (i n j : ℕ) → i ≤ j → j < i + n → Memᴰ (entry_at log j) (entries_from log i n)
unfolding entries_from
from-has log i zero j a b = absurd (no i j a b)
  where
    no : (i j : ℕ) → i ≤ j → j < i + 0 → ⊥
    no i j a b = omega arith
from-has log i (suc n) j a b = elim (dec_lt i j) [
  | yes h ↦ Memᴰ.tail (from-has log (suc i) n j h (later i j n b))
  | no h ↦ Memᴰ.head (ap (entry_at log) (same i j a h))
]
  where
    later : (i j n : ℕ) → j < i + suc n → j < suc i + n
    later i j n b = omega arith

    same : (i j : ℕ) → i ≤ j → (i < j → ⊥) → j ≡ i
    same i j a h = omega arith

from_at : (log : List Float) (i n : ℕ) (e : Entry) → Memᴰ e (entries_from log i n) → (j : ℕ) × (j < i + n) × (e ≡ entry_at log j)
unfolding entries_from
from_at log i zero e m = absurd (Memᴰ.not-nil m)
from_at log i (suc n) e m = elim (Memᴰ.cases_cons m) [
  | inl q ↦ (i, first i n, q)
  | inr k ↦ let (j, h, q) = from_at log (suc i) n e k in (j, later i j n h, q)
]
  where
    first : (i n : ℕ) → i < i + suc n
    first i n = omega arith

    later : (i j n : ℕ) → j < suc i + n → j < i + suc n
    later i j n h = omega arith

-- the i-th entry stands in the log, and whatever does is the entry at some place
pub entry_in : (log : List Float) (i : ℕ) → i < entry_count log → Memᴰ (entry_at log i) (entries log)
unfolding entries
entry_in log i h = from-has log 0 (length log / 6) i (omega arith) (omega arith)

pub entry-at : (log : List Float) (e : Entry) → Memᴰ e (entries log) → (i : ℕ) × (i < entry_count log) × (e ≡ entry_at log i)
unfolding entries
entry-at log e m = let (i, h, q) = from_at log 0 (length log / 6) e m in (i, omega arith, q)

-- the pairs on a ray, when one entry more is read
from_last : (log : List Float) (i n j : ℕ) → i + n ≡ j → entries_from log i (suc n) ≡ entries_from log i n ++ (entry_at log j ∷ [])
unfolding entries_from
from_last log i zero j h = ap (λ (k : ℕ). entry_at log k ∷ []) (same i j h)
  where
    same : (i j : ℕ) → i + 0 ≡ j → i ≡ j
    same i j h = omega arith
from_last log i (suc n) j h = ap (λ (es : List Entry). entry_at log i ∷ es) (from_last log (suc i) n j (same i n j h))
  where
    same : (i n j : ℕ) → i + suc n ≡ j → suc i + n ≡ j
    same i n j h = omega arith

module _ (g : DexelGrid) (r : Ray g) (w : HitKind) where
  ray-hits-append : (es fs : List Entry) → hits_on_ray g (es ++ fs) r.0 w ≡ hits_on_ray g es r.0 w ++ hits_on_ray g fs r.0 w
  unfolding hits_on_ray
  ray-hits-append [] fs = refl
  ray-hits-append (e ∷ es) fs = go (names_ray g e r.0) (ray-hits-append es fs)
    where
      go : (b : Bool) → hits_on_ray g (es ++ fs) r.0 w ≡ hits_on_ray g es r.0 w ++ hits_on_ray g fs r.0 w
          → cond b (hit_lo w e ∷ hit_hi w e ∷ hits_on_ray g (es ++ fs) r.0 w) (hits_on_ray g (es ++ fs) r.0 w)
          ≡ cond b (hit_lo w e ∷ hit_hi w e ∷ hits_on_ray g es r.0 w) (hits_on_ray g es r.0 w) ++ hits_on_ray g fs r.0 w
      go true q = ap (λ (l : List Float). hit_lo w e ∷ hit_hi w e ∷ l) q
      go false q = q

  pub ray-hits-more : (log : List Float) (n : ℕ)
      → hits_on_ray g (entries_from log 0 (suc n)) r.0 w
      ≡ hits_on_ray g (entries_from log 0 n) r.0 w
      ++ cond (names_ray g (entry_at log n) r.0) (hit_lo w (entry_at log n) ∷ hit_hi w (entry_at log n) ∷ []) []
  unfolding hits_on_ray
  ray-hits-more log n = ap (λ (es : List Entry). hits_on_ray g es r.0 w) (from_last log 0 n n (omega arith))
      ∙ ray-hits-append (entries_from log 0 n) (entry_at log n ∷ [])
