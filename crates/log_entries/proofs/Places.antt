-- The pairs on a ray by the number of the ray, and by the places of its entries.
use Rattle.std.proofs.Common.{◌≡◌, ℕ, zero, suc, ◌+◌, ◌<◌, ◌≤◌, Bool, true, false, cond, ◌&&◌, eqb, List, ◌∷◌, ◌++◌, refl, ap, ◌∙◌}
use Rattle.std.proofs.Common.{subst, ap₂, arith}
use mathlib.Core.Bool.{false≢true}
use lib.Ieee.{Float}
use Rattle.logic.proofs.Bools.{clash}
use Rattle.grid.specs.Rays.{ray_count, Ray}
use Rattle.grid.specs.declared.DexelGrid.{DexelGrid}
use Rattle.log_model.specs.Logs.{entry_at, entries_from, entry_count, entries, names_some_ray, entry_ray, HitKind, hit_lo, hit_hi}
use Rattle.log_model.specs.Logs.{hits_on_ray}
use Rattle.log_model.specs.Model.{NamesNoRay}
use Rattle.log_model.proofs.Entries.{entry-at}
use Rattle.log_model.proofs.Naming.{named-below}
use Rattle.log_entries.specs.Named.{EachNamed, named_from, pairs_at}

-- the k places from i on have the property P
abbrev pub AllFrom : (ℕ → Type 0) → (i k : ℕ) → Type 0
AllFrom P i k = (j : ℕ) → i ≤ j → j < i + k → P j

pub all_first : {P : ℕ → Type 0} (i k : ℕ) → AllFrom P i (suc k) → P i
all_first i k f = f i (omega arith) (omega arith)

pub all_rest : {P : ℕ → Type 0} (i k : ℕ) → AllFrom P i (suc k) → AllFrom P (suc i) k
all_rest i k f j a b = f j (omega arith) (omega arith)

-- the ray of an entry that names one is below the count of all rays
pub each_below : (g : DexelGrid) (log : List Float) → EachNamed g log → (i : ℕ) → i < entry_count log
    → entry_ray g (entry_at log i) < ray_count g
unfolding EachNamed
each_below g log all i h = named-below g (entry_at log i) (all i h)

-- 17 is absent where each entry names a ray
pub each-no : (g : DexelGrid) (log : List Float) → EachNamed g log → ¬ NamesNoRay g (entries log)
unfolding EachNamed NamesNoRay
each-no g log all (e, m, n) =
    let (i, h, q) = entry-at log e m in
    clash (names_some_ray g (entry_at log i)) (all i h) (rw q at n)

-- ---- by places

module _ (g : DexelGrid) (log : List Float) (ray : ℕ) where
  -- the places come one after the other: those of k entries, then those of m more
  pub named-append : (i k m : ℕ) → named_from g log ray i (k + m) ≡ named_from g log ray i k ++ named_from g log ray (i + k) m
  unfolding named_from
  named-append i zero m = ap₂ (λ (j n : ℕ). named_from g log ray j n) (right i) (left m)
    where
      right : (i : ℕ) → i ≡ i + 0
      right i = omega arith

      left : (m : ℕ) → 0 + m ≡ m
      left m = omega arith
  named-append i (suc k) m = subst
      (λ (n : ℕ). named_from g log ray i n ≡ named_from g log ray i (suc k) ++ named_from g log ray (i + suc k) m) (one k m)
      (go (eqb (entry_ray g (entry_at log i)) ray)
      (named-append (suc i) k m ∙ ap (λ (j : ℕ). named_from g log ray (suc i) k ++ named_from g log ray j m) (next i k)))
    where
      one : (k m : ℕ) → suc (k + m) ≡ suc k + m
      one k m = omega arith

      next : (i k : ℕ) → suc i + k ≡ i + suc k
      next i k = omega arith

      go : (b : Bool) → named_from g log ray (suc i) (k + m) ≡ named_from g log ray (suc i) k ++ named_from g log ray (i + suc k) m
          → cond b (i ∷ named_from g log ray (suc i) (k + m)) (named_from g log ray (suc i) (k + m))
          ≡ cond b (i ∷ named_from g log ray (suc i) k) (named_from g log ray (suc i) k) ++ named_from g log ray (i + suc k) m
      go true q = ap (λ (l : List ℕ). i ∷ l) q
      go false q = q

  pub pairs-from : (w : HitKind) (i k : ℕ) → AllFrom (λ j. names_some_ray g (entry_at log j) ≡ true) i k
      → pairs_at log (named_from g log ray i k) w ≡ hits_on_ray g (entries_from log i k) ray w
  unfolding pairs_at named_from hits_on_ray entries_from
  pairs-from w i zero h = refl
  pairs-from w i (suc k) h = go (eqb (entry_ray g (entry_at log i)) ray) (names_some_ray g (entry_at log i))
      (all_first i k h) (pairs-from w (suc i) k (all_rest i k h))
    where
      lo : Float
      lo = hit_lo w (entry_at log i)

      hi : Float
      hi = hit_hi w (entry_at log i)

      go : (b n : Bool) → n ≡ true → pairs_at log (named_from g log ray (suc i) k) w ≡ hits_on_ray g (entries_from log (suc i) k) ray w
          → pairs_at log (cond b (i ∷ named_from g log ray (suc i) k) (named_from g log ray (suc i) k)) w
          ≡ cond (n && b) (lo ∷ hi ∷ hits_on_ray g (entries_from log (suc i) k) ray w) (hits_on_ray g (entries_from log (suc i) k) ray w)
      go true true t q = ap (λ (l : List Float). lo ∷ hi ∷ l) q
      go false true t q = q
      go b false t q = absurd (false≢true t)

-- THE LAW: the pairs at the places of a ray are the pairs on it
pub pairs-at : (g : DexelGrid) (log : List Float) → EachNamed g log → (r : Ray g) (w : HitKind)
    → pairs_at log (named_from g log r.0 0 (entry_count log)) w ≡ hits_on_ray g (entries log) r.0 w
unfolding EachNamed entries
pairs-at g log all r w = pairs-from g log r.0 w 0 (entry_count log) (λ j _ h. all j (omega arith))

-- and those named by its number
pub pairs_of_lem : (g : DexelGrid) (log : List Float) → EachNamed g log → (ray : ℕ) (w : HitKind)
    → pairs_at log (named_from g log ray 0 (entry_count log)) w ≡ hits_on_ray g (entries log) ray w
unfolding EachNamed entries
pairs_of_lem g log all ray w = pairs-from g log ray w 0 (entry_count log) (λ j _ h. all j (omega arith))
