-- The free places of a store: each is counted and not in use, none comes twice, and a sound store has as many as its total leaves.
use mathlib.Core.Path.{◌≡◌, refl, ap, ◌∙◌}
use mathlib.Core.Bool.{Bool, true, false, cond}
use mathlib.Core.Logic.{⊎_elim}
use mathlib.Core.List.Memᴰ
use mathlib.Core.List.{List, [], ◌∷◌, Memᴰ}
use Prim.Native.Nat.{ℕ, zero, suc, ◌+◌, ◌≤◌, ◌<◌}
use native.Mathlib.Nat.{add-zero, zero-add}
use native.Mathlib.Omega.{arith}
use lib.Ieee.{Float}
use lib.ListN.{length, take}
use lib.Seq.{length-take-le}
use Rattle.store.specs.Store.{used_at, free_from, ChainsSound, cells}
use Rattle.store.proofs.Counting.{Distinct}
use Rattle.store.proofs.Checked.{count_of}
use Rattle.logic.specs.Logic.{bit, count_to}

-- ---- the front of a list of places
pub take-mem : (k : ℕ) (l : List ℕ) (x : ℕ) → Memᴰ x (take k l) → Memᴰ x l
take-mem zero l x m = absurd (Memᴰ.not-nil m)
take-mem (suc k) [] x m = absurd (Memᴰ.not-nil m)
take-mem (suc k) (y ∷ l) x m =
    ⊎_elim (λ (e : x ≡ y). Memᴰ.head e) (λ (t : Memᴰ x (take k l)). Memᴰ.tail (take-mem k l x t))
    (Memᴰ.cases_cons m)

pub take-distinct : (k : ℕ) (l : List ℕ) → Distinct l → Distinct (take k l)
unfolding Distinct
take-distinct zero l d = tt
take-distinct (suc k) [] d = tt
take-distinct (suc k) (y ∷ l) d = ((λ m. d.0 (take-mem k l y m)), take-distinct k l d.1)

-- a place that is looked at, and free
pub record FreeAt (spans : List Float) (links : List ℕ) (c r x : ℕ) : Type 0 where
  pub from : c ≤ x
  pub below : x < c + r
  pub unused : used_at spans links x ≡ false

module _ (spans : List Float) (links : List ℕ) where
  pub free-at : (r c x : ℕ) → Memᴰ x (free_from spans links c r) → FreeAt spans links c r x
  unfolding free_from
  free-at zero c x m = absurd (Memᴰ.not-nil m)
  free-at (suc r) c x m = by-test (used_at spans links c) refl
      (λ (t : Memᴰ x (free_from spans links (suc c) r)). free-at r (suc c) x t) m
    where
      later : FreeAt spans links (suc c) r x → FreeAt spans links c (suc r) x
      later f = record { from = omega (arith, f.from); below = omega (arith, f.below); unused = f.unused }

      by-test : (t : Bool) → used_at spans links c ≡ t → (Memᴰ x (free_from spans links (suc c) r) → FreeAt spans links (suc c) r x)
          → Memᴰ x (cond t (free_from spans links (suc c) r) (c ∷ free_from spans links (suc c) r)) → FreeAt spans links c (suc r) x
      by-test true u rec m' = later (rec m')
      by-test false u rec m' = ⊎_elim
          (λ (e : x ≡ c). record { from = omega arith; below = omega arith; unused = ap (used_at spans links) e ∙ u })
          (λ (t : Memᴰ x (free_from spans links (suc c) r)). later (rec t))
          (Memᴰ.cases_cons m')

  pub free-distinct : (r c : ℕ) → Distinct (free_from spans links c r)
  unfolding free_from Distinct
  free-distinct zero c = tt
  free-distinct (suc r) c = by-test (used_at spans links c) (free-distinct r (suc c))
    where
      by-test : (t : Bool) → Distinct (free_from spans links (suc c) r)
          → Distinct (cond t (free_from spans links (suc c) r) (c ∷ free_from spans links (suc c) r))
      by-test true d = d
      by-test false d = ((λ m. omega (arith, (free-at r (suc c) c m).from)), d)

  pub free-length : (r c : ℕ) → length (free_from spans links c r) + count_to (used_at spans links) (c + r) ≡ r
      + count_to (used_at spans links) c
  unfolding free_from count_to
  free-length zero c = ap (λ (x : ℕ). 0 + count_to (used_at spans links) x) (add-zero c)
  free-length (suc r) c =
      let rest : length (free_from spans links (suc c) r) + count_to (used_at spans links) (suc c + r) ≡ r
      + (count_to (used_at spans links) c + bit (used_at spans links c)) = free-length r (suc c) in
      let sum : suc c + r ≡ c + suc r = omega arith in
      let end : count_to (used_at spans links) (suc c + r) ≡ count_to (used_at spans links) (c + suc r) =
      ap (count_to (used_at spans links)) sum in
      by-test (used_at spans links c) (omega arith)
    where
      by-test : (t : Bool) → length (free_from spans links (suc c) r) + count_to (used_at spans links) (c + suc r) ≡ r
          + (count_to (used_at spans links) c + bit t)
          → length (cond t (free_from spans links (suc c) r) (c ∷ free_from spans links (suc c) r))
          + count_to (used_at spans links) (c + suc r) ≡ suc r + count_to (used_at spans links) c
      by-test true h = omega arith
      by-test false h = omega arith

-- a sound store has exactly as many free records as its total leaves of n
pub free-records : (n m total : ℕ) (spans : List Float) (links heads : List ℕ)
    → ChainsSound n m total (cells spans links heads) → length (free_from spans links 0 n) + total ≡ n
unfolding count_to
free-records n m total spans links heads s =
    let all : count_to (used_at spans links) (0 + n) ≡ count_to (used_at spans links) n =
    ap (count_to (used_at spans links)) (zero-add n) in
    omega (arith, free-length spans links n 0, count_of n m total spans links heads s)

-- ---- the lowest k of them
module _ (spans : List Float) (links : List ℕ) (n k : ℕ) where
  pub lowest-free : (x : ℕ) → Memᴰ x (take k (free_from spans links 0 n)) → (x < n) × (used_at spans links x ≡ false)
  lowest-free x m = let f = free-at spans links n 0 x (take-mem k (free_from spans links 0 n) x m) in (omega (arith, f.below), f.unused)

  pub lowest-distinct : Distinct (take k (free_from spans links 0 n))
  lowest-distinct = take-distinct k (free_from spans links 0 n) (free-distinct spans links n 0)

  pub lowest-length : k ≤ length (free_from spans links 0 n) → length (take k (free_from spans links 0 n)) ≡ k
  lowest-length h = length-take-le k (free_from spans links 0 n) h
