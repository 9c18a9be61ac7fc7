-- Sums over the rays of a grid: order, and one ray changed.
use mathlib.Core.Path.{◌≡◌, refl, ap, ap₂}
use Prim.Native.Nat.{ℕ, zero, suc, ◌+◌, ◌*◌, ◌≤◌, ◌<◌}
use native.Mathlib.Nat.{le_refl, le_of_lt}
use native.Mathlib.Numerals.{add-one}
use native.Mathlib.Omega.{arith}
use native.Mathlib.Decide.{dec_lt}
use Rattle.grid.specs.Rays.{ray_count, Ray}
use Rattle.grid.specs.declared.DexelGrid.{DexelGrid}
use Rattle.log_model.specs.Model.{sum_to, sum_over}
use Rattle.log_count.specs.Totals.{sum_below}

-- a sum over rays goes by their numbers
sum-to : (g : DexelGrid) (f : Ray g → ℕ) (h : ℕ → ℕ) → ((r : Ray g) → f r ≡ h r.0) → (i : ℕ) (l : i ≤ ray_count g)
    → sum_to g f i l ≡ sum_below h i
unfolding sum_to sum_below
sum-to g f h e zero l = refl
sum-to g f h e (suc i) l = ap₂ ◌+◌ (sum-to g f h e i (le_of_lt l)) (e (i, l))

pub sum_over_lem : (g : DexelGrid) (f : Ray g → ℕ) (h : ℕ → ℕ) → ((r : Ray g) → f r ≡ h r.0) → sum_over g f ≡ sum_below h (ray_count g)
sum_over_lem g f h e = sum-to g f h e (ray_count g) (le_refl (ray_count g))

pub sum_same : (f h : ℕ → ℕ) (n : ℕ) → ((i : ℕ) → i < n → f i ≡ h i) → sum_below f n ≡ sum_below h n
unfolding sum_below
sum_same f h zero e = refl
sum_same f h (suc n) e = ap₂ ◌+◌ (sum_same f h n (λ i l. e i (omega arith))) (e n (omega arith))

pub sum-le : (f h : ℕ → ℕ) (n : ℕ) → ((i : ℕ) → i < n → f i ≤ h i) → sum_below f n ≤ sum_below h n
unfolding sum_below
sum-le f h zero e = omega arith
sum-le f h (suc n) e = omega (arith, sum-le f h n (λ i l. e i (omega arith)), e n (omega arith))

pub sum-at : (f : ℕ → ℕ) (n j : ℕ) → j < n → f j ≤ sum_below f n
unfolding sum_below
sum-at f zero j l = absurd (omega arith)
sum-at f (suc n) j l = elim (dec_lt j n) [
  | yes h ↦ omega (arith, sum-at f n j h)
  | no h ↦ let q : j ≡ n = omega arith in let e : f j ≡ f n = ap f q in omega arith
]

-- part of a sum
pub sum-prefix : (f : ℕ → ℕ) (n i : ℕ) → i ≤ n → sum_below f i ≤ sum_below f n
unfolding sum_below
sum-prefix f zero i l = let e : i ≡ 0 = omega arith in let q : sum_below f i ≡ sum_below f 0 = ap (sum_below f) e in omega arith
sum-prefix f (suc n) i l = elim (dec_lt n i) [
  | yes h ↦ let e : i ≡ suc n = omega arith in let q : sum_below f i ≡ sum_below f (suc n) = ap (sum_below f) e in omega arith
  | no h ↦ omega (arith, sum-prefix f n i (omega arith))
]

pub sum-next : (f : ℕ → ℕ) (i : ℕ) → sum_below f (i + 1) ≡ sum_below f i + f i
unfolding sum_below
sum-next f i = ap (sum_below f) (add-one i)

-- two that differ at one ray only
pub sum_one : (f h : ℕ → ℕ) (n j : ℕ) → j < n → ((i : ℕ) → (i ≡ j → ⊥) → h i ≡ f i) → sum_below h n + f j ≡ sum_below f n + h j
unfolding sum_below
sum_one f h zero j l e = absurd (omega arith)
sum_one f h (suc n) j l e = elim (dec_lt j n) [
  | yes k ↦ omega (arith, sum_one f h n j k e, e n (λ q. omega (arith, q)))
  | no k ↦ let q : j ≡ n = omega arith in
      let s : sum_below h n ≡ sum_below f n = sum_same h f n (λ i m. e i (λ p. omega (arith, p, q))) in
      let a : f j ≡ f n = ap f q in
      let b : h j ≡ h n = ap h q in
      omega arith
]

pub sum-plus : (f h : ℕ → ℕ) (n : ℕ) → sum_below (λ i. f i + h i) n ≡ sum_below f n + sum_below h n
unfolding sum_below
sum-plus f h zero = refl
sum-plus f h (suc n) = omega (arith, sum-plus f h n)

pub sum-none : (n : ℕ) → sum_below (λ i. 0) n ≡ 0
unfolding sum_below
sum-none zero = refl
sum-none (suc n) = omega (arith, sum-none n)

pub sum-times : (k : ℕ) (f : ℕ → ℕ) (n : ℕ) → sum_below (λ i. k * f i) n ≡ k * sum_below f n
unfolding sum_below
sum-times k f zero = omega arith
sum-times k f (suc n) = omega (arith, sum-times k f n)
