-- Counting the places below n that pass a test, and lists of such places with no place twice.
--     distinct-le      a list of distinct places that pass is no longer than the count
--     distinct-full    and where it is as long, each place that passes is in it
--     covers-le        where each place that passes is in a list, the count is at most the list's length
use mathlib.Core.Path.{◌≡◌, refl, ap, ◌∙◌, subst}
use mathlib.Core.Bool.{Bool, true, false, not, ◌&&◌}
use mathlib.Core.Logic.{⊎_elim}
use mathlib.Core.List.Memᴰ
use mathlib.Core.List.{List, [], ◌∷◌, ◌++◌, Memᴰ}
use Prim.Native.Nat.{ℕ, zero, suc, ◌+◌, ◌≤◌, ◌<◌}
use native.Mathlib.Decide.{ℕ_discrete}
use native.Mathlib.Omega.{arith}
use lib.Dec.{eqb}
use lib.ListN.{length}
use borrow.Author.Tests.{eq-eqb, ne_eqb}
use Rattle.logic.proofs.Bools.{and_left, and-false, clash}
use Rattle.logic.specs.Logic.{bit, count_to}

-- the test, but for the place x
abbrev pub without : (ℕ → Bool) → ℕ → ℕ → Bool
without p x k = p k && not (eqb k x)

without-same : (p : ℕ → Bool) (x k : ℕ) → k ≡ x → without p x k ≡ false
without-same p x k e = ap (λ (t : Bool). p k && not t) (eq-eqb k x e) ∙ and-false (p k) false refl

without_other : (p : ℕ → Bool) (x k : ℕ) → (k ≡ x → ⊥) → p k ≡ true → without p x k ≡ true
without_other p x k ne h = ap (λ (t : Bool). p k && not t) (ne_eqb k x ne) ∙ ap (λ (t : Bool). t && true) h

without_was : (p : ℕ → Bool) (x k : ℕ) → without p x k ≡ true → p k ≡ true
without_was p x k h = and_left (p k) (not (eqb k x)) h

without-ne : (p : ℕ → Bool) (x k : ℕ) → without p x k ≡ true → k ≡ x → ⊥
without-ne p x k h e = clash (without p x k) h (without-same p x k e)

-- ---- the count without one place
out_step : (p : ℕ → Bool) (x k : ℕ) → (k ≡ x → ⊥) → (t : Bool) → p k ≡ t → bit (without p x k) ≡ bit (p k)
out_step p x k ne t e = ap (λ (u : Bool). bit (p k && not u)) (ne_eqb k x ne) ∙ go (p k)
  where
    go : (u : Bool) → bit (u && true) ≡ bit u
    go true = refl
    go false = refl

count-out : (p : ℕ → Bool) (x n : ℕ) → n ≤ x → count_to (without p x) n ≡ count_to p n
unfolding count_to
count-out p x zero h = refl
count-out p x (suc n) h =
    let below : count_to (without p x) n ≡ count_to p n = count-out p x n (omega arith) in
    let ne : (n ≡ x → ⊥) = λ (e : n ≡ x). omega arith in
    omega (arith, below, out_step p x n ne (p n) refl)

count-in : (p : ℕ → Bool) (x n : ℕ) → x < n → p x ≡ true → count_to p n ≡ suc (count_to (without p x) n)
unfolding count_to
count-in p x zero h px = absurd (omega arith)
count-in p x (suc n) h px = by_cases (λ (l : x < n). count-in p x n l px) (ℕ_discrete n x)
  where
    by_cases : (x < n → count_to p n ≡ suc (count_to (without p x) n)) → Dec (n ≡ x)
        → count_to p n + bit (p n) ≡ suc (count_to (without p x) n + bit (without p x n))
    by_cases rec (yes e) =
        let at_n : bit (p n) ≡ 1 = ap (λ (k : ℕ). bit (p k)) e ∙ ap (λ (t : Bool). bit t) px in
        let without-n : bit (without p x n) ≡ 0 = ap (λ (t : Bool). bit t) (without-same p x n e) in
        let below : count_to (without p x) n ≡ count_to p n = count-out p x n (omega arith) in
        omega arith
    by_cases rec (no ne) =
        let below : count_to p n ≡ suc (count_to (without p x) n) = rec (omega (arith, ne)) in
        let same : bit (without p x n) ≡ bit (p n) = out_step p x n ne (p n) refl in
        omega arith

count-le : (p : ℕ → Bool) (x n : ℕ) → count_to p n ≤ suc (count_to (without p x) n)
unfolding count_to
count-le p x zero = omega arith
count-le p x (suc n) = by_cases (count-le p x n) (ℕ_discrete n x)
  where
    one-le : (t : Bool) → bit t ≤ 1
    one-le true = omega arith
    one-le false = omega arith

    by_cases : count_to p n ≤ suc (count_to (without p x) n) → Dec (n ≡ x)
        → count_to p n + bit (p n) ≤ suc (count_to (without p x) n + bit (without p x n))
    by_cases rec (yes e) =
        let below : count_to (without p x) n ≡ count_to p n = count-out p x n (omega arith) in
        omega (arith, one-le (p n))
    by_cases rec (no ne) =
        let same : bit (without p x n) ≡ bit (p n) = out_step p x n ne (p n) refl in
        omega arith

count_none : (p : ℕ → Bool) (n : ℕ) → ((k : ℕ) → k < n → p k ≡ true → ⊥) → count_to p n ≡ 0
unfolding count_to
count_none p zero none = refl
count_none p (suc n) none =
    let below : count_to p n ≡ 0 = count_none p n (λ k h. none k (omega arith)) in
    let at_n : bit (p n) ≡ 0 = zero-at (p n) (none n (omega arith)) in
    omega arith
  where
    zero-at : (t : Bool) → (t ≡ true → ⊥) → bit t ≡ 0
    zero-at true no' = absurd (no' refl)
    zero-at false no' = refl

-- ---- lists of places
unfoldable pub Distinct : List ℕ → Type 0
Distinct [] = Unit
Distinct (x ∷ xs) = (Memᴰ x xs → ⊥) × Distinct xs

-- each place of the list is below n and passes
abbrev pub Pass : (ℕ → Bool) → ℕ → List ℕ → Type 0
Pass p n xs = (k : ℕ) → Memᴰ k xs → (k < n) × (p k ≡ true)

pass-tail : (p : ℕ → Bool) (n x : ℕ) (xs : List ℕ) → (Memᴰ x xs → ⊥) → Pass p n (x ∷ xs) → Pass (without p x) n xs
pass-tail p n x xs new all k m = (
  (all k (Memᴰ.tail m)).0,
  without_other p x k (λ e. new (subst (λ (i : ℕ). Memᴰ i xs) e m))
      (all k (Memᴰ.tail m)).1,
)

pub distinct-le : (p : ℕ → Bool) (n : ℕ) (xs : List ℕ) → Distinct xs → Pass p n xs → length xs ≤ count_to p n
unfolding Distinct
distinct-le p n [] d all = omega arith
distinct-le p n (x ∷ xs) d all =
    let below : length xs ≤ count_to (without p x) n = distinct-le (without p x) n xs d.1 (pass-tail p n x xs d.0 all) in
    let here : count_to p n ≡ suc (count_to (without p x) n) =
    count-in p x n (all x (Memᴰ.head refl)).0 (all x (Memᴰ.head refl)).1 in
    omega arith

pub distinct-full : (p : ℕ → Bool) (n : ℕ) (xs : List ℕ) → Distinct xs → Pass p n xs → length xs ≡ count_to p n
    → (k : ℕ) → k < n → p k ≡ true → Memᴰ k xs
unfolding Distinct
distinct-full p n [] d all same k h pk =
    let here : count_to p n ≡ suc (count_to (without p k) n) = count-in p k n h pk in
    absurd (omega arith)
distinct-full p n (x ∷ xs) d all same k h pk =
    let here : count_to p n ≡ suc (count_to (without p x) n) =
    count-in p x n (all x (Memᴰ.head refl)).0 (all x (Memᴰ.head refl)).1 in
    either (λ (w : without p x k ≡ true). distinct-full (without p x) n xs d.1 (pass-tail p n x xs d.0 all)
    (omega arith) k h w) (ℕ_discrete k x)
  where
    either : (without p x k ≡ true → Memᴰ k xs) → Dec (k ≡ x) → Memᴰ k (x ∷ xs)
    either rec (yes e) = Memᴰ.head e
    either rec (no ne) = Memᴰ.tail (rec (without_other p x k ne pk))

pub covers-le : (p : ℕ → Bool) (n : ℕ) (xs : List ℕ) → ((k : ℕ) → k < n → p k ≡ true → Memᴰ k xs) → count_to p n ≤ length xs
covers-le p n [] in-xs =
    let none : count_to p n ≡ 0 = count_none p n (λ k h pk. Memᴰ.not-nil (in-xs k h pk)) in
    omega arith
covers-le p n (x ∷ xs) in-xs =
    let below : count_to (without p x) n ≤ length xs = covers-le (without p x) n xs
    (λ k h wk. ⊎_elim (λ (e : k ≡ x). absurd (without-ne p x k wk e)) (λ (m : Memᴰ k xs). m)
    (Memᴰ.cases_cons (in-xs k h (without_was p x k wk)))) in
    omega (arith, below, count-le p x n)

pub distinct_append : (s t : List ℕ) → Distinct s → Distinct t → ((x : ℕ) → Memᴰ x s → Memᴰ x t → ⊥) → Distinct (s ++ t)
unfolding Distinct
distinct_append [] t ds dt apart = dt
distinct_append (x ∷ s) t ds dt apart = (
  (λ m. ⊎_elim ds.0 (apart x (Memᴰ.head refl)) (Memᴰ.append_cases s m)),
  distinct_append s t ds.1 dt (λ y ms mt. apart y (Memᴰ.tail ms) mt),
)

pub count-max : (p : ℕ → Bool) (n : ℕ) → count_to p n ≤ n
unfolding count_to
count-max p zero = omega arith
count-max p (suc n) = omega (arith, count-max p n, bit_le (p n))
  where
    bit_le : (t : Bool) → bit t ≤ 1
    bit_le true = omega arith
    bit_le false = omega arith
