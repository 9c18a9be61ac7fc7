-- What the loops over digits and lines keep.
use mathlib.Core.Path.{◌≡◌, refl, ◌∙◌, ap, subst}
use mathlib.Core.Bool.{Bool, true, false, cond, ◌&&◌}
use mathlib.Core.List.{List, [], ◌∷◌, ◌++◌}
use Prim.Native.Nat.{ℕ, zero, suc, ◌+◌, ◌*◌, ◌≤◌, ◌<◌}
use native.Mathlib.Omega.{arith}
use native.Mathlib.Numerals.{add-one}
use native.Mathlib.Decide.{dec_lt}
use borrow.Author.Tests.{eq-eqb, ne_eqb}
use lib.Dec.{eqb}
use lib.ListN.{length, get_or, length-append}
use lib.Ieee.{Float, binary64, of_bits}
use Rattle.logic.proofs.Bools.{and-false, both}
use Rattle.ray_input.specs.Format.{each_below}
use Rattle.ray_input.specs.Format.{bits_at, letter_of, count, pair_at, text_pairs}

module _ (test : ℕ → Bool) where
  pub each_none : each_below test 0 ≡ true
  unfolding each_below
  each_none = refl

  pub each_more : (k : ℕ) → each_below test k ≡ true → test k ≡ true → each_below test (k + 1) ≡ true
  unfolding each_below
  each_more k h t = rw (add-one k) (both (each_below test k) (test k) h t)

  pub each-stop : (k n : ℕ) → k < n → test k ≡ false → each_below test n ≡ false
  unfolding each_below
  each-stop k zero h t = absurd (omega arith)
  each-stop k (suc n) h t = elim (dec_lt k n) [
    | yes g ↦ ap (λ (b : Bool). b && test n) (each-stop k n g t)
    | no g ↦ and-false (each_below test n) (test n) (subst (λ (m : ℕ). test m ≡ false) (omega arith) t)
  ]

-- ---- the lines of a letter
pub count_none : (c : ℕ) (s : List ℕ) → count c s 0 ≡ 0
unfolding count
count_none c s = refl

pub count-hit : (c : ℕ) (s : List ℕ) (k : ℕ) → letter_of s k ≡ c → count c s (k + 1) ≡ count c s k + 1
unfolding count
count-hit c s k h = rw (add-one k, eq-eqb (letter_of s k) c h)

pub count-miss : (c : ℕ) (s : List ℕ) (k : ℕ) → (letter_of s k ≡ c → ⊥) → count c s (k + 1) ≡ count c s k
unfolding count
count-miss c s k h = rw (add-one k, ne_eqb (letter_of s k) c h) (omega arith)

pub count_most : (c : ℕ) (s : List ℕ) (k : ℕ) → count c s k ≤ k
unfolding count
count_most c s zero = omega arith
count_most c s (suc k) = omega (arith, count_most c s k, one (eqb (letter_of s k) c))
  where
    one : (b : Bool) → cond b 1 0 ≤ 1
    one true = omega arith
    one false = omega arith

pub count-mono : (c : ℕ) (s : List ℕ) (k n : ℕ) → k ≤ n → count c s k ≤ count c s n
unfolding count
count-mono c s k zero h = omega (arith, ap (count c s) (none k h))
  where
    none : (k : ℕ) → k ≤ 0 → k ≡ 0
    none k h = omega arith
count-mono c s k (suc n) h = elim (dec_lt k (suc n)) [
  | yes g ↦ omega (arith, count-mono c s k n (omega arith))
  | no g ↦ omega (arith, ap (count c s) (same k n h g))
]
  where
    same : (k n : ℕ) → k ≤ suc n → (k < suc n → ⊥) → k ≡ suc n
    same k n h g = omega arith

pub pairs-none : (c : ℕ) (s : List ℕ) → [] ≡ text_pairs c s 0
unfolding text_pairs
pairs-none c s = refl

pub pairs-more : (c : ℕ) (s : List ℕ) (k : ℕ) → text_pairs c s k ++ pair_at c s (36 * k) ≡ text_pairs c s (k + 1)
unfolding text_pairs
pairs-more c s k = rw (add-one k)

pub pairs-length : (c : ℕ) (s : List ℕ) (k : ℕ) → length (text_pairs c s k) ≡ 2 * count c s k
unfolding text_pairs count
pairs-length c s zero = refl
pairs-length c s (suc k) =
    length-append (text_pairs c s k) (pair_at c s (36 * k))
    ∙ omega (
      arith,
      pairs-length c s k,
      two (eqb (letter_of s k) c) (of_bits binary64 (bits_at s (36 * k + 2))) (of_bits binary64 (bits_at s (36 * k + 19))),
    )
  where
    two : (b : Bool) (x y : Float) → length (cond b (x ∷ y ∷ []) []) ≡ 2 * cond b 1 0
    two true x y = refl
    two false x y = refl

-- ---- the pair of a line
module _ (s : List ℕ) (at : ℕ) where
  pub pair-miss : (c : ℕ) → (get_or s at 0 ≡ c → ⊥) → [] ≡ pair_at c s at
  pair-miss c h = rw (ne_eqb _ _ h)

  pub pair-hit : (c : ℕ) (lo hi : Float) → get_or s at 0 ≡ c → lo ≡ of_bits binary64 (bits_at s (at + 2))
      → hi ≡ of_bits binary64 (bits_at s (at + 19))
      → lo ∷ hi ∷ [] ≡ pair_at c s at
  pair-hit c lo hi h e f = rw (eq-eqb _ _ h, e, f)
