-- One digit of a number more: what it adds, and where the text has none. Assumes nothing.
use mathlib.Core.Path.{◌≡◌, refl, sym, ap, ◌∙◌, subst}
use mathlib.Core.Bool.{Bool, true, false, cond}
use mathlib.Core.List.{List}
use Prim.Native.Nat.{ℕ, suc, ◌+◌, ◌-◌, ◌*◌, ◌^◌, ◌≤◌, ◌<◌}
use native.Mathlib.Nat.{mul-add, lt_of_lt_of_le}
use native.Mathlib.Numerals.{add-one}
use native.Mathlib.Omega.{arith}
use borrow.Author.Tests.{ltb-true, le-leb, lt-leb}
use lib.Dec.{ltb, lit<}
use lib.Pow.{pow-add, pow_mono}
use lib.ListN.{length, take, drop, get_or}
use lib.Seq.{drop-cons}
use Rattle.std.proofs.lemmas.List.{drop_all}
use Rattle.std.specs.Prelude.{Option, None, Some}
use Rattle.std.specs.Option.{option_and_then}
use Rattle.hex_text.specs.Hex.{hex_digit, hex_number, hex_at}

-- a digit counts less than 16
pub digit-lt : (c d : ℕ) → hex_digit c ≡ Some d → d < 16
unfolding hex_digit
digit-lt c d = go (ltb c 48) (ltb c 58) (ltb c 97) (ltb c 103) (ltb-true c 58) (ltb-true c 103)
  where
    value : Option ℕ → ℕ
    value None = 0
    value (Some v) = v

    go : (s t u v : Bool) → (t ≡ true → c < 58) → (v ≡ true → c < 103)
        → cond s None (cond t (Some (c - 48)) (cond u None (cond v (Some (c - 87)) None))) ≡ Some d → d < 16
    go true t u v f g e = omega (arith, ap value e)
    go false true u v f g e = let h = f refl in omega (arith, ap value e)
    go false false true v f g e = omega (arith, ap value e)
    go false false false true f g e = let h = g refl in omega (arith, ap value e)
    go false false false false f g e = omega (arith, ap value e)

-- `value` is what the first i digits count
pub record Read (digits : List ℕ) (value i : ℕ) : Type 0 where
  pub same : hex_number value (drop i digits) ≡ hex_number 0 digits
  pub small : value < 2 ^ (4 * i)

pub read_none : (digits : List ℕ) → Read digits 0 0
read_none digits = record { same = refl; small = lit< tt }

pub small_at : (value i : ℕ) → value < 2 ^ (4 * i) → i < 16 → value < 2 ^ 60
small_at value i h l = lt_of_lt_of_le h (pow_mono exponent)
  where
    exponent : 4 * i ≤ 60
    exponent = omega arith

module _ (digits : List ℕ) (value i : ℕ) (r : Read digits value i) (l : i < length digits) where
  -- what the digit at i makes of the number
  step : (o : Option ℕ) → hex_digit (get_or digits i 0) ≡ o
      → option_and_then (λ d. hex_number (value * 16 + d) (drop (suc i) digits)) o ≡ hex_number 0 digits
  unfolding hex_number
  step o e =
      ap (option_and_then (λ (d : ℕ). hex_number (value * 16 + d) (drop (suc i) digits))) (sym e)
      ∙ ap (hex_number value) (sym (drop-cons digits i 0 l)) ∙ r.same

  pub read_more : (d : ℕ) → hex_digit (get_or digits i 0) ≡ Some d → Read digits (value * 16 + d) (i + 1)
  read_more d e = record {
    same = rw (add-one i) (step (Some d) e);
    small = subst (λ (p : ℕ). value * 16 + d < p) (sym wide) (grown value d (2 ^ (4 * i)) r.small (digit-lt _ d e));
  }
    where
      wide : 2 ^ (4 * (i + 1)) ≡ 2 ^ (4 * i) * 2 ^ 4
      wide = ap (λ (z : ℕ). 2 ^ z) (mul-add 4 i 1) ∙ pow-add 2 (4 * i) 4

      grown : (a b p : ℕ) → a < p → b < 16 → a * 16 + b < p * 2 ^ 4
      grown a b p f g = omega arith

  pub read-stop : hex_digit (get_or digits i 0) ≡ None → None ≡ hex_number 0 digits
  read-stop e = step None e

pub read_all : (digits : List ℕ) (value i : ℕ) → Read digits value i → length digits ≤ i → Some value ≡ hex_number 0 digits
unfolding hex_number
read_all digits value i r h = ap (hex_number value) (sym (drop_all i digits h)) ∙ r.same

-- the text ends before the number does
pub past : (text : List ℕ) (k n : ℕ) → n ≤ 16 → length text < k + n → None ≡ hex_at text k n
unfolding hex_at
past text k n l h = simp (le-leb n 16 l, lt-leb (k + n) (length text) h)

pub inside : (text digits : List ℕ) (k n : ℕ) (w : Option ℕ) → n ≤ 16 → k + n ≤ length text → digits ≡ take n (drop k text)
    → w ≡ hex_number 0 digits → w ≡ hex_at text k n
unfolding hex_at
inside text digits k n w l h d e = simp (le-leb n 16 l, le-leb (k + n) (length text) h) (e ∙ ap (hex_number 0) d)
