-- A whole number from 1 up and below 2^32 can be cast: the cast loses nothing and gives the number.
use Rattle.std.proofs.Common.{◌≡◌, ℕ, ◌*◌, ◌/◌, ◌%◌, ◌^◌, ◌<◌, min, true, false, ◌&&◌, T, eqb, ltb, leb, ℤ, sym, refl, ap, ◌∙◌, subst}
use Rattle.std.proofs.Common.{div-lt_iff_lt-mul, mul_right_comm, arith, ltb-true, lt-ltb, eq-eqb, eqb-true, le-leb}
use mathlib.Core.Bool.{false≢true}
use native.Mathlib.Nat.{eq_of_mul-eq-mul_right, mul-mod_left}
use lib.Ieee.{Float, nan, inf, fin, up, down, binary64, lt, le, eq, of_int, of_bits, to_unsigned, in_unsigned, whole, round, prec}
use lib.Ieee.Fits.{down_pos}
use lib.Ieee.Exact.{HasValue}
use lib.Ieee.Back.{round_whole}
use Rattle.logic.proofs.Bools.{and_left, and_right, both}
use Rattle.log_model.specs.Logs.{is_whole}

-- a positive double with the value of the whole number q, which the format counts without a gap
valued : (m q : ℕ) (e : ℤ) (y : Float) → HasValue y false q 1 → eq (fin false m e) y ≡ true → m * up e ≡ q * down e
unfolding eq
valued m q e nan v h = absurd v
valued m q e (inf s) v h = absurd v
valued m q e (fin true n d) v h = absurd (false≢true (sym v.0))
valued m q e (fin false n d) v h =
    eq_of_mul-eq-mul_right (down d) (down_pos d) (m * up e) (q * down e)
    (eqb-true (m * up e * down d) (n * up d * down e) (and_left (eqb (m * up e * down d) (n * up d * down e)) true h)
    ∙ ap (λ (k : ℕ). k * down e) (once (n * up d) (q * down d) v.1) ∙ mul_right_comm q (down d) (down e))
  where
    once : (a b : ℕ) → a * 1 ≡ b → a ≡ b
    once a b e = omega (arith, e)

pub castable : (x : Float) → is_whole x ≡ true → le (of_bits binary64 0x3ff0_0000_0000_0000) x ≡ true
    → lt x (of_bits binary64 0x41f0_0000_0000_0000) ≡ true
    → T (in_unsigned binary64 32 x) × (to_unsigned 32 x ≡ to_unsigned 64 x)
unfolding is_whole le lt of_bits of_int to_unsigned in_unsigned whole
castable nan w a b = absurd (false≢true a)
castable (inf true) w a b = absurd (false≢true a)
castable (inf false) w a b = absurd (false≢true b)
castable (fin true m e) w a b = absurd (none (m * up e) (down e) (down_pos e) a)
  where
    none : (n d : ℕ) → 0 < d → (eqb (1 * d) (n * 1) && eqb (1 * d) 0) ≡ true → ⊥
    none n d p h = no (eqb-true (1 * d) 0 (and_right (eqb (1 * d) (n * 1)) (eqb (1 * d) 0) h))
      where
        no : 1 * d ≡ 0 → ⊥
        no e = omega arith
castable (fin false m e) w a b = (
  subst T (sym (both (whole binary64 (fin false m e)) (ltb q (2 ^ 32))
      (both (eqb (m * up e % down e) 0 && leb q (2 ^ prec binary64)) true
      (both (eqb (m * up e % down e) 0) (leb q (2 ^ prec binary64)) divides
      (le-leb q (2 ^ prec binary64) (omega (arith, below)))) refl)
      (lt-ltb q (2 ^ 32) below))) tt,
  omega (arith, below),
)
  where
    q : ℕ
    q = m * up e / down e

    below : m * up e / down e < 4294967296
    below = (div-lt_iff_lt-mul (down_pos e)).1 (omega (arith, ltb-true (m * up e * 1) (4294967296 * down e) b))

    most : min (m * up e / down e) 18446744073709551615 ≡ m * up e / down e
    most = omega (arith, below)

    value : m * up e ≡ m * up e / down e * down e
    value = valued m (m * up e / down e) e (round binary64 false (m * up e / down e) 1)
        (round_whole binary64 false (m * up e / down e) (omega (arith, below)))
        (subst (λ (k : ℕ). eq (fin false m e) (round binary64 false k 1) ≡ true) most w)

    divides : eqb (m * up e % down e) 0 ≡ true
    divides = eq-eqb (m * up e % down e) 0 (ap (λ (k : ℕ). k % down e) value ∙ mul-mod_left q (down e))
