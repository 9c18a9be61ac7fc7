-- From the whole root that `wide_root` finds to the pattern of the rounded root, and the roots of the values that are
-- not positive and finite. Assumes nothing.
use mathlib.Core.Path.{◌≡◌, refl, sym, ap, ◌∙◌, subst}
use Prim.Native.Nat.{ℕ, zero, suc, ◌+◌, ◌-◌, ◌*◌, ◌/◌, ◌%◌, ◌^◌, ◌≤◌, ◌<◌}
use native.Mathlib.Nat.{lt_of_le_of_lt, mul-pos, mul-lt-mul_of_pos_right, lt_irrefl, le_of_lt, zero-mul}
use native.Mathlib.Decide.{dec_le}
use native.Mathlib.Omega.{arith}
use mathlib.Core.Bool.{Bool, true, false, not, cond, false≢true}
use lib.Dec.{T, leb, ltb, eqb, le→leb, ltb→lt, nltb→le, not_T, lit<}
use lib.Pow.{pow_pos}
use lib.Ieee.{Float, nan, inf, fin, Format, binary64, low, up, odd, is_nan, of_fields, of_bits, nan_bits}
use lib.Ieee.Bits.{is_true, nan_bits_is, nan_bits_above}
use lib.Ieee.Fits.{down_pos}
use lib.Ieee.Exact.{HasValue, odd_sign}
use Rattle.doubles_sqrt.specs.Root.{whole_root, magnitude, root_of_units, square_root}
use Rattle.doubles_sqrt.proofs.WholeRoot.{IsRoot, whole-root, square-lt}
use Rattle.doubles_sqrt.proofs.Rounded.{rounded}
use Rattle.doubles_sqrt.proofs.Patterns.{magnitude-at, root-at, units-bits, subnormal, normal, of_bits_is}

-- ---- the whole root s of m * 2 ^ 54 has 54 digits
module _ (m : ℕ) where
  pub root-under : m < 2 ^ 54 → whole_root (m * 2 ^ 54) < 2 ^ 54
  root-under h = square-lt (whole_root (m * 2 ^ 54)) (2 ^ 54)
      (lt_of_le_of_lt (whole-root (m * 2 ^ 54)).0 (mul-lt-mul_of_pos_right h (pow_pos 54)))

  root_over : 2 ^ 52 ≤ m → 2 ^ 53 ≤ whole_root (m * 2 ^ 54)
  root_over h = below (square-lt (2 ^ 53) (suc (whole_root (m * 2 ^ 54))) (lt_of_le_of_lt large (whole-root (m * 2 ^ 54)).1))
    where
      large : 2 ^ 53 * 2 ^ 53 ≤ m * 2 ^ 54
      large = omega arith

      below : 2 ^ 53 < suc (whole_root (m * 2 ^ 54)) → 2 ^ 53 ≤ whole_root (m * 2 ^ 54)
      below g = omega arith

-- ---- the pattern
pub pattern : (n m half : ℕ) → n * 2 ^ low binary64 ≡ m * 2 ^ 52 * (2 ^ half * 2 ^ half) → 2 ^ 52 ≤ m → m < 2 ^ 54 → half ≤ 1534
    → root_of_units binary64 n ≡ of_bits binary64 (half * 2 ^ 52 + (whole_root (m * 2 ^ 54) + 1) / 2)
pattern n m half e lo hi top = go (whole_root (m * 2 ^ 54)) (whole-root (m * 2 ^ 54)) (root_over m lo) (root-under m hi)
  where
    four : 4 * (m * 2 ^ 52) ≡ m * 2 ^ 54
    four = omega arith

    room : 53 + half < 1074 + suc 1023
    room = omega arith

    go : (s : ℕ) → IsRoot (m * 2 ^ 54) s → 2 ^ 53 ≤ s → s < 2 ^ 54 → root_of_units binary64 n ≡ of_bits binary64 (half * 2 ^ 52 + (s + 1) / 2)
    go s r a b =
        rounded binary64 n (m * 2 ^ 52) half s (lit< tt) e (subst (λ (x : ℕ). IsRoot x s) (sym four) r) first second
        ∙ units-bits binary64 ((s + 1) / 2) half (lit< tt) third fourth room
      where
        first : 2 ^ 52 ≤ s / 2
        first = omega arith

        second : s / 2 < 2 ^ 53
        second = omega arith

        third : 2 ^ 52 ≤ (s + 1) / 2
        third = omega arith

        fourth : (s + 1) / 2 ≤ 2 ^ 53
        fourth = omega arith

-- ---- the root of a positive finite value, by its magnitude
pub root-by-units : (b : ℕ) → 0 < b → b < 0x7ff0_0000_0000_0000
    → square_root binary64 (of_bits binary64 b) ≡ root_of_units binary64 (magnitude binary64 (of_bits binary64 b))
root-by-units b h k = go (dec_le (2 ^ 52) b)
  where
    by : (X : ℕ) → 0 < X → HasValue (of_bits binary64 b) false X (2 ^ low binary64)
        → square_root binary64 (of_bits binary64 b) ≡ root_of_units binary64 (magnitude binary64 (of_bits binary64 b))
    by X P v = root-at binary64 (of_bits binary64 b) X P v
        ∙ ap (λ (x : ℕ). root_of_units binary64 x) (sym (magnitude-at binary64 (of_bits binary64 b) X v))

    low-side : (2 ^ 52 ≤ b → ⊥) → b < 2 ^ 52
    low-side f = omega arith

    lead : 0 < 2 ^ 52 + b % 2 ^ 52
    lead = omega arith

    go : Dec (2 ^ 52 ≤ b) → square_root binary64 (of_bits binary64 b) ≡ root_of_units binary64 (magnitude binary64 (of_bits binary64 b))
    go (yes l) = by ((2 ^ 52 + b % 2 ^ 52) * 2 ^ (b / 2 ^ 52 - 1)) (mul-pos lead (pow_pos (b / 2 ^ 52 - 1))) (normal b l k)
    go (no f) = by (b * 2 ^ 0) (mul-pos h (pow_pos 0)) (subnormal b (low-side f))

-- ---- the other values
pub root-of-nan : (f : Format) → square_root f nan ≡ nan
unfolding square_root
root-of-nan f = refl

pub root-of-zero : square_root binary64 (of_bits binary64 0) ≡ of_bits binary64 0
unfolding square_root of_bits
root-of-zero = refl

pub root-of-negative-zero : square_root binary64 (of_bits binary64 0x8000_0000_0000_0000) ≡ of_bits binary64 0x8000_0000_0000_0000
unfolding square_root of_bits
root-of-negative-zero = refl

pub root-of-infinity : square_root binary64 (of_bits binary64 0x7ff0_0000_0000_0000) ≡ of_bits binary64 0x7ff0_0000_0000_0000
unfolding square_root of_bits
root-of-infinity = refl

-- a negative value of X units
negative-value : (f : Format) (v : Float) (X c : ℕ) → 0 < X → HasValue v true X c → square_root f v ≡ nan
unfolding square_root
negative-value f nan X c P h = absurd h
negative-value f (inf s) X c P h = absurd h
negative-value f (fin false m e) X c P h = absurd (false≢true h.0)
negative-value f (fin true zero e) X c P h =
    absurd (lt_irrefl 0 (subst (λ (x : ℕ). 0 < x) (sym h.1 ∙ ap (λ (x : ℕ). x * c) (zero-mul (up e)) ∙ zero-mul c)
    (mul-pos P (down_pos e))))
negative-value f (fin true (suc m) e) X c P h = refl

negative-fields : (x t : ℕ) → (x ≡ 0 → 0 < t) → square_root binary64 (of_fields binary64 true x t) ≡ nan
unfolding of_fields
negative-fields zero t h = negative-value binary64 (odd 53 true t 0 1074) (t * 2 ^ 0) (2 ^ 1074)
    (mul-pos (h refl) (pow_pos 0)) (odd_sign 53 true t 0 1074)
negative-fields (suc x) t h = go (eqb (suc x) 2047) (eqb t 0)
  where
    lead : 0 < 2 ^ 52 + t
    lead = omega arith

    go : (o z : Bool) → square_root binary64 (cond o (cond z (inf true) nan) (odd 53 true (2 ^ 52 + t) x 1074)) ≡ nan
    go true true = unfold square_root in refl
    go true false = unfold square_root in refl
    go false z = negative-value binary64 (odd 53 true (2 ^ 52 + t) x 1074) ((2 ^ 52 + t) * 2 ^ x) (2 ^ 1074)
        (mul-pos lead (pow_pos x)) (odd_sign 53 true (2 ^ 52 + t) x 1074)

pub root-of-negative : (b : ℕ) → 0x8000_0000_0000_0000 < b → b < 2 ^ 64 → square_root binary64 (of_bits binary64 b) ≡ nan
root-of-negative b h k =
    ap (λ (v : Float). square_root binary64 v)
    (of_bits_is b ∙ ap (λ (s : Bool). of_fields binary64 s (b % 0x8000_0000_0000_0000 / 0x10_0000_0000_0000)
    (b % 0x10_0000_0000_0000)) (is_true (leb 0x8000_0000_0000_0000 b) (le→leb 0x8000_0000_0000_0000 b (le_of_lt h))))
    ∙ negative-fields (b % 0x8000_0000_0000_0000 / 0x10_0000_0000_0000) (b % 0x10_0000_0000_0000) digits
  where
    digits : b % 0x8000_0000_0000_0000 / 0x10_0000_0000_0000 ≡ 0 → 0 < b % 0x10_0000_0000_0000
    digits e = omega arith

-- ---- which patterns are no NaN's
pub finite-is-no-nan : (b : ℕ) → b < 0x7ff0_0000_0000_0000 → T (not (nan_bits binary64 b))
finite-is-no-nan b h = subst (λ (t : Bool). T (not t)) (sym (nan_bits_above binary64 b))
    (not_T (ltb 0x7ff0_0000_0000_0000 (b % 0x8000_0000_0000_0000))
    (λ t. clash (ltb→lt 0x7ff0_0000_0000_0000 (b % 0x8000_0000_0000_0000) t)))
  where
    clash : 0x7ff0_0000_0000_0000 < b % 0x8000_0000_0000_0000 → ⊥
    clash l = omega arith

pub positive-under : (b : ℕ) → T (not (is_nan (of_bits binary64 b))) → b ≤ 0x8000_0000_0000_0000
    → (b ≡ 0x8000_0000_0000_0000 → ⊥) → (b ≡ 0x7ff0_0000_0000_0000 → ⊥) → b < 0x7ff0_0000_0000_0000
positive-under b t l n i =
    let above = nltb→le 0x7ff0_0000_0000_0000 (b % 0x8000_0000_0000_0000)
    (subst (λ (u : Bool). T (not u)) (sym (nan_bits_is binary64 b) ∙ nan_bits_above binary64 b) t) in
    under above
  where
    under : b % 0x8000_0000_0000_0000 ≤ 0x7ff0_0000_0000_0000 → b < 0x7ff0_0000_0000_0000
    under a = omega arith
