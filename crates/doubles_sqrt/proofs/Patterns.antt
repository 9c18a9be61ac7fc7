-- Bit patterns of the positive finite values: how large the value is in units, its root by that number, and the
-- pattern of a rounded root. Assumes nothing.
use mathlib.Core.Path.{◌≡◌, refl, sym, ap, ◌∙◌, subst}
use mathlib.Core.Logic.{◌⊎◌, inl, inr}
use Prim.Native.Nat.{ℕ, zero, suc, ◌+◌, ◌-◌, ◌*◌, ◌/◌, ◌%◌, ◌^◌, ◌≤◌, ◌<◌}
use native.Mathlib.Nat.{le_trans, le_of_eq, le_refl, lt_of_lt_of_le, lt_of_le_of_lt, not-le_of_lt, lt_irrefl, eq-or-lt_of_le}
use native.Mathlib.Nat.{mod-eq_of_lt, zero-add, zero-mul, mul_assoc, mul_comm, mul-pos, mul-le-mul_right, mul-lt-mul_of_pos_right}
use native.Mathlib.Nat.{mul-div_cancel, pow-succ'}
use native.Mathlib.Omega.{arith}
use mathlib.Core.Bool.{Bool, true, false, cond, true≢false}
use lib.IntN.{ℤ}
use lib.Dec.{T, leb, ltb, eqb, leb→le, eqb→eq, lt→ltb, not_T}
use lib.Pow.{pow-add, pow_pos, pow-lt}
use lib.Ieee.{Float, nan, inf, fin, Format, binary64, prec, emax, low, up, down, size, odd, units, hid, of_fields, of_bits, to_bits}
use lib.Ieee.Fits.{odd-fits, down_pos}
use lib.Ieee.Bits.{is_false, cond_no, of_bits-to_bits}
use lib.Ieee.Exact.{HasValue, odd_sign}
use Rattle.doubles_sqrt.specs.Root.{magnitude, root_of_units, square_root}
use Rattle.doubles_sqrt.proofs.Rounded.{size_exact}

-- ---- a value of X units
units_of : (f : Format) (s : Bool) (m : ℕ) (e : ℤ) (X : ℕ) → m * up e * 2 ^ low f ≡ X * down e → m * up e * 2 ^ low f / down e ≡ X
units_of f s m e X v = ap (λ (x : ℕ). x / down e) v ∙ mul-div_cancel X (down_pos e)

pub magnitude-at : (f : Format) (v : Float) (X : ℕ) → HasValue v false X (2 ^ low f) → magnitude f v ≡ X
unfolding magnitude
magnitude-at f nan X h = absurd h
magnitude-at f (inf s) X h = absurd h
magnitude-at f (fin s m e) X h = units_of f s m e X h.1

pub root-at : (f : Format) (v : Float) (X : ℕ) → 0 < X → HasValue v false X (2 ^ low f) → square_root f v ≡ root_of_units f X
unfolding square_root
root-at f nan X P h = absurd h
root-at f (inf s) X P h = absurd h
root-at f (fin true m e) X P h = absurd (true≢false h.0)
root-at f (fin false zero e) X P h =
    absurd (lt_irrefl 0 (subst (λ (x : ℕ). 0 < x)
    (sym h.1 ∙ ap (λ (x : ℕ). x * 2 ^ low f) (zero-mul (up e)) ∙ zero-mul (2 ^ low f)) (mul-pos P (down_pos e))))
root-at f (fin false (suc m) e) X P h = ap (λ (x : ℕ). root_of_units f x) (units_of f false (suc m) e X h.1)

bits_at : (f : Format) (v : Float) (X : ℕ) → HasValue v false X (2 ^ low f)
    → to_bits f v ≡ (size X - prec f) * hid f + X / 2 ^ (size X - prec f)
unfolding to_bits
bits_at f nan X h = absurd h
bits_at f (inf s) X h = absurd h
bits_at f (fin true m e) X h = absurd (true≢false h.0)
bits_at f (fin false m e) X h =
    ap (λ (x : ℕ). 0 + (size x - prec f) * hid f + x / 2 ^ (size x - prec f)) (units_of f false m e X h.1)
    ∙ ap (λ (x : ℕ). x + X / 2 ^ (size X - prec f)) (zero-add ((size X - prec f) * hid f))

-- ---- the pattern of q * 2 ^ h units, for a q of p digits or 2 ^ p
pub units-is : (f : Format) (q h : ℕ) → q * 2 ^ h < 2 ^ (low f + suc (emax f)) → units f false q h ≡ odd (suc (prec f)) false q h (low f)
unfolding units
units-is f q h l = go (ltb (q * 2 ^ h) (2 ^ (low f + suc (emax f)))) (lt→ltb (q * 2 ^ h) (2 ^ (low f + suc (emax f))) l)
  where
    go : (b : Bool) → T b → cond b (odd (suc (prec f)) false q h (low f)) (inf false) ≡ odd (suc (prec f)) false q h (low f)
    go true t = refl
    go false t = absurd t

suc-pred : (p : ℕ) → 0 < p → suc (p - 1) ≡ p
suc-pred p h = omega arith

-- the two fields that are written for X units of z digits
abbrev pattern : ℕ → ℕ → ℕ → ℕ
pattern p X z = (z - p) * 2 ^ (p - 1) + X / 2 ^ (z - p)

written : (p q h : ℕ) → 0 < p → 2 ^ (p - 1) ≤ q → q ≤ 2 ^ p
    → pattern p (q * 2 ^ h) (size (q * 2 ^ h)) ≡ h * 2 ^ (p - 1) + q
written p q h P lo hi = go (eq-or-lt_of_le hi)
  where
    top : 2 ^ p ≡ 2 ^ (p - 1) * 2
    top = ap (λ (x : ℕ). 2 ^ x) (sym (suc-pred p P)) ∙ pow-succ' 2 (p - 1) ∙ mul_comm 2 (2 ^ (p - 1))

    less : (z : ℕ) → z ≡ suc (p - 1 + h) → z - p ≡ h
    less z e = omega arith

    more : (z : ℕ) → z ≡ suc (p + h) → z - p ≡ suc h
    more z e = omega arith

    last : p + h ≡ suc (p - 1 + h)
    last = omega arith

    carried : (x y d : ℕ) → x ≡ suc h * d + d → y ≡ h * d + d * 2 → x ≡ y
    carried x y d e g = omega arith

    go : (q ≡ 2 ^ p) ⊎ (q < 2 ^ p) → pattern p (q * 2 ^ h) (size (q * 2 ^ h)) ≡ h * 2 ^ (p - 1) + q
    go (inr l) =
        let z : size (q * 2 ^ h) - p ≡ h =
        less (size (q * 2 ^ h))
        (size_exact (q * 2 ^ h) (p - 1 + h) (le_trans (le_of_eq (pow-add 2 (p - 1) h)) (mul-le-mul_right (2 ^ h) lo))
        (lt_of_lt_of_le (mul-lt-mul_of_pos_right l (pow_pos h)) (le_of_eq (sym (pow-add 2 p h) ∙ ap (λ (x : ℕ). 2 ^ x) last)))) in
        ap (λ (k : ℕ). k * 2 ^ (p - 1) + q * 2 ^ h / 2 ^ k) z ∙ ap (λ (x : ℕ). h * 2 ^ (p - 1) + x) (mul-div_cancel q (pow_pos h))
    go (inl e) =
        let X = q * 2 ^ h in
        let is : X ≡ 2 ^ (p + h) = ap (λ (x : ℕ). x * 2 ^ h) e ∙ sym (pow-add 2 p h) in
        let z : size X - p ≡ suc h = more (size X)
        (size_exact X (p + h) (le_of_eq (sym is)) (lt_of_le_of_lt (le_of_eq is) (pow-lt (le_refl (suc (p + h)))))) in
        let cut : X / 2 ^ suc h ≡ 2 ^ (p - 1) =
        ap (λ (x : ℕ). x / 2 ^ suc h) (ap (λ (x : ℕ). x * 2 ^ h) (e ∙ top) ∙ mul_assoc (2 ^ (p - 1)) 2 (2 ^ h)
        ∙ ap (λ (x : ℕ). 2 ^ (p - 1) * x) (sym (pow-succ' 2 h)))
        ∙ mul-div_cancel (2 ^ (p - 1)) (pow_pos (suc h)) in
        carried (pattern p X (size X)) (h * 2 ^ (p - 1) + q) (2 ^ (p - 1))
        (ap (λ (k : ℕ). k * 2 ^ (p - 1) + X / 2 ^ k) z ∙ ap (λ (x : ℕ). suc h * 2 ^ (p - 1) + x) cut)
        (ap (λ (x : ℕ). h * 2 ^ (p - 1) + x) (e ∙ top))

pub units-bits : (f : Format) (q h : ℕ) → 0 < prec f → 2 ^ (prec f - 1) ≤ q → q ≤ 2 ^ prec f → prec f + h < low f + suc (emax f)
    → units f false q h ≡ of_bits f (h * hid f + q)
units-bits f q h P lo hi b =
    let v = odd (suc (prec f)) false q h (low f) in
    let l : q * 2 ^ h < 2 ^ (low f + suc (emax f)) =
    lt_of_le_of_lt (mul-le-mul_right (2 ^ h) hi) (lt_of_le_of_lt (le_of_eq (sym (pow-add 2 (prec f) h))) (pow-lt b)) in
    units-is f q h l
    ∙ sym (of_bits-to_bits f v (odd-fits f (suc (prec f)) false q h (lt_of_le_of_lt hi (pow-lt (le_refl (suc (prec f))))) hi l))
    ∙ ap (λ (x : ℕ). of_bits f x) (bits_at f v (q * 2 ^ h) (odd_sign (suc (prec f)) false q h (low f)) ∙ written (prec f) q h P lo hi)

-- ---- the value of a binary64 pattern that is positive and finite: 0x7ff0_0000_0000_0000 is the infinity's
pub of_bits_is : (b : ℕ) → of_bits binary64 b
    ≡ of_fields binary64 (leb 0x8000_0000_0000_0000 b) (b % 0x8000_0000_0000_0000 / 0x10_0000_0000_0000)
    (b % 0x10_0000_0000_0000)
unfolding of_bits
of_bits_is b = refl

under_ones : (t x : ℕ) → suc x < 2047 → of_fields binary64 false (suc x) t ≡ odd 53 false (0x10_0000_0000_0000 + t) x 1074
unfolding of_fields
under_ones t x h =
    cond_no (eqb (suc x) 2047) (cond (eqb t 0) (inf false) nan) (odd 53 false (0x10_0000_0000_0000 + t) x 1074)
    (not_T (eqb (suc x) 2047) (λ (u : T (eqb (suc x) 2047)). differ (eqb→eq (suc x) 2047 u)))
  where
    differ : suc x ≡ 2047 → ⊥
    differ e = omega arith

at_zero : (t : ℕ) → of_fields binary64 false 0 t ≡ odd 53 false t 0 1074
unfolding of_fields
at_zero t = refl

small : (b : ℕ) → b < 0x7ff0_0000_0000_0000 → b < 0x8000_0000_0000_0000
small b h = omega arith

positive-fields : (b : ℕ) → b < 0x7ff0_0000_0000_0000
    → of_bits binary64 b ≡ of_fields binary64 false (b / 0x10_0000_0000_0000) (b % 0x10_0000_0000_0000)
positive-fields b h =
    of_bits_is b
    ∙ ap (λ (s : Bool). of_fields binary64 s (b % 0x8000_0000_0000_0000 / 0x10_0000_0000_0000) (b % 0x10_0000_0000_0000))
    (is_false (leb 0x8000_0000_0000_0000 b)
    (not_T (leb 0x8000_0000_0000_0000 b)
    (λ (u : T (leb 0x8000_0000_0000_0000 b)). not-le_of_lt (small b h) (leb→le 0x8000_0000_0000_0000 b u))))
    ∙ ap (λ (x : ℕ). of_fields binary64 false (x / 0x10_0000_0000_0000) (b % 0x10_0000_0000_0000)) (mod-eq_of_lt (small b h))

-- subnormal: the pattern is the number of units
pub subnormal : (b : ℕ) → b < 0x10_0000_0000_0000 → HasValue (of_bits binary64 b) false (b * 2 ^ 0) (2 ^ low binary64)
subnormal b h =
    subst (λ (v : Float). HasValue v false (b * 2 ^ 0) (2 ^ low binary64))
    (sym (positive-fields b (finite b h)
    ∙ ap (λ (x : ℕ). of_fields binary64 false x (b % 0x10_0000_0000_0000)) (no_field b h)
    ∙ at_zero (b % 0x10_0000_0000_0000) ∙ ap (λ (x : ℕ). odd 53 false x 0 1074) (mod-eq_of_lt h)))
    (odd_sign 53 false b 0 1074)
  where
    finite : (b : ℕ) → b < 0x10_0000_0000_0000 → b < 0x7ff0_0000_0000_0000
    finite b h = omega arith

    no_field : (b : ℕ) → b < 0x10_0000_0000_0000 → b / 0x10_0000_0000_0000 ≡ 0
    no_field b h = omega arith

-- normal: the digits with the leading one, moved up by one less than the exponent's field
pub normal : (b : ℕ) → 0x10_0000_0000_0000 ≤ b → b < 0x7ff0_0000_0000_0000
    → HasValue (of_bits binary64 b) false
    ((0x10_0000_0000_0000 + b % 0x10_0000_0000_0000) * 2 ^ (b / 0x10_0000_0000_0000 - 1)) (2 ^ low binary64)
normal b h k =
    let t = b % 0x10_0000_0000_0000 in
    let x = b / 0x10_0000_0000_0000 - 1 in
    subst (λ (v : Float). HasValue v false ((0x10_0000_0000_0000 + t) * 2 ^ x) (2 ^ low binary64))
    (sym (positive-fields b k ∙ ap (λ (y : ℕ). of_fields binary64 false y t) (sym (field b h)) ∙ under_ones t x (field_lt b h k)))
    (odd_sign 53 false (0x10_0000_0000_0000 + t) x 1074)
  where
    field : (b : ℕ) → 0x10_0000_0000_0000 ≤ b → suc (b / 0x10_0000_0000_0000 - 1) ≡ b / 0x10_0000_0000_0000
    field b h = omega arith

    field_lt : (b : ℕ) → 0x10_0000_0000_0000 ≤ b → b < 0x7ff0_0000_0000_0000 → suc (b / 0x10_0000_0000_0000 - 1) < 2047
    field_lt b h k = omega arith
