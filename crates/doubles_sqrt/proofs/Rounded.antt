-- What `root_of_units` works out, in whole numbers: the digits that it keeps bracket the root (`bracket`), and how a
-- program gets its result. Where a is A * 4 ^ h and the root of A has as many digits as the format keeps, the result
-- is the root s of 4 A, rounded to its half, with h digits after it (`rounded`). Assumes nothing.
use mathlib.Core.Path.{◌≡◌, refl, sym, ap, ◌∙◌, subst}
use Prim.Native.Nat.{ℕ, zero, suc, ◌+◌, ◌-◌, ◌*◌, ◌/◌, ◌%◌, ◌^◌, ◌≤◌, ◌<◌, compare, Ordering}
use native.Mathlib.Nat.{le_trans, le_of_eq, le_of_suc-le-suc, lt_of_lt_of_le, lt_of_le_of_lt, lt_of_not-le, not-le_of_lt}
use native.Mathlib.Nat.{le_antisymm, lt-suc_self, mul-pos, mul-le-mul_right, mul-lt-mul_of_pos_right, mul-mul-mul_comm, mul_assoc}
use native.Mathlib.Nat.{div-mul-le_self, div-lt_iff_lt-mul, le-div_iff_mul-le}
use native.Mathlib.Omega.{arith}
use mathlib.Core.Bool.{false, not}
use lib.Dec.{T, is_le, compare_is_eq, eqb, leb→le, nleb→lt, eqb→eq, eqb_refl}
use lib.Pow.{pow_pos, pow-add, pow_mono}
use lib.Ieee.{Float, Format, prec, low, size, nearest, units}
use lib.Ieee.Digits.{size-lt, size-le, size_reaches}
use lib.Ieee.Fits.{kept-lt}
use Rattle.doubles_sqrt.specs.Root.{whole_root, root_of_units}
use Rattle.doubles_sqrt.proofs.WholeRoot.{IsRoot, whole-root, square-lt, square_le}

-- ---- what `compare` says
abbrev pub Compared : Ordering → ℕ → ℕ → Type 0
Compared Ordering.lt a b = a < b
Compared Ordering.eq a b = a ≡ b
Compared Ordering.gt a b = b < a

pub compared : (a b : ℕ) → Compared (compare a b) a b
compared a b = go (compare a b) (leb→le a b) (nleb→lt a b) (eqb→eq a b) (λ (e : a ≡ b). subst (λ (x : ℕ). T (eqb a x)) e (eqb_refl a))
  where
    strict : a ≤ b → (a ≡ b → ⊥) → a < b
    strict h n = omega arith

    go : (o : Ordering) → (T (is_le o) → a ≤ b) → (T (not (is_le o)) → b < a) → (T (compare_is_eq o) → a ≡ b) → (a ≡ b → T (compare_is_eq o)) → Compared o a b
    go Ordering.lt h k e n = strict (h tt) n
    go Ordering.eq h k e n = e tt
    go Ordering.gt h k e n = k tt

compare-lt : (a b : ℕ) → a < b → compare a b ≡ Ordering.lt
compare-lt a b h = go (compare a b) (compared a b)
  where
    no_eq : a ≡ b → ⊥
    no_eq e = omega arith

    no-gt : b < a → ⊥
    no-gt e = omega arith

    go : (o : Ordering) → Compared o a b → o ≡ Ordering.lt
    go Ordering.lt c = refl
    go Ordering.eq c = absurd (no_eq c)
    go Ordering.gt c = absurd (no-gt c)

compare-gt : (a b : ℕ) → b < a → compare a b ≡ Ordering.gt
compare-gt a b h = go (compare a b) (compared a b)
  where
    no_eq : a ≡ b → ⊥
    no_eq e = omega arith

    no_lt : a < b → ⊥
    no_lt e = omega arith

    go : (o : Ordering) → Compared o a b → o ≡ Ordering.gt
    go Ordering.lt c = absurd (no_lt c)
    go Ordering.eq c = absurd (no_eq c)
    go Ordering.gt c = refl

-- ---- the parts of `root_of_units`, for a format of p digits: how many digits are dropped, and the number kept
abbrev pub dropped : ℕ → ℕ → ℕ
dropped p a = size (whole_root a) - p

abbrev pub kept : ℕ → ℕ → ℕ
kept p a = whole_root a / 2 ^ dropped p a

-- `root_of_units` from its q and its k on
abbrev pub core : Format → ℕ → ℕ → ℕ → Float
core f a q k = units f false (nearest q (compare (4 * a) ((2 * q + 1) * 2 ^ k * ((2 * q + 1) * 2 ^ k)))) k

pub root_is : (f : Format) (n : ℕ)
    → root_of_units f n ≡ core f (n * 2 ^ low f) (kept (prec f) (n * 2 ^ low f)) (dropped (prec f) (n * 2 ^ low f))
unfolding root_of_units
root_is f n = refl

-- the root lies from q * 2 ^ k up to (q + 1) * 2 ^ k
pub bracket : (p a : ℕ) → (kept p a * 2 ^ dropped p a * (kept p a * 2 ^ dropped p a) ≤ a)
    × (a < suc (kept p a) * 2 ^ dropped p a * (suc (kept p a) * 2 ^ dropped p a))
bracket p a =
    let w = whole_root a in
    let k = dropped p a in
    let q = kept p a in
    let above : w < suc q * 2 ^ k = (div-lt_iff_lt-mul (pow_pos k)).0 (lt-suc_self q) in (
      le_trans (square_le (q * 2 ^ k) w (div-mul-le_self w (2 ^ k))) (whole-root a).0,
      lt_of_lt_of_le (whole-root a).1 (square_le (suc w) (suc q * 2 ^ k) above),
    )

-- where the whole root has p digits at least, the number kept has p
pub kept-ge : (p a : ℕ) → 0 < p → p ≤ size (whole_root a) → 2 ^ (p - 1) ≤ kept p a
kept-ge p a P h =
    let k = dropped p a in
    (le-div_iff_mul-le (pow_pos k)).1
    (le_trans (le_of_eq (sym (pow-add 2 (p - 1) k)))
    (size_reaches (whole_root a) (p - 1 + k) (in_use (size (whole_root a)))))
  where
    in_use : (z : ℕ) → p - 1 + (size (whole_root a) - p) < size (whole_root a)
    in_use z = omega arith

pub kept_under : (p a : ℕ) → kept p a < 2 ^ p
kept_under p a = kept-lt p (whole_root a)

-- ---- a number's digits, from two powers of two around it
pub size_exact : (n z : ℕ) → 2 ^ z ≤ n → n < 2 ^ suc z → size n ≡ suc z
size_exact n z h k = le_antisymm (size-le n (suc z) k)
    (lt_of_not-le (λ (g : size n ≤ z). not-le_of_lt (lt_of_lt_of_le (size-lt n) (pow_mono g)) h))

-- ---- A root of h more digits: with a = A * 4 ^ h, the root of a keeps the root q of A
module _ (p A h q a : ℕ) (P : 0 < p) (e : a ≡ A * (2 ^ h * 2 ^ h)) (r : IsRoot A q) (lo : 2 ^ (p - 1) ≤ q) (hi : q < 2 ^ p) where
  at_least : q * 2 ^ h ≤ whole_root a
  at_least =
      le_of_suc-le-suc
      (square-lt (q * 2 ^ h) (suc (whole_root a))
      (lt_of_le_of_lt
      (le_trans (le_of_eq (mul-mul-mul_comm q (2 ^ h) q (2 ^ h))) (le_trans (mul-le-mul_right (2 ^ h * 2 ^ h) r.0) (le_of_eq (sym e))))
      (whole-root a).1))

  at_most : whole_root a < suc q * 2 ^ h
  at_most =
      square-lt (whole_root a) (suc q * 2 ^ h)
      (lt_of_le_of_lt (le_trans (whole-root a).0 (le_of_eq e))
      (lt_of_lt_of_le (mul-lt-mul_of_pos_right r.1 (mul-pos (pow_pos h) (pow_pos h)))
      (le_of_eq (mul-mul-mul_comm (suc q) (suc q) (2 ^ h) (2 ^ h)))))

  divided : whole_root a / 2 ^ h ≡ q
  divided = le_antisymm (le_of_suc-le-suc ((div-lt_iff_lt-mul (pow_pos h)).1 at_most)) ((le-div_iff_mul-le (pow_pos h)).1 at_least)

  digits : size (whole_root a) ≡ suc (p - 1 + h)
  digits =
      size_exact (whole_root a) (p - 1 + h) (le_trans (le_of_eq (pow-add 2 (p - 1) h)) (le_trans (mul-le-mul_right (2 ^ h) lo) at_least))
      (lt_of_lt_of_le at_most (le_trans (mul-le-mul_right (2 ^ h) hi) (le_of_eq (sym (pow-add 2 p h) ∙ ap (λ (x : ℕ). 2 ^ x) same))))
    where
      same : p + h ≡ suc (p - 1 + h)
      same = omega arith

  drops : dropped p a ≡ h
  drops = left (size (whole_root a)) digits
    where
      left : (z : ℕ) → z ≡ suc (p - 1 + h) → z - p ≡ h
      left z d = omega arith

  keeps : kept p a ≡ q
  keeps = ap (λ (k : ℕ). whole_root a / 2 ^ k) drops ∙ divided

-- ---- rounding by the root of 4 A: its last digit says on which side of the midpoint the root of A lies, and no tie is possible
half-root : (A s q b : ℕ) → s ≡ 2 * q + b → b < 2 → IsRoot (4 * A) s → IsRoot A q
half-root A s q zero e l r = even (subst (λ (x : ℕ). IsRoot (4 * A) x) e r)
  where
    even : IsRoot (4 * A) (2 * q + 0) → IsRoot A q
    even g = (low-side g.0, high-side g.1)
      where
        low-side : (2 * q + 0) * (2 * q + 0) ≤ 4 * A → q * q ≤ A
        low-side x = omega arith

        high-side : 4 * A < suc (2 * q + 0) * suc (2 * q + 0) → A < suc q * suc q
        high-side x = omega arith
half-root A s q (suc zero) e l r = odd (subst (λ (x : ℕ). IsRoot (4 * A) x) e r)
  where
    odd : IsRoot (4 * A) (2 * q + 1) → IsRoot A q
    odd g = (low-side g.0, high-side g.1)
      where
        low-side : (2 * q + 1) * (2 * q + 1) ≤ 4 * A → q * q ≤ A
        low-side x = omega arith

        high-side : 4 * A < suc (2 * q + 1) * suc (2 * q + 1) → A < suc q * suc q
        high-side x = omega arith
half-root A s q (suc (suc b)) e l r = absurd (too_large b l)
  where
    too_large : (b : ℕ) → suc (suc b) < 2 → ⊥
    too_large b h = omega arith

-- 4 a against the square of twice the midpoint, with the common 4 ^ h divided out
scaled-square : (q h : ℕ) → (2 * q + 1) * 2 ^ h * ((2 * q + 1) * 2 ^ h) ≡ (2 * q + 1) * (2 * q + 1) * (2 ^ h * 2 ^ h)
scaled-square q h = mul-mul-mul_comm (2 * q + 1) (2 ^ h) (2 * q + 1) (2 ^ h)

scaled-four : (A h a : ℕ) → a ≡ A * (2 ^ h * 2 ^ h) → 4 * a ≡ 4 * A * (2 ^ h * 2 ^ h)
scaled-four A h a e = ap (λ (x : ℕ). 4 * x) e ∙ sym (mul_assoc 4 A (2 ^ h * 2 ^ h))

picks : (A h a q s b : ℕ) → a ≡ A * (2 ^ h * 2 ^ h) → s ≡ 2 * q + b → b < 2 → IsRoot (4 * A) s
    → nearest q (compare (4 * a) ((2 * q + 1) * 2 ^ h * ((2 * q + 1) * 2 ^ h))) ≡ (s + 1) / 2
picks A h a q s zero e d l r =
    ap (λ (o : Ordering). nearest q o) (compare-lt (4 * a) ((2 * q + 1) * 2 ^ h * ((2 * q + 1) * 2 ^ h)) below) ∙ same
  where
    side : suc s * suc s ≡ (2 * q + 1) * (2 * q + 1)
    side = ap (λ (x : ℕ). suc x * suc x) d ∙ ap (λ (x : ℕ). x * x) grown
      where
        grown : suc (2 * q + 0) ≡ 2 * q + 1
        grown = omega arith

    below : 4 * a < (2 * q + 1) * 2 ^ h * ((2 * q + 1) * 2 ^ h)
    below =
        lt_of_le_of_lt (le_of_eq (scaled-four A h a e))
        (lt_of_lt_of_le (mul-lt-mul_of_pos_right (lt_of_lt_of_le r.1 (le_of_eq side))
        (mul-pos (pow_pos h) (pow_pos h))) (le_of_eq (sym (scaled-square q h))))

    same : q ≡ (s + 1) / 2
    same = omega arith
picks A h a q s (suc zero) e d l r =
    ap (λ (o : Ordering). nearest q o) (compare-gt (4 * a) ((2 * q + 1) * 2 ^ h * ((2 * q + 1) * 2 ^ h)) above) ∙ same
  where
    no_tie : (2 * q + 1) * (2 * q + 1) ≤ 4 * A → (2 * q + 1) * (2 * q + 1) < 4 * A
    no_tie x = omega arith

    above : (2 * q + 1) * 2 ^ h * ((2 * q + 1) * 2 ^ h) < 4 * a
    above =
        lt_of_le_of_lt (le_of_eq (scaled-square q h))
        (lt_of_lt_of_le (mul-lt-mul_of_pos_right (no_tie (subst (λ (x : ℕ). x * x ≤ 4 * A) d r.0))
        (mul-pos (pow_pos h) (pow_pos h))) (le_of_eq (sym (scaled-four A h a e))))

    same : suc q ≡ (s + 1) / 2
    same = omega arith
picks A h a q s (suc (suc b)) e d l r = absurd (too_large b l)
  where
    too_large : (b : ℕ) → suc (suc b) < 2 → ⊥
    too_large b h = omega arith

pub rounded : (f : Format) (n A h s : ℕ) → 0 < prec f → n * 2 ^ low f ≡ A * (2 ^ h * 2 ^ h) → IsRoot (4 * A) s
    → 2 ^ (prec f - 1) ≤ s / 2 → s / 2 < 2 ^ prec f
    → root_of_units f n ≡ units f false ((s + 1) / 2) h
rounded f n A h s P e r lo hi =
    let a = n * 2 ^ low f in
    let q = s / 2 in
    let g : IsRoot A q = half-root A s q (s % 2) (halves s) (bit s) r in
    root_is f n
    ∙ ap (λ (k : ℕ). core f a (kept (prec f) a) k) (drops (prec f) A h q a P e g lo hi)
    ∙ ap (λ (x : ℕ). core f a x h) (keeps (prec f) A h q a P e g lo hi)
    ∙ ap (λ (x : ℕ). units f false x h) (picks A h a q s (s % 2) e (halves s) (bit s) r)
  where
    halves : (x : ℕ) → x ≡ 2 * (x / 2) + x % 2
    halves x = omega arith

    bit : (x : ℕ) → x % 2 < 2
    bit x = omega arith
