-- `square_root` of a positive finite value is the value of the format that is nearest to the exact root
-- (`nearest-root`), in either format. Assumes nothing.
use mathlib.Core.Path.{◌≡◌, refl, sym, ap, ◌∙◌, subst}
use Prim.Native.Nat.{ℕ, zero, suc, ◌+◌, ◌-◌, ◌*◌, ◌/◌, ◌^◌, ◌≤◌, ◌<◌, compare, Ordering}
use native.Mathlib.Nat.{le_refl, le_trans, le_of_mul-le-mul_right, le_of_eq, le_of_lt, le_of_suc-le-suc, sub-add_cancel}
use native.Mathlib.Nat.{lt_of_lt_of_le, lt_of_le_of_lt, lt_of_not-le, not-le_of_lt, lt_irrefl, mul-pos, mul-le-mul_right}
use native.Mathlib.Nat.{mul-lt-mul_of_pos_right, lt_of_mul-lt-mul_right, mul-mul-mul_comm, mul_assoc, mul-one, one-mul, add-mul}
use native.Mathlib.Nat.{mul_comm, mul_right_comm, zero-lt-suc, le-div_iff_mul-le, div-lt_iff_lt-mul, eq_of_mul-eq-mul_right}
use native.Mathlib.Nat.{div-one, mul-div_cancel}
use native.Mathlib.Omega.{arith}
use native.Mathlib.Decide.{dec_le}
use mathlib.Core.Bool.{true, false}
use lib.IntN.{ℤ, pos, negsuc}
use lib.Dec.{T, lit≤}
use lib.Pow.{pow-add, pow_pos, pow_mono, pow-lt, shl_lt}
use lib.Ieee.{Float, nan, inf, fin, Format, binary32, binary64, prec, emax, low, up, down, size, nearest, units, fits, hid}
use lib.Ieee.{of_bits, to_bits, le}
use lib.Ieee.Order.{le_of_values}
use lib.Ieee.Bits.{of_bits-to_bits}
use lib.Ieee.Digits.{size-lt}
use lib.Ieee.Fits.{two, two-le_pos, odd-fits, up_pos, down_pos}
use lib.Ieee.Exact.{HasValue, units_val}
use lib.Ieee.Positive.{positive, positive_of_value, values_of_le}
use Rattle.doubles_sqrt.specs.Root.{whole_root, magnitude, root_of_units, square_root}
use Rattle.doubles.proofs.Held.{held}
use Rattle.doubles_sqrt.proofs.WholeRoot.{whole-root, square-lt, square_le}
use Rattle.doubles_sqrt.proofs.Rounded.{Compared, compared, dropped, kept, root_is, bracket, kept-ge, kept_under}
use Rattle.doubles_sqrt.proofs.Patterns.{magnitude-at, units-is}
use Rattle.doubles_sqrt.specs.Nearest.{NearestRoot}

-- ---- a value that the format holds is M * 2 ^ i units, for an M of at most prec digits
abbrev Shape : Format → ℕ → Type 0
Shape f X = (M : ℕ) × (i : ℕ) × (M < 2 ^ prec f) × (X ≡ M * 2 ^ i)

power_le : (a b : ℕ) → 2 ^ a ≤ 2 ^ b → a ≤ b
power_le a b h = le_of_suc-le-suc (lt_of_not-le (λ (g : suc b ≤ a). lt_irrefl (2 ^ b) (lt_of_lt_of_le (pow-lt g) h)))

value-shape : (f : Format) (m : ℕ) (e : ℤ) → m < 2 ^ prec f → down e ≤ 2 ^ low f → Shape f (m * up e * 2 ^ low f / down e)
value-shape f m (pos k) h d = (
  m,
  k + low f,
  h,
  div-one (m * 2 ^ k * 2 ^ low f) ∙ mul_assoc m (2 ^ k) (2 ^ low f) ∙ ap (λ (x : ℕ). m * x) (sym (pow-add 2 k (low f))),
)
value-shape f m (negsuc k) h d = (
  m,
  low f - suc k,
  h,
  ap (λ (x : ℕ). x * 2 ^ low f / 2 ^ suc k) (mul-one m)
      ∙ ap (λ (x : ℕ). m * x / 2 ^ suc k)
      (ap (λ (x : ℕ). 2 ^ x) (sym (sub-add_cancel (power_le (suc k) (low f) d))) ∙ pow-add 2 (low f - suc k) (suc k))
      ∙ ap (λ (x : ℕ). x / 2 ^ suc k) (sym (mul_assoc m (2 ^ (low f - suc k)) (2 ^ suc k)))
      ∙ mul-div_cancel (m * 2 ^ (low f - suc k)) (pow_pos (suc k)),
)

shape : (f : Format) (y : Float) → T (fits f y) → Shape f (magnitude f y)
unfolding magnitude
shape f nan t = (0, 0, pow_pos (prec f), refl)
shape f (inf s) t = (0, 0, pow_pos (prec f), refl)
shape f (fin s m e) t = let h = held f s m e t in value-shape f m e h.digits h.fine

-- ---- no value of p digits lies between q * 2 ^ k and (q + 1) * 2 ^ k, for a q of p digits
no-value-between : (p M i k q Y : ℕ) → 0 < p → M < 2 ^ p → Y ≡ M * 2 ^ i → 2 ^ (p - 1) ≤ q → q * 2 ^ k < Y → suc q * 2 ^ k ≤ Y
no-value-between p M i k q Y P h e lo l = go (dec_le k i)
  where
    room : (i < k) → p + i ≤ p - 1 + k
    room g = omega arith

    under : (k ≤ i → ⊥) → i < k
    under g = omega arith

    back : k ≤ i → i - k + k ≡ i
    back g = omega arith

    go : Dec (k ≤ i) → suc q * 2 ^ k ≤ Y
    go (yes g) =
        let Z = M * 2 ^ (i - k) in
        let is : Y ≡ Z * 2 ^ k = e ∙ ap (λ (x : ℕ). M * 2 ^ x) (sym (back g))
        ∙ ap (λ (x : ℕ). M * x) (pow-add 2 (i - k) k) ∙ sym (mul_assoc M (2 ^ (i - k)) (2 ^ k)) in
        le_trans (mul-le-mul_right (2 ^ k) (lt_of_mul-lt-mul_right (2 ^ k) (lt_of_lt_of_le l (le_of_eq is)))) (le_of_eq (sym is))
    go (no n) =
        absurd (not-le_of_lt l
        (le_trans (le_of_eq e)
        (le_trans (le_of_lt (shl_lt p i h))
        (le_trans (pow_mono (room (under n))) (le_trans (le_of_eq (pow-add 2 (p - 1) k)) (mul-le-mul_right (2 ^ k) lo))))))

-- ---- which of Q0 and Q1 is nearer to the root of a, of two numbers around it with no value between
abbrev Beats : ℕ → ℕ → ℕ → Type 0
Beats a R Y = (R < Y → 4 * a < (R + Y) * (R + Y)) × (Y < R → (R + Y) * (R + Y) < 4 * a)

module _ (a Q0 Q1 Y : ℕ) (lower : Q0 * Q0 ≤ a) (upper : a < Q1 * Q1) (gap : Q0 < Y → Q1 ≤ Y) where
  lower-beats : 4 * a < (Q0 + Q1) * (Q0 + Q1) → Beats a Q0 Y
  lower-beats h = (λ l. lt_of_lt_of_le h (square_le (Q0 + Q1) (Q0 + Y) (more (gap l))), λ l. lt_of_lt_of_le (strict l) twice)
    where
      more : Q1 ≤ Y → Q0 + Q1 ≤ Q0 + Y
      more g = omega arith

      twice : (Q0 + Q0) * (Q0 + Q0) ≤ 4 * a
      twice = omega arith

      strict : Y < Q0 → (Q0 + Y) * (Q0 + Y) < (Q0 + Q0) * (Q0 + Q0)
      strict l = lt_of_not-le (λ g. not-le_of_lt (sum l) (root-le g))
        where
          sum : Y < Q0 → Q0 + Y < Q0 + Q0
          sum k = omega arith

          root-le : (Q0 + Q0) * (Q0 + Q0) ≤ (Q0 + Y) * (Q0 + Y) → Q0 + Q0 ≤ Q0 + Y
          root-le g = le_of_suc-le-suc (square-lt (Q0 + Q0) (suc (Q0 + Y)) (lt_of_le_of_lt g (grows (Q0 + Y))))
            where
              grows : (x : ℕ) → x * x < suc x * suc x
              grows x = omega arith

  upper-beats : (Q0 + Q1) * (Q0 + Q1) < 4 * a → Beats a Q1 Y
  upper-beats h = (
    λ l. lt_of_lt_of_le twice (square_le (Q1 + Q1) (Q1 + Y) (more l)),
    λ l. lt_of_le_of_lt (square_le (Q1 + Y) (Q0 + Q1) (less (under l))) h,
  )
    where
      more : Q1 < Y → Q1 + Q1 ≤ Q1 + Y
      more g = omega arith

      twice : 4 * a < (Q1 + Q1) * (Q1 + Q1)
      twice = omega arith

      under : Y < Q1 → Y ≤ Q0
      under l = le_of_suc-le-suc (lt_of_not-le (λ (g : suc Q0 ≤ Y). not-le_of_lt l (gap g)))

      less : Y ≤ Q0 → Q1 + Y ≤ Q0 + Q1
      less g = omega arith

-- ---- no tie: a is a multiple of 4 ^ k, and an odd square is none of 4
no_tie : (p M j k q a : ℕ) → 2 ≤ p → M < 2 ^ p → a ≡ M * 2 ^ j → 2 ^ (p - 1) ≤ q → q * 2 ^ k * (q * 2 ^ k) ≤ a
    → 4 * a ≡ (2 * q + 1) * 2 ^ k * ((2 * q + 1) * 2 ^ k) → ⊥
no_tie p M j k q a P h e lo b t = go (dec_le (k + k) j)
  where
    room : j < k + k → p + j ≤ p - 1 + k + (p - 1 + k)
    room g = omega arith

    under : (k + k ≤ j → ⊥) → j < k + k
    under g = omega arith

    back : k + k ≤ j → j - (k + k) + (k + k) ≡ j
    back g = omega arith

    odd-square : (N : ℕ) → 4 * N ≡ (2 * q + 1) * (2 * q + 1) → ⊥
    odd-square N o = omega arith

    go : Dec (k + k ≤ j) → ⊥
    go (yes g) =
        let N = M * 2 ^ (j - (k + k)) in
        let is : a ≡ N * (2 ^ k * 2 ^ k) = e ∙ ap (λ (x : ℕ). M * 2 ^ x) (sym (back g))
        ∙ ap (λ (x : ℕ). M * x) (pow-add 2 (j - (k + k)) (k + k)
        ∙ ap (λ (x : ℕ). 2 ^ (j - (k + k)) * x) (pow-add 2 k k))
        ∙ sym (mul_assoc M (2 ^ (j - (k + k))) (2 ^ k * 2 ^ k)) in
        odd-square N
        (eq_of_mul-eq-mul_right (2 ^ k * 2 ^ k) (mul-pos (pow_pos k) (pow_pos k)) (4 * N) ((2 * q + 1) * (2 * q + 1))
        (mul_assoc 4 N (2 ^ k * 2 ^ k) ∙ ap (λ (x : ℕ). 4 * x) (sym is) ∙ t ∙ mul-mul-mul_comm (2 * q + 1) (2 ^ k) (2 * q + 1) (2 ^ k)))
    go (no n) =
        not-le_of_lt (lt_of_le_of_lt (le_of_eq e) (shl_lt p j h))
        (le_trans (pow_mono (room (under n)))
        (le_trans (le_of_eq (pow-add 2 (p - 1 + k) (p - 1 + k) ∙ ap (λ (x : ℕ). x * x) (pow-add 2 (p - 1) k)))
        (le_trans (square_le (2 ^ (p - 1) * 2 ^ k) (q * 2 ^ k) (mul-le-mul_right (2 ^ k) lo)) b)))

-- ---- of a format: its smallest root has all the digits, and its largest is below the infinity
digits-enough : (f : Format) → prec f - 1 + (prec f - 1) ≤ low f
digits-enough binary32 = lit≤ tt
digits-enough binary64 = lit≤ tt

two-exponents : (f : Format) → 2 ≤ suc (emax f)
two-exponents binary32 = lit≤ tt
two-exponents binary64 = lit≤ tt

power-lt : (a b : ℕ) → 2 ^ a < 2 ^ b → a < b
power-lt a b h = lt_of_not-le (λ (g : b ≤ a). not-le_of_lt h (pow_mono g))

-- the whole root of some units has all the digits that the format keeps
pub root-digits : (f : Format) (n : ℕ) → 0 < n → prec f ≤ size (whole_root (n * 2 ^ low f))
root-digits f n N =
    let p = prec f in
    let a = n * 2 ^ low f in
    next (power-lt (p - 1) (size (whole_root a))
    (lt_of_le_of_lt
    (le_of_suc-le-suc
    (square-lt (2 ^ (p - 1)) (suc (whole_root a))
    (lt_of_le_of_lt
    (le_trans (le_of_eq (sym (pow-add 2 (p - 1) (p - 1))))
    (le_trans (pow_mono (digits-enough f))
    (le_trans (le_of_eq (sym (one-mul (2 ^ low f)))) (mul-le-mul_right (2 ^ low f) N))))
    (whole-root a).1)))
    (size-lt (whole_root a))))
  where
    next : prec f - 1 < size (whole_root (n * 2 ^ low f)) → prec f ≤ size (whole_root (n * 2 ^ low f))
    next h = omega arith

-- ---- the root of X units, for an X above 0 that is a value's magnitude
module _ (f : Format) (x : Float) (X : ℕ) (X-is : magnitude f x ≡ X) (X-pos : 0 < X) (X-shape : Shape f X)
    (X-under : X < 2 ^ (low f + suc (emax f))) where
  abbrev p : ℕ
  p = prec f

  abbrev a : ℕ
  a = X * 2 ^ low f

  abbrev k : ℕ
  k = dropped p a

  abbrev q : ℕ
  q = kept p a

  P : 0 < p
  P = two-le_pos p (two f)

  q-lo : 2 ^ (p - 1) ≤ q
  q-lo = kept-ge p a P (root-digits f X X-pos)

  q-pos : 0 < q
  q-pos = lt_of_lt_of_le (pow_pos (p - 1)) q-lo

  in-range : p + k < low f + suc (emax f)
  in-range =
      half
      (power-lt (p - 1 + k + (p - 1 + k)) (low f + suc (emax f) + low f)
      (lt_of_le_of_lt
      (le_trans (le_of_eq (pow-add 2 (p - 1 + k) (p - 1 + k) ∙ ap (λ (z : ℕ). z * z) (pow-add 2 (p - 1) k)))
      (le_trans (square_le (2 ^ (p - 1) * 2 ^ k) (q * 2 ^ k) (mul-le-mul_right (2 ^ k) q-lo)) (bracket p a).0))
      (shl_lt (low f + suc (emax f)) (low f) X-under)))
      (two-exponents f)
    where
      half : p - 1 + k + (p - 1 + k) < low f + suc (emax f) + low f → 2 ≤ suc (emax f) → p + k < low f + suc (emax f)
      half h g = omega arith

  middle : q * 2 ^ k + suc q * 2 ^ k ≡ (2 * q + 1) * 2 ^ k
  middle = sym (add-mul q (suc q) (2 ^ k)) ∙ ap (λ (z : ℕ). z * 2 ^ k) sum
    where
      sum : q + suc q ≡ 2 * q + 1
      sum = omega arith

  finish : (N : ℕ) → 0 < N → N ≤ 2 ^ p → ((Y : ℕ) → Shape f Y → Beats a (N * 2 ^ k) Y) → NearestRoot f x (units f false N k)
  finish N N-pos N-le beats =
      let r = units f false N k in
      let l : N * 2 ^ k < 2 ^ (low f + suc (emax f)) =
      lt_of_le_of_lt (mul-le-mul_right (2 ^ k) N-le)
      (lt_of_le_of_lt (le_of_eq (sym (pow-add 2 p k))) (pow-lt in-range)) in
      let v : HasValue r false (N * 2 ^ k) (2 ^ low f) = units_val f false N k l in
      let b : (y : Float) → T (fits f y) → Beats (magnitude f x * 2 ^ low f) (magnitude f r) (magnitude f y) =
      λ y t. subst (λ (z : ℕ). Beats (z * 2 ^ low f) (magnitude f r) (magnitude f y)) (sym X-is)
      (subst (λ (z : ℕ). Beats a z (magnitude f y)) (sym (magnitude-at f r (N * 2 ^ k) v)) (beats (magnitude f y) (shape f y t))) in
      record {
        holds = subst (λ (z : Float). T (fits f z)) (sym (units-is f N k l))
            (odd-fits f (suc p) false N k (lt_of_le_of_lt N-le (pow-lt (le_refl (suc p)))) N-le l);
        above_zero = positive_of_value r (N * 2 ^ k) (2 ^ low f) v (mul-pos N-pos (pow_pos k));
        nearer = λ y t. record { above = (b y t).0; below = (b y t).1 };
      }

  gap : (Y : ℕ) → Shape f Y → q * 2 ^ k < Y → suc q * 2 ^ k ≤ Y
  gap Y s l = no-value-between p s.0 s.1 k q Y P s.2 s.3 q-lo l

  by_order : (o : Ordering) → Compared o (4 * a) ((2 * q + 1) * 2 ^ k * ((2 * q + 1) * 2 ^ k))
      → NearestRoot f x (units f false (nearest q o) k)
  by_order Ordering.lt c =
      finish q q-pos (le_of_lt (kept_under p a))
      (λ Y s. lower-beats a (q * 2 ^ k) (suc q * 2 ^ k) Y (bracket p a).0 (bracket p a).1 (gap Y s)
      (lt_of_lt_of_le c (le_of_eq (ap (λ (z : ℕ). z * z) (sym middle)))))
  by_order Ordering.gt c =
      finish (suc q) (lt_of_lt_of_le q-pos (le_of_lt (le_refl (suc q)))) (kept_under p a)
      (λ Y s. upper-beats a (q * 2 ^ k) (suc q * 2 ^ k) Y (bracket p a).0 (bracket p a).1 (gap Y s)
      (lt_of_le_of_lt (le_of_eq (ap (λ (z : ℕ). z * z) middle)) c))
  by_order Ordering.eq c =
      absurd (no_tie p X-shape.0 (X-shape.1 + low f) k q a (two f) X-shape.2
      (ap (λ (z : ℕ). z * 2 ^ low f) X-shape.3 ∙ mul_assoc X-shape.0 (2 ^ X-shape.1) (2 ^ low f)
      ∙ ap (λ (z : ℕ). X-shape.0 * z) (sym (pow-add 2 X-shape.1 (low f))))
      q-lo (bracket p a).0 c)

  of-units : NearestRoot f x (root_of_units f X)
  of-units = subst (λ (r : Float). NearestRoot f x r) (sym (root_is f X))
      (by_order (compare (4 * a) ((2 * q + 1) * 2 ^ k * ((2 * q + 1) * 2 ^ k)))
      (compared (4 * a) ((2 * q + 1) * 2 ^ k * ((2 * q + 1) * 2 ^ k))))

-- ---- the theorem
-- the bounds of a value above zero that the format holds
bounds : (f : Format) (m : ℕ) (e : ℤ) → T (fits f (fin false (suc m) e)) → (0 < magnitude f (fin false (suc m) e))
    × (magnitude f (fin false (suc m) e) < 2 ^ (low f + suc (emax f)))
unfolding magnitude
bounds f m e t =
    let h = held f false (suc m) e t in (
      (le-div_iff_mul-le (down_pos e)).1
          (le_trans (le_of_eq (one-mul (down e)))
          (le_trans h.fine (le_trans (le_of_eq (sym (one-mul (2 ^ low f))))
          (mul-le-mul_right (2 ^ low f) (mul-pos (zero-lt-suc m) (up_pos e)))))),
      (div-lt_iff_lt-mul (down_pos e)).1
          (lt_of_lt_of_le (mul-lt-mul_of_pos_right h.under (pow_pos (low f)))
          (le_of_eq (mul_right_comm (2 ^ suc (emax f)) (down e) (2 ^ low f)
          ∙ ap (λ (z : ℕ). z * down e) (mul_comm (2 ^ suc (emax f)) (2 ^ low f)
          ∙ sym (pow-add 2 (low f) (suc (emax f))))))),
    )

pub nearest-root : (f : Format) (x : Float) → T (fits f x) → T (positive x) → NearestRoot f x (square_root f x)
unfolding square_root
nearest-root f nan t h = absurd h
nearest-root f (inf s) t h = absurd h
nearest-root f (fin true m e) t h = absurd h
nearest-root f (fin false zero e) t h = absurd h
nearest-root f (fin false (suc m) e) t h =
    let v = fin false (suc m) e in
    let b = bounds f m e t in
    of-units f v (magnitude f v) refl b.0 (shape f v t) b.1

-- ---- there is only one such value
magnitudes : (f : Format) (x r s : Float) → NearestRoot f x r → NearestRoot f x s → magnitude f r < magnitude f s → ⊥
magnitudes f x r s h k l = clash (magnitude f r) (magnitude f s) (4 * (magnitude f x * 2 ^ low f))
    ((h.nearer s k.holds).above l) ((k.nearer r h.holds).below l)
  where
    clash : (a b c : ℕ) → c < (a + b) * (a + b) → (b + a) * (b + a) < c → ⊥
    clash a b c u v = omega arith

-- a positive value's pattern goes by its magnitude alone
by-magnitude : (f : Format) (r s : Float) → T (positive r) → T (positive s) → magnitude f r ≡ magnitude f s → to_bits f r ≡ to_bits f s
unfolding to_bits magnitude
by-magnitude f nan s p q h = elim p [ ]
by-magnitude f (inf _) s p q h = elim p [ ]
by-magnitude f (fin false m e) nan p q h = elim q [ ]
by-magnitude f (fin false m e) (inf _) p q h = elim q [ ]
by-magnitude f (fin false m e) (fin true n d) p q h = elim q [ ]
by-magnitude f (fin true m e) s p q h = elim p [ ]
by-magnitude f (fin false m e) (fin false n d) p q h = ap (λ (z : ℕ). 0 + (size z - prec f) * hid f + z / 2 ^ (size z - prec f)) h

pub nearest-unique : (f : Format) (x r s : Float) → NearestRoot f x r → NearestRoot f x s → r ≡ s
nearest-unique f x r s h k =
    sym (of_bits-to_bits f r h.holds)
    ∙ ap (λ (b : ℕ). of_bits f b) (by-magnitude f r s h.above_zero k.above_zero
    (same (magnitude f r) (magnitude f s) (magnitudes f x r s h k) (magnitudes f x s r k h)))
    ∙ of_bits-to_bits f s k.holds
  where
    same : (a b : ℕ) → (a < b → ⊥) → (b < a → ⊥) → a ≡ b
    same a b u v = omega arith

-- ---- laws for callers
-- The root grows with its argument: by magnitudes, and as values.
pub root-mono : (f : Format) (x y : Float) → T (fits f x) → T (positive x) → T (fits f y) → T (positive y)
    → magnitude f x ≤ magnitude f y → magnitude f (square_root f x) ≤ magnitude f (square_root f y)
root-mono f x y s p t q h = le_of_suc-le-suc (lt_of_not-le contrary)
  where
    contrary : suc (magnitude f (square_root f y)) ≤ magnitude f (square_root f x) → ⊥
    contrary l =
        let u = nearest-root f x s p in
        let v = nearest-root f y t q in
        clash (magnitude f (square_root f x)) (magnitude f (square_root f y)) (magnitude f x * 2 ^ low f) (magnitude f y * 2 ^ low f)
        (mul-le-mul_right (2 ^ low f) h) ((u.nearer (square_root f y) v.holds).below l) ((v.nearer (square_root f x) u.holds).above l)
      where
        clash : (r s a b : ℕ) → a ≤ b → (r + s) * (r + s) < 4 * a → 4 * b < (s + r) * (s + r) → ⊥
        clash r s a b g i j = omega arith

multiple : (n Z D : ℕ) → 0 < D → n ≡ Z * D → n ≡ n / D * D
multiple n Z D h e = e ∙ ap (λ (x : ℕ). x * D) (sym (mul-div_cancel Z h)) ∙ ap (λ (x : ℕ). x / D * D) (sym e)

-- a finite value that the format holds is a whole number of units: the division that `magnitude` makes leaves nothing over
pub whole-units : (f : Format) (m : ℕ) (e : ℤ) → down e ≤ 2 ^ low f → m * up e * 2 ^ low f ≡ m * up e * 2 ^ low f / down e * down e
whole-units f m (pos k) d = multiple (m * 2 ^ k * 2 ^ low f) (m * 2 ^ k * 2 ^ low f) 1 (pow_pos 0) (sym (mul-one (m * 2 ^ k * 2 ^ low f)))
whole-units f m (negsuc k) d =
    multiple (m * 1 * 2 ^ low f) (m * 1 * 2 ^ (low f - suc k)) (2 ^ suc k) (pow_pos (suc k))
    (ap (λ (x : ℕ). m * 1 * x) (ap (λ (x : ℕ). 2 ^ x) (sym (sub-add_cancel (power_le (suc k) (low f) d)))
    ∙ pow-add 2 (low f - suc k) (suc k)) ∙ sym (mul_assoc (m * 1) (2 ^ (low f - suc k)) (2 ^ suc k)))

in-units : (f : Format) (x : Float) → T (fits f x) → T (positive x) → HasValue x false (magnitude f x) (2 ^ low f)
unfolding magnitude
in-units f nan t p = elim p [ ]
in-units f (inf _) t p = elim p [ ]
in-units f (fin true m e) t p = elim p [ ]
in-units f (fin false m e) t p = (refl, whole-units f m e (held f false m e t).fine)

pub root-keeps-order : (f : Format) (x y : Float) → T (fits f x) → T (positive x) → T (fits f y) → T (positive y)
    → T (le x y) → T (le (square_root f x) (square_root f y))
root-keeps-order f x y s p t q h =
    let U = 2 ^ low f in
    let u = nearest-root f x s p in
    let v = nearest-root f y t q in
    le_of_values (square_root f x) (square_root f y) (magnitude f (square_root f x)) U (magnitude f (square_root f y)) U
    (pow_pos (low f)) (pow_pos (low f))
    (in-units f (square_root f x) u.holds u.above_zero) (in-units f (square_root f y) v.holds v.above_zero)
    (mul-le-mul_right U (root-mono f x y s p t q
    (le_of_mul-le-mul_right (values_of_le x y (magnitude f x) U (magnitude f y) U p q (in-units f x s p)
    (in-units f y t q) h) (pow_pos (low f)))))

-- Where x is the square of a value r of the format, its root is r.
pub root-of-square : (f : Format) (x r : Float) → T (fits f x) → T (positive x) → T (fits f r) → T (positive r)
    → magnitude f x * 2 ^ low f ≡ magnitude f r * magnitude f r → square_root f x ≡ r
root-of-square f x r s p t q e =
    nearest-unique f x (square_root f x) r (nearest-root f x s p)
    (record {
      holds = t;
      above_zero = q;
      nearer = λ y u. record {
        above = above (magnitude f r) (magnitude f y) (magnitude f x * 2 ^ low f) e;
        below = below (magnitude f r) (magnitude f y) (magnitude f x * 2 ^ low f) e;
      };
    })
  where
    above : (R Y a : ℕ) → a ≡ R * R → R < Y → 4 * a < (R + Y) * (R + Y)
    above R Y a g l = lt_of_lt_of_le (step g) (square_le (suc (R + R)) (R + Y) (sum l))
      where
        sum : R < Y → suc (R + R) ≤ R + Y
        sum k = omega arith

        step : a ≡ R * R → 4 * a < suc (R + R) * suc (R + R)
        step k = omega arith

    below : (R Y a : ℕ) → a ≡ R * R → Y < R → (R + Y) * (R + Y) < 4 * a
    below R Y a g l = lt_of_lt_of_le (step (R + Y)) (le_trans (square_le (suc (R + Y)) (R + R) (sum l)) (le_of_eq (same g)))
      where
        sum : Y < R → suc (R + Y) ≤ R + R
        sum k = omega arith

        step : (z : ℕ) → z * z < suc z * suc z
        step z = omega arith

        same : a ≡ R * R → (R + R) * (R + R) ≡ 4 * a
        same k = omega arith
