-- The operations on finite values, in units: a sum or a difference is the exact integer, rounded (`add_rounds`, `sub-rounds`),
-- a product is a rounded fraction (`mul-rounds`), and a comparison is one of integers (`lt-value`, `le-value`, `value-le`). In
-- either format. Assumes nothing.
use mathlib.Core.Path.{◌≡◌, refl, sym, ap, ◌∙◌, subst}
use mathlib.Core.Logic.{◌⊎◌, inl, inr}
use Prim.Native.Nat.{ℕ, zero, suc, ◌+◌, ◌-◌, ◌*◌, ◌/◌, ◌^◌, ◌≤◌, ◌<◌, zero-le}
use native.Mathlib.Nat.{le_trans, le_of_eq, le_of_lt, lt_of_lt_of_le, lt_of_le_of_lt, not-le_of_lt, lt_irrefl}
use native.Mathlib.Nat.{eq-zero-or-pos, zero-mul, mul-zero, add-zero, mul-one, mul_comm, mul_assoc}
use native.Mathlib.Nat.{mul_right_comm, mul-mul-mul_comm, add-mul, mul-sub, mul-pos, mul-lt-mul_of_pos_right, mul-le-mul_right}
use native.Mathlib.Nat.{lt_of_mul-lt-mul_right, le_of_mul-le-mul_right, mul-div_cancel}
use native.Mathlib.Omega.{arith}
use mathlib.Core.Bool.{Bool, true, false, not, ◌&&◌, cond}
use lib.Dec.{T, ltb, ltb→lt, nltb→le}
use borrow.Author.Tests.{le-ltb, ltb-false}
use lib.IntN.{ℤ, pos, negsuc, neg_ℤ, nat_abs, pos-ne-negsuc, ◌+ℤ◌, ◌-ℤ◌, ◌*ℤ◌, +ℤ_comm}
use lib.Pow.{pow_pos}
use lib.Ieee.{Float, nan, inf, fin, Format, prec, emax, low, up, down, unlike, odd, units, round, neg, sum, add, sub, mul}
use lib.Ieee.{lt, le, eq, fits, below}
use lib.Ieee.Fits.{two, two-le_pos, down_pos, round_is, round-fits, neg-fits}
use lib.Ieee.Exact.{HasValue, units_val}
use lib.Ieee.Order.{drop, kept}
use lib.Ieee.Bits.{is_true}
use lib.Ieee.Scale.{finite, overflow}
use Rattle.doubles_sqrt.specs.Root.{magnitude}
use Rattle.doubles_sqrt.proofs.Nearest.{whole-units}
use Rattle.doubles.proofs.Held.{held}
use Rattle.doubles.specs.Doubles.{Number}
use Rattle.doubles.proofs.Order.{not-lt→le, le→not-lt}
use Rattle.doubles.proofs.Ranges.{finite_number}
use Rattle.doubles_rounding.specs.Units.{signed, signed_magnitude, HasUnits}
use Rattle.doubles_rounding.proofs.IntegerParts.{plus, minus, add_parts, neg-parts, parts-eq}
use Rattle.doubles_rounding.proofs.Rounding.{round_ratio, round_whole, whole-error, whole_le, ratio-same, ratio-zero}

-- ---- a value by the fraction that it equals
pub units-at : (f : Format) (x : Float) (s : Bool) (X : ℕ) → HasValue x s X (2 ^ low f) → signed_magnitude f x ≡ signed s X
unfolding signed_magnitude magnitude
units-at f nan s X h = absurd h
units-at f (inf t) s X h = absurd h
units-at f (fin t m e) s X h = ap (λ (u : Bool). signed u (m * up e * 2 ^ low f / down e)) h.0
    ∙ ap (λ (n : ℕ). signed s n) (ap (λ (n : ℕ). n / down e) h.1 ∙ mul-div_cancel X (down_pos e))

finite-at : (x : Float) (s : Bool) (a c : ℕ) → HasValue x s a c → T (finite x)
finite-at nan s a c h = absurd h
finite-at (inf t) s a c h = absurd h
finite-at (fin t m e) s a c h = tt

-- a value that the format holds is a whole number of units
pub units-exact : (f : Format) (s : Bool) (m : ℕ) (e : ℤ) → T (fits f (fin s m e)) → m * up e * 2 ^ low f ≡ magnitude f (fin s m e) * down e
unfolding magnitude
units-exact f s m e t = whole-units f m e (held f s m e t).fine

-- a value of n units above 0; a zero may have either sign
value-at-fin : (f : Format) (s : Bool) (m : ℕ) (e : ℤ) (n : ℕ) → T (fits f (fin s m e))
    → signed s (magnitude f (fin s m e)) ≡ pos n → 0 < n → HasValue (fin s m e) false n (2 ^ low f)
value-at-fin f false m e n t h P = (refl, units-exact f false m e t ∙ ap (λ (z : ℤ). nat_abs z * down e) h)
value-at-fin f true m e n t h P = absurd (clash (magnitude f (fin true m e)) h)
  where
    clash : (k : ℕ) → neg_ℤ (pos k) ≡ pos n → ⊥
    clash zero g = lt_irrefl 0 (subst (λ (x : ℕ). 0 < x) (sym (ap nat_abs g)) P)
    clash (suc k) g = pos-ne-negsuc n k (sym g)

pub value-at : (f : Format) (x : Float) (n : ℕ) → HasUnits f x (pos n) → 0 < n → HasValue x false n (2 ^ low f)
unfolding signed_magnitude
value-at f x n v P = go x v.held v.finite v.units
  where
    go : (x : Float) → T (fits f x) → T (finite x) → signed_magnitude f x ≡ pos n → HasValue x false n (2 ^ low f)
    go nan t u h = absurd u
    go (inf s) t u h = absurd u
    go (fin s m e) t u h = value-at-fin f s m e n t h P

-- ---- a rounded fraction, in units
round-value : (f : Format) (s : Bool) (a c : ℕ) → round_ratio (prec f) (a * 2 ^ low f) c < overflow f
    → HasUnits f (round f s a c) (signed s (round_ratio (prec f) (a * 2 ^ low f) c))
round-value f s a c h =
    let n = a * 2 ^ low f in
    let v : HasValue (round f s a c) s (round_ratio (prec f) n c) (2 ^ low f) =
    subst (λ (x : Float). HasValue x s (round_ratio (prec f) n c) (2 ^ low f)) (sym (round_is f s a c))
    (units_val f s (kept (prec f) n c) (drop (prec f) n c) h) in
    record {
      held = round-fits f s a c;
      finite = finite-at (round f s a c) s (round_ratio (prec f) n c) (2 ^ low f) v;
      units = units-at f (round f s a c) s (round_ratio (prec f) n c) v;
    }

units-over : (f : Format) (s : Bool) (q k : ℕ) → ltb (q * 2 ^ k) (2 ^ (low f + suc (emax f))) ≡ false → units f s q k ≡ inf s
unfolding units
units-over f s q k h = ap (λ (b : Bool). cond b (odd (suc (prec f)) s q k (low f)) (inf s)) h

-- ---- an integer over c, rounded: its size is rounded, and its sign stays
abbrev pub round_ratio_ℤ : ℕ → ℕ → ℤ → ℤ
round_ratio_ℤ p c (pos n) = pos (round_ratio p n c)
round_ratio_ℤ p c (negsuc n) = neg_ℤ (pos (round_ratio p (suc n) c))

-- a whole number of units, rounded
abbrev pub round_whole_ℤ : ℕ → ℤ → ℤ
round_whole_ℤ p z = round_ratio_ℤ p 1 z

-- tp - tm, rounded, is wp - wm: how far it goes either way, for N = 2 ^ p, and its size
pub record NearUnits (N tp tm wp wm : ℕ) : Type 0 where
  pub low : N * (tp + wm) ≤ N * (wp + tm) + (tp + tm)
  pub high : N * (wp + tm) ≤ N * (tp + wm) + (tp + tm)
  pub size : wp + wm ≤ 2 * (tp + tm)

pub whole_ℤ-error : (p : ℕ) (z : ℤ) → 0 < p → NearUnits (2 ^ p) (plus z) (minus z) (plus (round_whole_ℤ p z)) (minus (round_whole_ℤ p z))
whole_ℤ-error p (pos n) h = by (2 ^ p) (round_whole p n) (whole-error p n h).0 (whole-error p n h).1 (whole_le p n h)
  where
    by : (N G : ℕ) → N * G ≤ N * n + n → N * n ≤ N * G + n → G ≤ 2 * n → NearUnits N n 0 G 0
    by N G a b c = record { low = omega arith; high = omega arith; size = omega arith }
whole_ℤ-error p (negsuc n) h =
    let G = round_whole p (suc n) in
    subst (λ (x : ℕ). NearUnits (2 ^ p) 0 (suc n) x (minus (neg_ℤ (pos G)))) (sym (neg-parts (pos G)).0)
    (subst (λ (x : ℕ). NearUnits (2 ^ p) 0 (suc n) 0 x) (sym (neg-parts (pos G)).1)
    (by (2 ^ p) (suc n) G (whole-error p (suc n) h).0 (whole-error p (suc n) h).1 (whole_le p (suc n) h)))
  where
    by : (N k G : ℕ) → N * G ≤ N * k + k → N * k ≤ N * G + k → G ≤ 2 * k → NearUnits N 0 k 0 G
    by N k G a b c = record { low = omega arith; high = omega arith; size = omega arith }

abbrev pub is_negative : ℤ → Bool
is_negative (pos n) = false
is_negative (negsuc n) = true

-- x is z / c units, rounded: a finite value, or from `overflow` units on an infinity
pub record Rounds (f : Format) (c : ℕ) (z : ℤ) (x : Float) : Type 0 where
  pub value : round_ratio (prec f) (nat_abs z) c < overflow f → HasUnits f x (round_ratio_ℤ (prec f) c z)
  pub beyond : overflow f ≤ round_ratio (prec f) (nat_abs z) c → x ≡ inf (is_negative z)

-- a format has digits
pub prec-pos : (f : Format) → 0 < prec f
prec-pos f = two-le_pos (prec f) (two f)

round-signed : (p c : ℕ) (s : Bool) (n : ℕ) → 0 < p → 0 < c → round_ratio_ℤ p c (signed s n) ≡ signed s (round_ratio p n c)
round-signed p c false n P C = refl
round-signed p c true zero P C = ap pos (ratio-zero p c P C) ∙ ap (λ (x : ℕ). neg_ℤ (pos x)) (sym (ratio-zero p c P C))
round-signed p c true (suc n) P C = refl

abs-signed : (s : Bool) (n : ℕ) → nat_abs (signed s n) ≡ n
abs-signed false n = refl
abs-signed true zero = refl
abs-signed true (suc n) = refl

negative-signed : (s : Bool) (n : ℕ) → 0 < n → is_negative (signed s n) ≡ s
negative-signed false n h = refl
negative-signed true zero h = absurd (lt_irrefl 0 h)
negative-signed true (suc n) h = refl

round-beyond : (f : Format) (s : Bool) (a c : ℕ) → overflow f ≤ round_ratio (prec f) (a * 2 ^ low f) c → round f s a c ≡ inf s
round-beyond f s a c h = round_is f s a c ∙ over (kept (prec f) (a * 2 ^ low f) c) (drop (prec f) (a * 2 ^ low f) c) h
  where
    over : (q k : ℕ) → overflow f ≤ q * 2 ^ k → units f s q k ≡ inf s
    over q k g = units-over f s q k (le-ltb (q * 2 ^ k) (overflow f) g)

-- n / c units, where n / c / 2 ^ low is the fraction a / d
round-units : (f : Format) (s : Bool) (a d n c : ℕ) (z : ℤ) → 0 < d → 0 < c → a * 2 ^ low f * c ≡ n * d
    → z ≡ signed s n → Rounds f c z (round f s a d)
round-units f s a d n c z D C e is = record {
  value = λ h. subst (λ (x : ℤ). HasUnits f (round f s a d) x)
      (ap (λ (x : ℕ). signed s x) same
      ∙ sym (ap (λ (x : ℤ). round_ratio_ℤ (prec f) c x) is ∙ round-signed (prec f) c s n (prec-pos f) C))
      (round-value f s a d (lt_of_le_of_lt (le_of_eq size) h));
  beyond = λ h. round-beyond f s a d (le_trans h (le_of_eq (sym size)))
      ∙ ap inf (sym (ap is_negative is ∙ negative-signed s n (some (eq-zero-or-pos n) h)));
}
  where
    same : round_ratio (prec f) (a * 2 ^ low f) d ≡ round_ratio (prec f) n c
    same = ratio-same (prec f) (a * 2 ^ low f) d n c D C e

    abs : nat_abs z ≡ n
    abs = ap nat_abs is ∙ abs-signed s n

    size : round_ratio (prec f) (a * 2 ^ low f) d ≡ round_ratio (prec f) (nat_abs z) c
    size = same ∙ ap (λ (x : ℕ). round_ratio (prec f) x c) (sym abs)

    -- a zero does not overflow
    some : (n ≡ 0) ⊎ (0 < n) → overflow f ≤ round_ratio (prec f) (nat_abs z) c → 0 < n
    some (inl g) h = absurd (lt_irrefl 0
        (lt_of_lt_of_le (pow_pos (low f + suc (emax f)))
        (le_trans h (le_of_eq (ap (λ (x : ℕ). round_ratio (prec f) x c) (abs ∙ g) ∙ ratio-zero (prec f) c (prec-pos f) C)))))
    some (inr g) h = g

-- ---- the exact sum of two values with signs
signed_same : (s : Bool) (X Y : ℕ) → signed s X +ℤ signed s Y ≡ signed s (X + Y)
signed_same false X Y = refl
signed_same true X Y =
    parts-eq (neg_ℤ (pos X) +ℤ neg_ℤ (pos Y)) (neg_ℤ (pos (X + Y)))
    (omega (arith, add_parts (neg_ℤ (pos X)) (neg_ℤ (pos Y)), neg-parts (pos X), neg-parts (pos Y), neg-parts (pos (X + Y))))

signed-unlike : (s : Bool) (X Y : ℕ) → Y ≤ X → signed s X +ℤ signed (not s) Y ≡ signed s (X - Y)
signed-unlike false X Y h =
    parts-eq (pos X +ℤ neg_ℤ (pos Y)) (pos (X - Y))
    (omega (arith, add_parts (pos X) (neg_ℤ (pos Y)), neg-parts (pos Y)))
signed-unlike true X Y h =
    parts-eq (neg_ℤ (pos X) +ℤ pos Y) (neg_ℤ (pos (X - Y)))
    (omega (arith, add_parts (neg_ℤ (pos X)) (pos Y), neg-parts (pos X), neg-parts (pos (X - Y))))

-- the sign of a zero does not matter
signed-zero : (s t : Bool) (n : ℕ) → n ≡ 0 → signed s n ≡ signed t n
signed-zero s t n e = at s ∙ sym (at t)
  where
    at : (u : Bool) → signed u n ≡ pos 0
    at false = ap pos e
    at true = ap (λ (k : ℕ). neg_ℤ (pos k)) e

-- ---- `sum` by units: a / c is X units, and b / c is Y
module _ (f : Format) (a b c X Y : ℕ) (C : 0 < c) (ea : a * 2 ^ low f ≡ X * c) (eb : b * 2 ^ low f ≡ Y * c) where
  abbrev l : ℕ
  l = 2 ^ low f

  both : (a + b) * l ≡ (X + Y) * c
  both = add-mul a b l ∙ ap (λ (x : ℕ). x + b * l) ea ∙ ap (λ (x : ℕ). X * c + x) eb ∙ sym (add-mul X Y c)

  rest : (a - b) * l ≡ (X - Y) * c
  rest =
      mul_comm (a - b) l ∙ mul-sub l a b ∙ ap (λ (x : ℕ). x - l * b) (mul_comm l a ∙ ea) ∙ ap (λ (x : ℕ). X * c - x) (mul_comm l b ∙ eb)
      ∙ sym (mul_comm (X - Y) c ∙ mul-sub c X Y ∙ ap (λ (x : ℕ). x - c * Y) (mul_comm c X) ∙ ap (λ (x : ℕ). X * c - x) (mul_comm c Y))

  no_less : b ≤ a → Y ≤ X
  no_less h = le_of_mul-le-mul_right (le_trans (le_of_eq (sym eb)) (le_trans (mul-le-mul_right l h) (le_of_eq ea))) C

  one : 0 < 1
  one = omega arith

  same_sign : (s : Bool) → Rounds f 1 (signed s X +ℤ signed s Y) (round f s (a + b) c)
  same_sign s = round-units f s (a + b) c (X + Y) 1 (signed s X +ℤ signed s Y) C one (mul-one ((a + b) * l) ∙ both) (signed_same s X Y)

  -- the first is no smaller and has the sign s; the result's sign t may be another at a zero
  unlike-signs : (s t : Bool) → b ≤ a → signed s (X - Y) ≡ signed t (X - Y)
      → Rounds f 1 (signed s X +ℤ signed (not s) Y) (round f t (a - b) c)
  unlike-signs s t g o = round-units f t (a - b) c (X - Y) 1 (signed s X +ℤ signed (not s) Y) C one
      (mul-one ((a - b) * l) ∙ rest) (signed-unlike s X Y (no_less g) ∙ o)

-- a sum is the exact sum, rounded
sum-rounds : (f : Format) (s : Bool) (a : ℕ) (t : Bool) (b c X Y : ℕ) → 0 < c → a * 2 ^ low f ≡ X * c
    → b * 2 ^ low f ≡ Y * c → Rounds f 1 (signed s X +ℤ signed t Y) (sum f s a t b c)
unfolding sum
sum-rounds f false a false b c X Y C ea eb = same_sign f a b c X Y C ea eb false
sum-rounds f true a true b c X Y C ea eb = same_sign f a b c X Y C ea eb true
sum-rounds f false a true b c X Y C ea eb = go (ltb a b) (ltb→lt a b) (nltb→le a b)
  where
    go : (u : Bool) → (T u → a < b) → (T (not u) → b ≤ a)
        → Rounds f 1 (pos X +ℤ neg_ℤ (pos Y)) (cond u (round f true (b - a) c) (round f (false && ltb b a) (a - b) c))
    go true p q = subst (λ (z : ℤ). Rounds f 1 z (round f true (b - a) c)) (+ℤ_comm (neg_ℤ (pos Y)) (pos X))
        (unlike-signs f b a c Y X C eb ea true true (le_of_lt (p tt)) refl)
    go false p q = unlike-signs f a b c X Y C ea eb false false (q tt) refl
sum-rounds f true a false b c X Y C ea eb = go (ltb a b) (ltb→lt a b) (nltb→le a b)
  where
    go : (u : Bool) → (T u → a < b) → (T (not u) → b ≤ a)
        → Rounds f 1 (neg_ℤ (pos X) +ℤ pos Y) (cond u (round f false (b - a) c) (round f (true && ltb b a) (a - b) c))
    go true p q = subst (λ (z : ℤ). Rounds f 1 z (round f false (b - a) c)) (+ℤ_comm (pos Y) (neg_ℤ (pos X)))
        (unlike-signs f b a c Y X C eb ea false false (le_of_lt (p tt)) refl)
    go false p q = unlike-signs f a b c X Y C ea eb true (ltb b a) (q tt) (sign (ltb b a) (nltb→le b a))
      where
        sign : (v : Bool) → (T (not v) → a ≤ b) → signed true (X - Y) ≡ signed v (X - Y)
        sign true k = refl
        sign false k = signed-zero true false (X - Y) (none (no_less f b a c Y X C eb ea (k tt)))
          where
            none : X ≤ Y → X - Y ≡ 0
            none g = omega arith

-- ---- the operations
-- the sizes of two values over a common denominator
crossed : (f : Format) (s : Bool) (m : ℕ) (e d : ℤ) → T (fits f (fin s m e))
    → m * up e * down d * 2 ^ low f ≡ magnitude f (fin s m e) * (down e * down d)
crossed f s m e d t = mul_right_comm (m * up e) (down d) (2 ^ low f) ∙ ap (λ (x : ℕ). x * down d) (units-exact f s m e t)
    ∙ mul_assoc (magnitude f (fin s m e)) (down e) (down d)

add_at : (f : Format) (x y : Float) → T (fits f x) → T (finite x) → T (fits f y) → T (finite y)
    → Rounds f 1 (signed_magnitude f x +ℤ signed_magnitude f y) (add f x y)
unfolding signed_magnitude add
add_at f nan y p q r u = absurd q
add_at f (inf s) y p q r u = absurd q
add_at f (fin s m e) nan p q r u = absurd u
add_at f (fin s m e) (inf t) p q r u = absurd u
add_at f (fin s m e) (fin t n d) p q r u =
    sum-rounds f s (m * up e * down d) t (n * up d * down e) (down e * down d) (magnitude f (fin s m e))
    (magnitude f (fin t n d)) (mul-pos (down_pos e) (down_pos d)) (crossed f s m e d p)
    (crossed f t n d e r ∙ ap (λ (x : ℕ). magnitude f (fin t n d) * x) (mul_comm (down d) (down e)))

pub add_rounds : (f : Format) (x y : Float) (a b : ℤ) → HasUnits f x a → HasUnits f y b → Rounds f 1 (a +ℤ b) (add f x y)
add_rounds f x y a b v w =
    subst (λ (z : ℤ). Rounds f 1 z (add f x y)) (ap (λ (z : ℤ). z +ℤ signed_magnitude f y) v.units ∙ ap (λ (z : ℤ). a +ℤ z) w.units)
    (add_at f x y v.held v.finite w.held w.finite)

neg-signed : (s : Bool) (n : ℕ) → signed (not s) n ≡ neg_ℤ (signed s n)
neg-signed false n = refl
neg-signed true zero = refl
neg-signed true (suc n) = refl

neg-at : (f : Format) (x : Float) → T (finite x) → (T (finite (neg x))) × (signed_magnitude f (neg x) ≡ neg_ℤ (signed_magnitude f x))
unfolding signed_magnitude neg magnitude
neg-at f nan h = absurd h
neg-at f (inf s) h = absurd h
neg-at f (fin s m e) h = (tt, neg-signed s (m * up e * 2 ^ low f / down e))

pub neg_value : (f : Format) (x : Float) (a : ℤ) → HasUnits f x a → HasUnits f (neg x) (neg_ℤ a)
neg_value f x a v = record {
  held = neg-fits f x v.held;
  finite = (neg-at f x v.finite).0;
  units = (neg-at f x v.finite).1 ∙ ap neg_ℤ v.units;
}

pub sub-rounds : (f : Format) (x y : Float) (a b : ℤ) → HasUnits f x a → HasUnits f y b → Rounds f 1 (a -ℤ b) (sub f x y)
unfolding sub
sub-rounds f x y a b v w = add_rounds f x (neg y) a (neg_ℤ b) v (neg_value f y b w)

signed-times : (s t : Bool) (X Y : ℕ) → signed s X *ℤ signed t Y ≡ signed (unlike s t) (X * Y)
signed-times false false X Y = refl
signed-times false true X zero = ap pos (mul-zero X) ∙ ap (λ (x : ℕ). neg_ℤ (pos x)) (sym (mul-zero X))
signed-times false true X (suc y) = refl
signed-times true false zero Y = ap pos (zero-mul Y) ∙ ap (λ (x : ℕ). neg_ℤ (pos x)) (sym (zero-mul Y))
signed-times true false (suc x) Y = refl
signed-times true true zero zero = refl
signed-times true true zero (suc y) = ap (λ (x : ℕ). neg_ℤ (pos x)) (zero-mul (suc y)) ∙ ap pos (sym (zero-mul (suc y)))
signed-times true true (suc x) zero = ap (λ (x : ℕ). neg_ℤ (pos x)) (mul-zero (suc x)) ∙ ap pos (sym (mul-zero (suc x)))
signed-times true true (suc x) (suc y) = refl

mul_at : (f : Format) (x y : Float) → T (fits f x) → T (finite x) → T (fits f y) → T (finite y)
    → Rounds f (2 ^ low f) (signed_magnitude f x *ℤ signed_magnitude f y) (mul f x y)
unfolding signed_magnitude mul
mul_at f nan y p q r u = absurd q
mul_at f (inf s) y p q r u = absurd q
mul_at f (fin s m e) nan p q r u = absurd u
mul_at f (fin s m e) (inf t) p q r u = absurd u
mul_at f (fin s m e) (fin t n d) p q r u =
    let X = magnitude f (fin s m e) in
    let Y = magnitude f (fin t n d) in
    let l = 2 ^ low f in
    let a = m * up e in
    let b = n * up d in
    round-units f (unlike s t) (a * b) (down e * down d) (X * Y) l (signed s X *ℤ signed t Y)
    (mul-pos (down_pos e) (down_pos d)) (pow_pos (low f))
    (mul_assoc (a * b) l l ∙ mul-mul-mul_comm a b l l ∙ ap (λ (x : ℕ). x * (b * l)) (units-exact f s m e p)
    ∙ ap (λ (x : ℕ). X * down e * x) (units-exact f t n d r) ∙ mul-mul-mul_comm X (down e) Y (down d))
    (signed-times s t X Y)

-- a product of a and b units is a * b / 2 ^ low units, rounded
pub mul-rounds : (f : Format) (x y : Float) (a b : ℤ) → HasUnits f x a → HasUnits f y b → Rounds f (2 ^ low f) (a *ℤ b) (mul f x y)
mul-rounds f x y a b v w =
    subst (λ (z : ℤ). Rounds f (2 ^ low f) z (mul f x y))
    (ap (λ (z : ℤ). z *ℤ signed_magnitude f y) v.units ∙ ap (λ (z : ℤ). a *ℤ z) w.units)
    (mul_at f x y v.held v.finite w.held w.finite)

-- ---- order
scale-lt : (P c p q p' q' : ℕ) → 0 < P → 0 < c → p * P ≡ p' * c → q * P ≡ q' * c → ltb p q ≡ ltb p' q'
scale-lt P c p q p' q' h_p hc ep eq = go (ltb p q) (ltb p' q') (ltb→lt p q) (nltb→le p q) (ltb→lt p' q') (nltb→le p' q')
  where
    go : (u v : Bool) → (T u → p < q) → (T (not u) → q ≤ p) → (T v → p' < q') → (T (not v) → q' ≤ p') → u ≡ v
    go true true a b c' d = refl
    go false false a b c' d = refl
    go true false a b c' d = absurd
        (not-le_of_lt (lt_of_mul-lt-mul_right c
        (lt_of_le_of_lt (le_of_eq (sym ep)) (lt_of_lt_of_le (mul-lt-mul_of_pos_right (a tt) h_p) (le_of_eq eq)))) (d tt))
    go false true a b c' d = absurd
        (not-le_of_lt (lt_of_mul-lt-mul_right P
        (lt_of_le_of_lt (le_of_eq ep) (lt_of_lt_of_le (mul-lt-mul_of_pos_right (c' tt) hc) (le_of_eq (sym eq))))) (b tt))

lt_at : (f : Format) (x y : Float) → T (fits f x) → T (finite x) → T (fits f y) → T (finite y)
    → lt x y ≡ ltb (plus (signed_magnitude f x) + minus (signed_magnitude f y)) (plus (signed_magnitude f y) + minus (signed_magnitude f x))
unfolding signed_magnitude lt
lt_at f nan y p q r u = absurd q
lt_at f (inf s) y p q r u = absurd q
lt_at f (fin s m e) nan p q r u = absurd u
lt_at f (fin s m e) (inf t) p q r u = absurd u
lt_at f (fin s m e) (fin t n d) p q r u =
    let X = magnitude f (fin s m e) in
    let Y = magnitude f (fin t n d) in
    go s t X Y (m * up e * down d) (n * up d * down e) (down e * down d) (mul-pos (down_pos e) (down_pos d))
    (crossed f s m e d p) (crossed f t n d e r ∙ ap (λ (x : ℕ). Y * x) (mul_comm (down d) (down e)))
  where
    go : (s t : Bool) (X Y a b c : ℕ) → 0 < c → a * 2 ^ low f ≡ X * c → b * 2 ^ low f ≡ Y * c
        → below s a t b ≡ ltb (plus (signed s X) + minus (signed t Y)) (plus (signed t Y) + minus (signed s X))
    go false false X Y a b c C ea eb =
        scale-lt (2 ^ low f) c a b (X + 0) (Y + 0) (pow_pos (low f)) C (ea ∙ simp add-zero) (eb ∙ simp add-zero)
    go false true X Y a b c C ea eb = sym (simp ((neg-parts (pos Y)).0, (neg-parts (pos Y)).1) (le-ltb (X + Y) (0 + 0) zero-le))
    go true false X Y a b c C ea eb = by (plus (neg_ℤ (pos X))) (minus (neg_ℤ (pos X))) (neg-parts (pos X)).0 (neg-parts (pos X)).1
      where
        by : (P M : ℕ) → P ≡ 0 → M ≡ X → ltb 0 (a + b) ≡ ltb (P + 0) (Y + M)
        by P M g k = scale-lt (2 ^ low f) c 0 (a + b) (P + 0) (Y + M) (pow_pos (low f)) C
            (omega (arith, ap (λ (x : ℕ). x * c) g)) (omega (arith, ea, eb, ap (λ (x : ℕ). x * c) k))
    go true true X Y a b c C ea eb =
        by (plus (neg_ℤ (pos X))) (minus (neg_ℤ (pos X))) (plus (neg_ℤ (pos Y))) (minus (neg_ℤ (pos Y)))
        (neg-parts (pos X)).0 (neg-parts (pos X)).1 (neg-parts (pos Y)).0 (neg-parts (pos Y)).1
      where
        by : (P M Q N : ℕ) → P ≡ 0 → M ≡ X → Q ≡ 0 → N ≡ Y → ltb b a ≡ ltb (P + N) (Q + M)
        by P M Q N g k i j =
            scale-lt (2 ^ low f) c b a (P + N) (Q + M) (pow_pos (low f)) C
            (omega (arith, eb, ap (λ (x : ℕ). x * c) g, ap (λ (x : ℕ). x * c) j))
            (omega (arith, ea, ap (λ (x : ℕ). x * c) i, ap (λ (x : ℕ). x * c) k))

-- x < y is plus a + minus b < plus b + minus a
pub lt-value : (f : Format) (x y : Float) (a b : ℤ) → HasUnits f x a → HasUnits f y b → lt x y ≡ ltb (plus a + minus b) (plus b + minus a)
lt-value f x y a b v w =
    lt_at f x y v.held v.finite w.held w.finite
    ∙ ap (λ (z : ℤ). ltb (plus z + minus (signed_magnitude f y)) (plus (signed_magnitude f y) + minus z)) v.units
    ∙ ap (λ (z : ℤ). ltb (plus a + minus z) (plus z + minus a)) w.units

pub value-number : (f : Format) (x : Float) (a : ℤ) → HasUnits f x a → Number x
value-number f x a v = finite_number x (is_true (finite x) v.finite)

pub own-units : (f : Format) (x : Float) → T (fits f x) → T (finite x) → HasUnits f x (signed_magnitude f x)
own-units f x t u = record { held = t; finite = u; units = refl }

pub value-le : (f : Format) (x y : Float) (a b : ℤ) → HasUnits f x a → HasUnits f y b → plus a + minus b ≤ plus b + minus a → le x y ≡ true
value-le f x y a b v w h = not-lt→le y x (value-number f y b w) (value-number f x a v)
    (lt-value f y x b a w v ∙ le-ltb (plus b + minus a) (plus a + minus b) h)

pub le-value : (f : Format) (x y : Float) (a b : ℤ) → HasUnits f x a → HasUnits f y b → le x y ≡ true
    → plus a + minus b ≤ plus b + minus a
le-value f x y a b v w h = ltb-false (plus b + minus a) (plus a + minus b) (sym (lt-value f y x b a w v) ∙ le→not-lt x y h)
