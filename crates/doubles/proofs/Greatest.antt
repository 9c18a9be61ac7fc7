-- The floor of a finite double is the greatest whole number that is not above it (`floor-greatest`), and the ceiling
-- the least that is not below it (`ceil-least`); an infinity and a NaN come back as they are. Assumes nothing.
use Rattle.std.proofs.Common.{◌≡◌, ℕ, ◌+◌, ◌*◌, ◌/◌, ◌%◌, ◌<◌, ◌≤◌, Bool, true, false, T, ℤ, sym, refl, ap, ◌∙◌, subst}
use Rattle.std.proofs.Common.{true≢false, zero-le, le_trans, le_of_eq, mul-le-mul_right, le-div_iff_mul-le, zero-mul, mul-one}
use Rattle.std.proofs.Common.{mul_right_comm, le_of_mul-le-mul_right, arith}
use native.Mathlib.Nat.{mul-mod_left}
use lib.Ieee.{Float, nan, inf, fin, binary64, up, down, le, neg, fits}
use lib.Ieee.Fits.{down_pos, round-fits, neg-fits}
use lib.Ieee.Exact.{HasValue}
use Rattle.doubles.specs.Doubles.{ceil_div, floor_of, ceil_of}
use Rattle.doubles.proofs.Order.{le→side, side→le, le-neg, neg-neg, fin-number}
use Rattle.doubles.proofs.Whole.{exact-div, ceil-below, floor-exact, floor-le, ceil-is}
use Rattle.doubles.specs.Rounding.{Whole, FloorOf, CeilOf}

-- ---- whole numbers c and q, with a and b the sizes of the doubles that hold them over the denominators d and j

-- a double whose value is c is whole
pub value-whole : (w : Float) (s : Bool) (c : ℕ) → HasValue w s c 1 → Whole w
value-whole nan s c h = h
value-whole (inf t) s c h = h
value-whole (fin t m e) s c h = ap (λ (z : ℕ). z % down e) (sym (mul-one (m * up e)) ∙ h.1) ∙ mul-mod_left c (down e)

ordered : (a c d b q j : ℕ) → a ≡ c * d → b * 1 ≡ q * j → c ≤ q → a * j ≤ b * d
ordered a c d b q j f g h =
    le_trans (le_of_eq (ap (λ (z : ℕ). z * j) f))
    (le_trans (mul-le-mul_right j (mul-le-mul_right d h))
    (le_of_eq (mul_right_comm q d j ∙ ap (λ (z : ℕ). z * d) (sym g ∙ mul-one b))))

turned : (a c d b q j : ℕ) → a ≡ c * d → b * 1 ≡ q * j → q ≤ c → b * d ≤ a * j
turned a c d b q j f g h =
    le_trans (le_of_eq (ap (λ (z : ℕ). z * d) (sym (mul-one b) ∙ g)))
    (le_trans (mul-le-mul_right d (mul-le-mul_right j h))
    (le_of_eq (mul_right_comm c j d ∙ ap (λ (z : ℕ). z * j) (sym f))))

none : (a d : ℕ) → 0 < d → a * d ≤ 0 → a ≤ 0
none a d D h = le_of_mul-le-mul_right (le_trans h (le_of_eq (sym (zero-mul d)))) D

-- ---- every whole y that is at most x is at most w, where w is the whole number q

module _ (w : Float) (q m : ℕ) (e : ℤ) where
  under-positive : HasValue w false q 1 → ((c : ℕ) → c * down e ≤ m * up e → c ≤ q) → (y : Float) → Whole y
      → le y (fin false m e) ≡ true → le y w ≡ true
  under-positive h g nan v l = absurd v
  under-positive h g (inf t) v l = absurd v
  under-positive h g (fin t n d) v l = go w h t l
    where
      c : ℕ
      c = n * up d / down d

      is : n * up d ≡ c * down d
      is = exact-div (n * up d) (down d) v

      small : le (fin false n d) (fin false m e) ≡ true → c ≤ q
      small k = g c (le_of_mul-le-mul_right
          (le_trans (le_of_eq (mul_right_comm c (down e) (down d) ∙ ap (λ (z : ℕ). z * down e) (sym is)))
          (le→side (fin false n d) (fin false m e) k)) (down_pos d))

      go : (w : Float) → HasValue w false q 1 → (t : Bool) → le (fin t n d) (fin false m e) ≡ true → le (fin t n d) w ≡ true
      go nan h t k = absurd h
      go (inf s) h t k = absurd h
      go (fin true o j) h t k = absurd (true≢false h.0)
      go (fin false o j) h true k = side→le (fin true n d) (fin false o j) (fin-number true n d) (fin-number false o j) zero-le
      go (fin false o j) h false k =
          side→le (fin false n d) (fin false o j) (fin-number false n d) (fin-number false o j)
          (ordered (n * up d) c (down d) (o * up j) q (down j) is h.1 (small k))

  under-negative : HasValue w true q 1 → ((c : ℕ) → m * up e ≤ c * down e → q ≤ c) → (y : Float) → Whole y
      → le y (fin true m e) ≡ true → le y w ≡ true
  under-negative h g nan v l = absurd v
  under-negative h g (inf t) v l = absurd v
  under-negative h g (fin t n d) v l = go w h t l
    where
      c : ℕ
      c = n * up d / down d

      is : n * up d ≡ c * down d
      is = exact-div (n * up d) (down d) v

      large : le (fin true n d) (fin true m e) ≡ true → q ≤ c
      large k = g c (le_of_mul-le-mul_right
          (le_trans (le→side (fin true n d) (fin true m e) k)
          (le_of_eq (ap (λ (z : ℕ). z * down e) is ∙ mul_right_comm c (down d) (down e)))) (down_pos d))

      go : (w : Float) → HasValue w true q 1 → (t : Bool) → le (fin t n d) (fin true m e) ≡ true → le (fin t n d) w ≡ true
      go nan h t k = absurd h
      go (inf s) h t k = absurd h
      go (fin false o j) h t k = absurd (true≢false (sym h.0))
      go (fin true o j) h true k = side→le (fin true n d) (fin true o j) (fin-number true n d) (fin-number true o j)
          (turned (n * up d) c (down d) (o * up j) q (down j) is h.1 (large k))
      go (fin true o j) h false k =
          let both = le→side (fin false n d) (fin true m e) k in
          let y-zero = none (n * up d) (down e) (down_pos e) (left (n * up d * down e) (m * up e * down d) both) in
          let x-zero = none (m * up e) (down d) (down_pos d) (right (n * up d * down e) (m * up e * down d) both) in
          let q-zero = g 0 (le_trans x-zero (le_of_eq (sym (zero-mul (down e))))) in
          side→le (fin false n d) (fin true o j) (fin-number false n d) (fin-number true o j)
          (sum (n * up d * down j) (o * up j * down d) (le_trans (mul-le-mul_right (down j) y-zero) (le_of_eq (zero-mul (down j))))
          (le_trans (turned 0 0 (down d) (o * up j) q (down j) (sym (zero-mul (down d))) h.1 q-zero) (le_of_eq (zero-mul (down j)))))
        where
          left : (a b : ℕ) → a + b ≤ 0 → a ≤ 0
          left a b f = omega arith

          right : (a b : ℕ) → a + b ≤ 0 → b ≤ 0
          right a b f = omega arith

          sum : (a b : ℕ) → a ≤ 0 → b ≤ 0 → a + b ≤ 0
          sum a b f g = omega arith

-- ---- the laws

pub floor-greatest : (s : Bool) (m : ℕ) (e : ℤ) → T (fits binary64 (fin s m e)) → FloorOf (fin s m e) (floor_of (fin s m e))
floor-greatest false m e t =
    record {
      double = unfold floor_of in round-fits binary64 false (m * up e / down e) 1;
      whole = value-whole (floor_of (fin false m e)) false (m * up e / down e) (floor-exact false m e t);
      below = floor-le (fin false m e) t (fin-number false m e);
      greatest = under-positive (floor_of (fin false m e)) (m * up e / down e) m e (floor-exact false m e t)
          (λ c h. (le-div_iff_mul-le (down_pos e)).1 h);
    }
floor-greatest true m e t =
    record {
      double = unfold floor_of in round-fits binary64 true (ceil_div (m * up e) (down e)) 1;
      whole = value-whole (floor_of (fin true m e)) true (ceil_div (m * up e) (down e)) (floor-exact true m e t);
      below = floor-le (fin true m e) t (fin-number true m e);
      greatest = under-negative (floor_of (fin true m e)) (ceil_div (m * up e) (down e)) m e (floor-exact true m e t)
          (λ c h. ceil-below (m * up e) (down e) c (down_pos e) h);
    }

-- a whole number, negated
neg-whole : (x : Float) → Whole x → Whole (neg x)
unfolding neg
neg-whole nan h = h
neg-whole (inf s) h = h
neg-whole (fin s m e) h = h

floored : (s : Bool) (m : ℕ) (e : ℤ) → T (fits binary64 (neg (fin s m e))) → FloorOf (neg (fin s m e)) (floor_of (neg (fin s m e)))
unfolding neg
floored s m e t = floor-greatest _ m e t

-- the ceiling of x is the floor of -x, negated
turn : (x r : Float) → FloorOf (neg x) r → CeilOf x (neg r)
turn x r f =
    record {
      double = neg-fits binary64 r f.double;
      whole = neg-whole r f.whole;
      above = subst (λ (z : Float). le z (neg r) ≡ true) (neg-neg x) (le-neg (neg x) r ∙ f.below);
      least = λ y v l. subst (λ (z : Float). le (neg r) z ≡ true) (neg-neg y)
          (le-neg r (neg y) ∙ f.greatest (neg y) (neg-whole y v) (le-neg y x ∙ l));
    }

pub ceil-least : (s : Bool) (m : ℕ) (e : ℤ) → T (fits binary64 (fin s m e)) → CeilOf (fin s m e) (ceil_of (fin s m e))
ceil-least s m e t = subst (λ (r : Float). CeilOf (fin s m e) r) (ceil-is (fin s m e))
    (turn (fin s m e) (floor_of (neg (fin s m e))) (floored s m e (neg-fits binary64 (fin s m e) t)))

-- an infinity and a NaN come back as they are
pub inf-kept : (s : Bool) → (floor_of (inf s) ≡ inf s) × (ceil_of (inf s) ≡ inf s)
unfolding floor_of ceil_of
inf-kept s = (refl, refl)

pub nan-kept : (floor_of nan ≡ nan) × (ceil_of nan ≡ nan)
unfolding floor_of ceil_of
nan-kept = (refl, refl)
