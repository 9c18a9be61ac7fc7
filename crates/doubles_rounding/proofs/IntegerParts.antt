-- Integers by two natural numbers: z is plus z - minus z, and one of the two is 0. An order or a sum of integers is then one
-- of natural numbers, which `omega` decides. Assumes nothing.
use mathlib.Core.Path.{◌≡◌, refl, ap}
use Prim.Native.Nat.{ℕ, zero, suc, ◌+◌, ◌-◌, ◌*◌, ◌≤◌, ◌<◌}
use native.Mathlib.Omega.{arith}
use mathlib.Core.Bool.{Bool, true, false, cond, not}
use lib.Dec.{T, ltb, ltb→lt, nltb→le, leb→le, le→leb}
use lib.IntN.{ℤ, pos, negsuc, neg_ℤ, nat_abs, sub_ℕ, ◌+ℤ◌, ◌-ℤ◌, ◌*ℤ◌}
use lib.Signed.{◌≤ℤ◌, le_z_yes}

-- the size of z where it is positive, and where it is negative
abbrev pub plus : ℤ → ℕ
plus (pos n) = n
plus (negsuc n) = 0

abbrev pub minus : ℤ → ℕ
minus (pos n) = 0
minus (negsuc n) = suc n

pub abs_is : (z : ℤ) → nat_abs z ≡ plus z + minus z
abs_is (pos n) = omega arith
abs_is (negsuc n) = omega arith

-- ---- sums, differences and multiples
sub-nat : (a b : ℕ) → plus (sub_ℕ a b) + b ≡ a + minus (sub_ℕ a b)
sub-nat a b = go (ltb a b) (ltb→lt a b) (nltb→le a b)
  where
    go : (t : Bool) → (T t → a < b) → (T (not t) → b ≤ a)
        → plus (cond t (negsuc (b - suc a)) (pos (a - b))) + b ≡ a + minus (cond t (negsuc (b - suc a)) (pos (a - b)))
    go true h k = below (h tt)
      where
        below : a < b → 0 + b ≡ a + suc (b - suc a)
        below l = omega arith
    go false h k = above (k tt)
      where
        above : b ≤ a → a - b + b ≡ a + 0
        above l = omega arith

pub add_parts : (a b : ℤ) → plus (a +ℤ b) + (minus a + minus b) ≡ plus a + plus b + minus (a +ℤ b)
add_parts (pos a) (pos b) = omega arith
add_parts (pos a) (negsuc b) = omega (arith, sub-nat a (suc b))
add_parts (negsuc a) (pos b) = omega (arith, sub-nat b (suc a))
add_parts (negsuc a) (negsuc b) = omega arith

pub neg-parts : (a : ℤ) → (plus (neg_ℤ a) ≡ minus a) × (minus (neg_ℤ a) ≡ plus a)
neg-parts (pos zero) = (refl, refl)
neg-parts (pos (suc n)) = (refl, refl)
neg-parts (negsuc n) = (refl, refl)

pub sub_parts : (a b : ℤ) → plus (a -ℤ b) + (minus a + plus b) ≡ plus a + minus b + minus (a -ℤ b)
sub_parts a b = omega (arith, add_parts a (neg_ℤ b), neg-parts b)

-- a product with a natural number
pub times-parts : (s : ℕ) (a : ℤ) → (plus (pos s *ℤ a) ≡ s * plus a) × (minus (pos s *ℤ a) ≡ s * minus a)
times-parts s (pos a) = (refl, omega arith)
times-parts s (negsuc a) = (omega (arith, (neg-parts (pos (s * suc a))).0), (neg-parts (pos (s * suc a))).1)

-- ---- the order
pub le_parts : (a b : ℤ) → a ≤ℤ b → plus a + minus b ≤ plus b + minus a
le_parts (pos a) (pos b) h = omega (arith, leb→le a b h.le)
le_parts (pos a) (negsuc b) h = absurd h.le
le_parts (negsuc a) (pos b) h = omega arith
le_parts (negsuc a) (negsuc b) h = omega (arith, leb→le b a h.le)

-- a natural number is not at most a negative one
pub parts-clash : (a b : ℕ) → a + suc b ≤ 0 + 0 → ⊥
parts-clash a b h = omega arith

pub parts-le : (a b : ℤ) → plus a + minus b ≤ plus b + minus a → a ≤ℤ b
parts-le (pos a) (pos b) h = le_z_yes (le→leb a b (omega arith))
parts-le (pos a) (negsuc b) h = absurd (parts-clash a b h)
parts-le (negsuc a) (pos b) h = le_z_yes tt
parts-le (negsuc a) (negsuc b) h = le_z_yes (le→leb b a (omega arith))

-- ---- a multiple s * z against y: how far y is from it, and which is the larger
module _ (s : ℕ) (z y : ℤ) where
  pub offset-parts : plus (y -ℤ pos s *ℤ z) + (minus y + s * plus z) ≡ plus y + s * minus z + minus (y -ℤ pos s *ℤ z)
  offset-parts = omega (arith, sub_parts y (pos s *ℤ z), times-parts s z)

  pub scaled-le : (pos s *ℤ z) ≤ℤ y → s * plus z + minus y ≤ plus y + s * minus z
  scaled-le h = omega (arith, le_parts (pos s *ℤ z) y h, times-parts s z)

  pub le-scaled : y ≤ℤ (pos s *ℤ z) → plus y + s * minus z ≤ s * plus z + minus y
  le-scaled h = omega (arith, le_parts y (pos s *ℤ z) h, times-parts s z)

  pub to-scaled-le : s * plus z + minus y ≤ plus y + s * minus z → (pos s *ℤ z) ≤ℤ y
  to-scaled-le h = parts-le (pos s *ℤ z) y (omega (arith, times-parts s z))

  pub to-le-scaled : plus y + s * minus z ≤ s * plus z + minus y → y ≤ℤ (pos s *ℤ z)
  to-le-scaled h = parts-le y (pos s *ℤ z) (omega (arith, times-parts s z))

-- integers with the same difference of parts are the same
pub parts-eq : (a b : ℤ) → plus a + minus b ≡ plus b + minus a → a ≡ b
parts-eq (pos a) (pos b) h = ap pos same
  where
    same : a ≡ b
    same = omega arith
parts-eq (pos a) (negsuc b) h = absurd none
  where
    none : ⊥
    none = omega arith
parts-eq (negsuc a) (pos b) h = absurd none
  where
    none : ⊥
    none = omega arith
parts-eq (negsuc a) (negsuc b) h = ap negsuc same
  where
    same : a ≡ b
    same = omega arith

-- ---- the size of a sum and of a difference
nat-size : (a b : ℕ) → plus (sub_ℕ a b) + minus (sub_ℕ a b) ≤ a + b
nat-size a b = go (ltb a b) (ltb→lt a b)
  where
    go : (t : Bool) → (T t → a < b)
        → plus (cond t (negsuc (b - suc a)) (pos (a - b))) + minus (cond t (negsuc (b - suc a)) (pos (a - b))) ≤ a + b
    go true h = below (h tt)
      where
        below : a < b → 0 + suc (b - suc a) ≤ a + b
        below l = omega arith
    go false h = omega arith

pub add-size : (a b : ℤ) → plus (a +ℤ b) + minus (a +ℤ b) ≤ plus a + minus a + (plus b + minus b)
add-size (pos a) (pos b) = omega arith
add-size (pos a) (negsuc b) = omega (arith, nat-size a (suc b))
add-size (negsuc a) (pos b) = omega (arith, nat-size b (suc a))
add-size (negsuc a) (negsuc b) = omega arith

pub sub-size : (a b : ℤ) → plus (a -ℤ b) + minus (a -ℤ b) ≤ plus a + minus a + (plus b + minus b)
sub-size a b = omega (arith, add-size a (neg_ℤ b), neg-parts b)
