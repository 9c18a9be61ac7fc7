-- Squares of whole numbers: they keep the order, and `whole_root n` is the one r with r * r ≤ n < (r + 1) * (r + 1). Assumes nothing.
use mathlib.Core.Path.{◌≡◌, ap, ◌∙◌, subst}
use Prim.Native.Nat.{ℕ, zero, suc, ◌+◌, ◌*◌, ◌/◌, ◌^◌, ◌≤◌, ◌<◌}
use native.Mathlib.Nat.{le_of_suc-le-suc, lt_of_lt_of_le, lt_of_le_of_lt, lt_of_not-le, not-le_of_lt, le_antisymm, mul-le-mul}
use native.Mathlib.Nat.{le-add_right, add-suc, suc-add, pow-suc}
use native.Mathlib.Omega.{arith}
use mathlib.Core.Bool.{Bool, true, false, not, cond}
use lib.Dec.{T, leb, leb→le, nleb→lt}
use lib.Pow.{pow_mono}
use lib.Ieee.{size}
use lib.Ieee.Digits.{size-lt}
use Rattle.doubles_sqrt.specs.Root.{root_digits, whole_root}

-- r is the whole part of the root of n
abbrev pub IsRoot : ℕ → ℕ → Type 0
IsRoot n r = (r * r ≤ n) × (n < suc r * suc r)

-- ---- squares keep the order
pub square-lt : (a b : ℕ) → a * a < b * b → a < b
square-lt a b h = lt_of_not-le (λ (g : b ≤ a). not-le_of_lt h (mul-le-mul g g))

pub square_le : (a b : ℕ) → a ≤ b → a * a ≤ b * b
square_le a b h = mul-le-mul h h

pub root-unique : (n r s : ℕ) → IsRoot n r → IsRoot n s → r ≡ s
root-unique n r s h k =
    le_antisymm (le_of_suc-le-suc (square-lt r (suc s) (lt_of_le_of_lt h.0 k.1)))
    (le_of_suc-le-suc (square-lt s (suc r) (lt_of_le_of_lt k.0 h.1)))

-- ---- one digit more
step : (n r : ℕ) → IsRoot (n / 4) r → IsRoot n (cond (leb (suc (2 * r) * suc (2 * r)) n) (suc (2 * r)) (2 * r))
step n r h = go (leb (suc (2 * r) * suc (2 * r)) n) (leb→le (suc (2 * r) * suc (2 * r)) n) (nleb→lt (suc (2 * r) * suc (2 * r)) n)
  where
    go : (b : Bool) → (T b → suc (2 * r) * suc (2 * r) ≤ n) → (T (not b) → n < suc (2 * r) * suc (2 * r))
        → IsRoot n (cond b (suc (2 * r)) (2 * r))
    go true y z = (y tt, upper h.1)
      where
        upper : n / 4 < suc r * suc r → n < suc (suc (2 * r)) * suc (suc (2 * r))
        upper a = omega arith
    go false y z = (lower h.0, z tt)
      where
        lower : r * r ≤ n / 4 → 2 * r * (2 * r) ≤ n
        lower a = omega arith

digits-root : (j n : ℕ) → n < 2 ^ (j + j) → IsRoot n (root_digits j n)
unfolding root_digits
digits-root zero n h = omega arith
digits-root (suc j) n h = step n (root_digits j (n / 4)) (digits-root j (n / 4) (quarter (2 ^ (j + j)) (subst (λ (x : ℕ). n < x) twice h)))
  where
    twice : 2 ^ (suc j + suc j) ≡ 2 ^ (j + j) * 2 * 2
    twice = ap (λ (x : ℕ). 2 ^ x) (suc-add j (suc j) ∙ ap suc (add-suc j j)) ∙ pow-suc 2 (suc (j + j))
        ∙ ap (λ (x : ℕ). x * 2) (pow-suc 2 (j + j))

    quarter : (p : ℕ) → n < p * 2 * 2 → n / 4 < p
    quarter p g = omega arith

pub whole-root : (n : ℕ) → IsRoot n (whole_root n)
unfolding whole_root
whole-root n = digits-root (size n) n (lt_of_lt_of_le (size-lt n) (pow_mono (le-add_right (size n) (size n))))
