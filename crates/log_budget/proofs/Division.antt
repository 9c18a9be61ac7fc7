-- A key is a multiple of the number of entries and a place below it, so that division takes it apart.
use mathlib.Core.Path.{◌≡◌, ◌∙◌}
use Prim.Native.Nat.{ℕ, ◌+◌, ◌*◌, ◌/◌, ◌%◌, ◌≤◌, ◌<◌}
use native.Mathlib.Nat.{div-eq_of_lt-le, mul-add-mod_self_right, mod-eq_of_lt, le-div_iff_mul-le, div-mul-le_self}
use native.Mathlib.Omega.{arith}

module _ (d n i : ℕ) (h : i < n) where
  pub quotient : (d * n + i) / n ≡ d
  quotient = div-eq_of_lt-le n (omega arith) (omega arith)

  pub remainder : (d * n + i) % n ≡ i
  remainder = mul-add-mod_self_right d n i ∙ mod-eq_of_lt h

pub quotient_le : (n a b : ℕ) → 0 < n → a ≤ b → a / n ≤ b / n
quotient_le n a b h l = (le-div_iff_mul-le h).1 (omega (arith, div-mul-le_self a n))
