-- A test that fails decides an `&&`; and a digit that is neither 0 nor 1. Assumes nothing.
use mathlib.Core.Path.{◌≡◌}
use mathlib.Core.Bool.{Bool, false, ◌&&◌}
use Prim.Native.Nat.{ℕ, suc, ◌-◌}
use native.Mathlib.Omega.{arith}

pub and_no : (a b : Bool) → a ≡ false → false ≡ (a && b)
and_no a b h = rw h

-- a digit that is neither 0 nor 1, in the form that a definition by digits reads
pub third : (n : ℕ) → (n ≡ 0 → ⊥) → (n ≡ 1 → ⊥) → n ≡ suc (suc (n - 2))
third n h k = omega arith
