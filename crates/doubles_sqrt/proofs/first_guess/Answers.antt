-- `doubles_sqrt::first_guess` meets its contract. Assumes nothing.
use Prim.Native.Nat.{ℕ, ◌*◌, ◌/◌, ◌-◌, ◌^◌, ◌≤◌, ◌<◌}
use native.Mathlib.Nat.{mul-le-mul, lt_of_le_of_lt}
use native.Mathlib.Omega.{arith}
use Rattle.doubles_sqrt.proofs.first_guess.Goals as goal

-- the upper digits of m times the slope there
rise : (m : ℕ) → m < 2 ^ 54 → m / 0x400_0000 * (549_098 - m / 0x80_0000_0000 * 5) < 2 ^ 28 * 549_098
rise m h = lt_of_le_of_lt (mul-le-mul upper slope) (omega arith)
  where
    upper : m / 0x400_0000 ≤ 2 ^ 28 - 1
    upper = omega arith

    slope : 549_098 - m / 0x80_0000_0000 * 5 ≤ 549_098
    slope = omega arith

pub overflow_mul-result : goal.overflow_mul-result
overflow_mul-result c = omega (arith, rise c.args.m c.requires)

pub overflow_add-result : goal.overflow_add-result
overflow_add-result c = omega (arith, rise c.args.m c.requires)

pub returns : goal.returns
returns c = record { low = omega (arith, rise c.args.m c.requires); high = omega (arith, rise c.args.m c.requires) }
