-- `doubles_sqrt::heron` meets its contract. Assumes nothing.
use Prim.Native.Nat.{ℕ, suc, ◌*◌, ◌/◌, ◌^◌, ◌≤◌, ◌<◌}
use native.Mathlib.Nat.{lt_of_le_of_lt, div-lt_iff_lt-mul}
use native.Mathlib.Omega.{arith}
use Rattle.doubles_sqrt.proofs.WholeRoot.{square-lt}
use Rattle.doubles_sqrt.proofs.HeronRule.{heron-above}
use Rattle.doubles_sqrt.proofs.heron.Goals as goal

quotient-small : (m g : ℕ) → m < 2 ^ 54 → 2 ^ 25 ≤ g → m / g < 2 ^ 30
quotient-small m g h k = (div-lt_iff_lt-mul positive).1 under
  where
    positive : 0 < g
    positive = omega arith

    under : m < 2 ^ 30 * g
    under = omega arith

-- a number that is no less than the root of an m of 53 digits
large : (m r : ℕ) → 2 ^ 52 ≤ m → m < suc r * suc r → 2 ^ 25 ≤ r
large m r h l = below (square-lt (2 ^ 26) (suc r) (lt_of_le_of_lt h l))
  where
    below : 2 ^ 26 < suc r → 2 ^ 25 ≤ r
    below g = omega arith

pub overflow_add-result : goal.overflow_add-result
overflow_add-result c = omega (arith, quotient-small c.args.m c.args.guess c.requires.m_bound c.requires.guess_least)

pub returns : goal.returns
returns c =
    let m = c.args.m in
    let g = c.args.guess in
    let positive : 0 < g = omega arith in
    let above = heron-above m g positive in
    record {
      above = above;
      large = large m _ c.requires.m_least above;
      small = omega (arith, quotient-small m g c.requires.m_bound c.requires.guess_least);
    }
