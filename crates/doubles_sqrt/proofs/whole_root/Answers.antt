-- `doubles_sqrt::whole_root` meets its contract: its loop steps down from a number that is no less than the root. Assumes nothing.
use mathlib.Core.Path.{◌≡◌, subst}
use Prim.Native.Nat.{ℕ, suc, ◌*◌, ◌-◌, ◌^◌, ◌≤◌, ◌<◌}
use native.Mathlib.Nat.{mul-le-mul, lt_of_le_of_lt}
use native.Mathlib.Omega.{arith}
use Rattle.doubles_sqrt.proofs.WholeRoot.{whole-root, root-unique, square-lt}
use Rattle.doubles_sqrt.specs.Root.{whole_root}
use Rattle.doubles_sqrt.proofs.whole_root.Goals as goal

-- a number whose square is above m is above 0, and one less is no less than the root
down : (m r : ℕ) → m < r * r → (1 ≤ r) × (m < suc (r - 1) * suc (r - 1))
down m ℕ.zero h = absurd (nothing h)
  where
    nothing : m < 0 * 0 → ⊥
    nothing g = omega arith
down m (suc r) h = (one, subst (λ (x : ℕ). m < suc x * suc x) same h)
  where
    one : 1 ≤ suc r
    one = omega arith

    same : r ≡ suc r - 1
    same = omega arith

-- the root of an m of 53 or 54 digits has 27
digits : (m r : ℕ) → 2 ^ 52 ≤ m → m < 2 ^ 54 → r * r ≤ m → m < suc r * suc r → (2 ^ 26 ≤ r) × (r < 2 ^ 27)
digits m r h k a b = (below (square-lt (2 ^ 26) (suc r) (lt_of_le_of_lt h b)), square-lt r (2 ^ 27) (lt_of_le_of_lt a k))
  where
    below : 2 ^ 26 < suc r → 2 ^ 26 ≤ r
    below g = omega arith

pub loop-root-init : goal.loop-root-init
loop-root-init c = (c.heron-root.ensures.above, c.heron-root.ensures.small)

-- a root below 2 ^ 30 has a square that fits
pub overflow_mul-root : goal.overflow_mul-root
overflow_mul-root c = record { fits = under c.loop-root.root c.loop-root.invariant.1 }
  where
    under : (r : ℕ) → r < 2 ^ 30 → r * r < 2 ^ 64
    under r h = square (mul-le-mul (le r h) (le r h))
      where
        le : (r : ℕ) → r < 2 ^ 30 → r ≤ 2 ^ 30
        le r h = omega arith

        square : r * r ≤ 2 ^ 30 * 2 ^ 30 → r * r < 2 ^ 64
        square g = omega arith

pub overflow_sub-root : goal.overflow_sub-root
overflow_sub-root c = (down c.args.m c.loop-root.root c.loop-root-test.true).0

pub loop-root-smaller : goal.loop-root-smaller
loop-root-smaller c = omega (arith, (down c.args.m c.loop-root.root c.loop-root-test.true).0)

pub loop-root-preserved : goal.loop-root-preserved
loop-root-preserved c = ((down c.args.m c.loop-root.root c.loop-root-test.true).1, omega arith)

pub returns : goal.returns
returns c =
    let m = c.args.m in
    let root = c.loop-root.root in
    let d = digits m root c.requires.m_least c.requires.m_bound c.loop-root-test.false c.loop-root.invariant.0 in
    record {
      is = root-unique m root (whole_root m) (c.loop-root-test.false, c.loop-root.invariant.0) (whole-root m);
      lower = c.loop-root-test.false;
      upper = c.loop-root.invariant.0;
      large = d.0;
      small = d.1;
    }
