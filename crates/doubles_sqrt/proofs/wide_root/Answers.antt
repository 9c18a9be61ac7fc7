-- `doubles_sqrt::wide_root` meets its contract: `Halves` with a lower half of 27 digits. Assumes nothing.
use mathlib.Core.Path.{◌≡◌, sym, subst}
use Prim.Native.Nat.{ℕ, ◌+◌, ◌-◌, ◌*◌, ◌/◌, ◌%◌, ◌^◌, ◌≤◌, ◌<◌}
use native.Mathlib.Nat.{mod-lt, div-add-mod', mul-le-mul}
use native.Mathlib.Omega.{arith}
use Rattle.doubles_sqrt.specs.Root.{whole_root}
use Rattle.doubles_sqrt.specs.Radicand.{RootOf}
use Rattle.doubles_sqrt.proofs.WholeRoot.{IsRoot, whole-root, root-unique}
use Rattle.doubles_sqrt.proofs.Halves.{low-le, whole, less}
use Rattle.doubles_sqrt.proofs.wide_root.Goals as goal

-- the remainder of m, with 27 digits after it; its quotient and remainder by twice the root
abbrev rest : ℕ → ℕ → ℕ
rest m s = (m - s * s) * 2 ^ 27

abbrev low : ℕ → ℕ → ℕ
low m s = rest m s / (s * 2)

module _ (m s : ℕ) (r : RootOf m s) where
  positive : 0 < s
  positive = omega arith

  twice-positive : 0 < s * 2
  twice-positive = omega arith

  wide : 2 ^ 27 ≤ 2 * s
  wide = omega arith

  remainder : rest m s % (s * 2) < s * 2
  remainder = mod-lt (rest m s) twice-positive

  low_small : low m s ≤ 2 ^ 27
  low_small = low-le m (2 ^ 27) s (low m s) (rest m s % (s * 2)) (r.lower, r.upper) positive wide
      (sym (div-add-mod' (rest m s) (s * 2))) remainder

  found : (t : ℕ) → IsRoot (m * 2 ^ 27 * 2 ^ 27) t → t ≡ whole_root (m * 2 ^ 54)
  found t h = root-unique (m * 2 ^ 54) t (whole_root (m * 2 ^ 54)) (subst (λ (x : ℕ). IsRoot x t) same h) (whole-root (m * 2 ^ 54))
    where
      same : m * 2 ^ 27 * 2 ^ 27 ≡ m * 2 ^ 54
      same = omega arith

  kept : low m s * low m s ≤ rest m s % (s * 2) * 2 ^ 27 → s * 2 ^ 27 + low m s ≡ whole_root (m * 2 ^ 54)
  kept h = found (s * 2 ^ 27 + low m s)
      (whole m (2 ^ 27) s (low m s) (rest m s % (s * 2)) (r.lower, r.upper) positive wide
      (sym (div-add-mod' (rest m s) (s * 2))) remainder h)

  one_less : rest m s % (s * 2) * 2 ^ 27 < low m s * low m s → s * 2 ^ 27 + low m s - 1 ≡ whole_root (m * 2 ^ 54)
  one_less h = found (s * 2 ^ 27 + low m s - 1)
      (less m (2 ^ 27) s (low m s) (rest m s % (s * 2)) (r.lower, r.upper) positive wide
      (sym (div-add-mod' (rest m s) (s * 2))) remainder h)

pub overflow_add-root : goal.overflow_add-root
overflow_add-root c = omega (arith, low_small c.args.m c.whole_root-s.result c.whole_root-s.ensures)

pub overflow_mul-low : goal.overflow_mul-low
overflow_mul-low c =
    let l = low_small c.args.m c.whole_root-s.result c.whole_root-s.ensures in
    omega (arith, mul-le-mul l l)

pub overflow_mul-rest-3 : goal.overflow_mul-rest-3
overflow_mul-rest-3 c = omega (arith, remainder c.args.m c.whole_root-s.result c.whole_root-s.ensures)

pub returns-then-low-rest : goal.returns-then-low-rest
returns-then-low-rest c = kept c.args.m c.whole_root-s.result c.whole_root-s.ensures c.if-low-rest.true

pub returns : goal.returns
returns c = one_less c.args.m c.whole_root-s.result c.whole_root-s.ensures c.if-low-rest.false
