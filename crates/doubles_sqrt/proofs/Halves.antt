-- A root from the root of its upper half (P. Zimmermann, Karatsuba Square Root, 1999), where the lower half of the
-- radicand is zero: the root of m * B * B from the root s of m, for a B that is not above 2 s. With (m - s * s) * B =
-- 2 s * low + u and u < 2 s, it is s * B + low, or one less where low * low is above u * B. Assumes nothing.
use mathlib.Core.Path.{◌≡◌, refl, sym, ap, subst}
use Prim.Native.Nat.{ℕ, zero, suc, ◌+◌, ◌-◌, ◌*◌, ◌≤◌, ◌<◌}
use native.Mathlib.Nat.{le_trans, le_of_eq, mul-le-mul_right, mul-le-mul, le_of_mul-le-mul_right}
use native.Mathlib.Omega.{arith}
use Rattle.doubles_sqrt.proofs.WholeRoot.{IsRoot}

module _ (m B s low u : ℕ) (r : IsRoot m s) (pos : 0 < s) (wide : B ≤ 2 * s) (e : (m - s * s) * B ≡ low * (s * 2) + u) (l : u < s * 2) where
  -- m * B * B is the square of s * B + low, and u * B - low * low more
  opened : m * B * B + low * low ≡ (s * B + low) * (s * B + low) + u * B
  opened = regroup (m - s * s) (whole r.0) (ap (λ (x : ℕ). x * B) e)
    where
      whole : s * s ≤ m → m ≡ s * s + (m - s * s)
      whole h = omega arith

      regroup : (d : ℕ) → m ≡ s * s + d → d * B * B ≡ (low * (s * 2) + u) * B
          → m * B * B + low * low ≡ (s * B + low) * (s * B + low) + u * B
      regroup d g h = subst (λ (x : ℕ). x * B * B + low * low ≡ (s * B + low) * (s * B + low) + u * B) (sym g) product
        where
          product : (s * s + d) * B * B + low * low ≡ (s * B + low) * (s * B + low) + u * B
          product = omega arith

  pub low-le : low ≤ B
  low-le = le_of_mul-le-mul_right (le_trans (under e) (le_trans (mul-le-mul_right B (rest_le r.1)) (le_of_eq same))) (twice pos)
    where
      under : (m - s * s) * B ≡ low * (s * 2) + u → low * (s * 2) ≤ (m - s * s) * B
      under g = omega arith

      rest_le : m < suc s * suc s → m - s * s ≤ s * 2
      rest_le h = omega arith

      same : s * 2 * B ≡ B * (s * 2)
      same = omega arith

      twice : 0 < s → 0 < s * 2
      twice h = omega arith

  pub whole : low * low ≤ u * B → IsRoot (m * B * B) (s * B + low)
  whole h = (lower opened, upper opened (mul-le-mul_right B l))
    where
      lower : m * B * B + low * low ≡ (s * B + low) * (s * B + low) + u * B → (s * B + low) * (s * B + low) ≤ m * B * B
      lower g = omega arith

      upper : m * B * B + low * low ≡ (s * B + low) * (s * B + low) + u * B → suc u * B ≤ s * 2 * B
          → m * B * B < suc (s * B + low) * suc (s * B + low)
      upper g k = omega arith

  pub less : u * B < low * low → IsRoot (m * B * B) (s * B + low - 1)
  less h = go low refl
    where
      none : low ≡ 0 → ⊥
      none z = empty (subst (λ (x : ℕ). u * B < x * x) z h)
        where
          empty : u * B < 0 * 0 → ⊥
          empty g = omega arith

      go : (c : ℕ) → low ≡ c → IsRoot (m * B * B) (s * B + low - 1)
      go zero z = absurd (none z)
      go (suc c) z = subst (λ (x : ℕ). IsRoot (m * B * B) x) (sym taken)
          (lower equation small, upper equation (subst (λ (x : ℕ). u * B < x * x) z h))
        where
          taken : s * B + low - 1 ≡ s * B + c
          taken = omega arith

          equation : m * B * B + suc c * suc c ≡ (s * B + suc c) * (s * B + suc c) + u * B
          equation = subst (λ (x : ℕ). m * B * B + x * x ≡ (s * B + x) * (s * B + x) + u * B) z opened

          -- (c + 1) * (c + 1) is at most 2 s B + 2 c + 1, since c + 1 ≤ B ≤ 2 s
          small : suc c * suc c ≤ 2 * s * B
          small = mul-le-mul (le_trans (le_of_eq (sym z)) (le_trans low-le wide)) (le_trans (le_of_eq (sym z)) low-le)

          lower : m * B * B + suc c * suc c ≡ (s * B + suc c) * (s * B + suc c) + u * B → suc c * suc c ≤ 2 * s * B
              → (s * B + c) * (s * B + c) ≤ m * B * B
          lower g k = omega arith

          upper : m * B * B + suc c * suc c ≡ (s * B + suc c) * (s * B + suc c) + u * B → u * B < suc c * suc c
              → m * B * B < suc (s * B + c) * suc (s * B + c)
          upper g k = omega arith
