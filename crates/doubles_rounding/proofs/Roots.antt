-- The square root of n units, in units: for H the result and W = 2 ^ (p - 1), the exact root lies between H * W / (W + 1) and
-- H * (W + 1) / W (`root-units`). In either format. Assumes nothing.
use mathlib.Core.Path.{◌≡◌, refl, sym, ap, ◌∙◌, subst}
use Prim.Native.Nat.{ℕ, zero, suc, ◌+◌, ◌-◌, ◌*◌, ◌^◌, ◌≤◌, ◌<◌, zero-le, compare}
use mathlib.Core.Logic.{inl, inr}
use native.Mathlib.Nat.{lt_irrefl, zero-lt-suc, zero-mul, mul-zero, mul-pos, eq-zero-or-pos, le_trans, le_of_eq, le_of_lt}
use native.Mathlib.Nat.{mul_assoc, mul_comm, mul_left_comm, mul-le-mul_left, mul-le-mul_right, mul-le-mul}
use native.Mathlib.Omega.{arith}
use mathlib.Core.Bool.{Bool, true, false, cond}
use lib.Dec.{T, ltb}
use lib.IntN.{pos, nat_abs, pos-ne-negsuc}
use lib.Pow.{pow_pos}
use lib.Ieee.{Float, nan, inf, fin, Format, prec, low, up, down, nearest, odd, units, fits}
use lib.Ieee.Fits.{two, two-le_pos, nearest-le, up_pos}
use lib.Ieee.Nearest.{nearest-ge}
use lib.Ieee.Exact.{HasValue, odd_sign}
use lib.Ieee.Scale.{finite, overflow}
use lib.Ieee.Positive.{positive-finite, positive_of_value}
use Rattle.doubles_sqrt.specs.Root.{square_root, magnitude}
use Rattle.doubles_sqrt.specs.Nearest.{NearestRoot}
use Rattle.doubles_sqrt.proofs.Rounded.{dropped, kept, root_is, bracket, kept-ge}
use Rattle.doubles_sqrt.proofs.Patterns.{root-at}
use Rattle.doubles_sqrt.proofs.Nearest.{nearest-root, root-digits}
use Rattle.doubles_rounding.specs.Units.{HasUnits, signed_magnitude, signed}
use Rattle.doubles_rounding.proofs.Values.{units-at, value-at, units-exact}

-- H is a root of a, to W + 1 over W either way
pub record NearRoot (W a H : ℕ) : Type 0 where
  pub lower : W * W * a ≤ (W + 1) * (W + 1) * (H * H)
  pub upper : W * W * (H * H) ≤ (W + 1) * (W + 1) * a

-- ---- the bounds, from the bracket: q * u and (q + 1) * u are around the root, and the result N * u is one of them
squares : (x y z w u : ℕ) → x * y * u ≤ z * w * u → x * x * (y * u * (y * u)) ≤ z * z * (w * u * (w * u))
squares x y z w u h = le_trans (le_of_eq (squared x y)) (le_trans (mul-le-mul h h) (le_of_eq (sym (squared z w))))
  where
    squared : (x y : ℕ) → x * x * (y * u * (y * u)) ≡ x * y * u * (x * y * u)
    squared x y = simp (mul_assoc, mul_comm, mul_left_comm)

near : (W q N u a : ℕ) → W ≤ q → q ≤ N → N ≤ suc q → q * u * (q * u) ≤ a → a < suc q * u * (suc q * u) → NearRoot W a (N * u)
near W q N u a w l m lo hi =
    record {
      lower = le_trans (mul-le-mul_left (W * W) (le_of_lt hi)) (squares W (suc q) (W + 1) N u (mul-le-mul_right u (grown w l)));
      upper = le_trans (squares W N (W + 1) q u (mul-le-mul_right u (shrunk w m))) (mul-le-mul_left ((W + 1) * (W + 1)) lo);
    }
  where
    grown : W ≤ q → q ≤ N → W * suc q ≤ (W + 1) * N
    grown a b = omega (arith, mul-le-mul_left W b)

    shrunk : W ≤ q → N ≤ suc q → W * N ≤ (W + 1) * q
    shrunk a b = omega (arith, mul-le-mul_left W b)

-- ---- a finite result has the units that were written
units-finite : (f : Format) (q k : ℕ) → T (finite (units f false q k)) → HasValue (units f false q k) false (q * 2 ^ k) (2 ^ low f)
unfolding units
units-finite f q k = go (ltb (q * 2 ^ k) (overflow f))
  where
    go : (b : Bool) → T (finite (cond b (odd (suc (prec f)) false q k (low f)) (inf false)))
        → HasValue (cond b (odd (suc (prec f)) false q k (low f)) (inf false)) false (q * 2 ^ k) (2 ^ low f)
    go true t = odd_sign (suc (prec f)) false q k (low f)
    go false t = absurd t

-- ---- the root of n units
module _ (f : Format) (x : Float) (n : ℕ) (v : HasUnits f x (pos n)) (P : 0 < n) where
  abbrev a : ℕ
  a = n * 2 ^ low f

  abbrev k : ℕ
  k = dropped (prec f) a

  abbrev q : ℕ
  q = kept (prec f) a

  abbrev N : ℕ
  N = nearest q (compare (4 * a) ((2 * q + 1) * 2 ^ k * ((2 * q + 1) * 2 ^ k)))

  has : HasValue x false n (2 ^ low f)
  has = value-at f x n v P

  is : square_root f x ≡ units f false N k
  is = root-at f x n P has ∙ root_is f n

  good : NearestRoot f x (square_root f x)
  good = nearest-root f x v.held (positive_of_value x n (2 ^ low f) has P)

  result : HasUnits f (square_root f x) (pos (N * 2 ^ k))
  result =
      let fine : T (finite (square_root f x)) = positive-finite (square_root f x) good.above_zero in
      record {
        held = good.holds;
        finite = fine;
        units = units-at f (square_root f x) false (N * 2 ^ k)
            (subst (λ (y : Float). HasValue y false (N * 2 ^ k) (2 ^ low f)) (sym is)
            (units-finite f N k (subst (λ (y : Float). T (finite y)) is fine)));
      }

  close : NearRoot (2 ^ (prec f - 1)) (n * 2 ^ low f) (N * 2 ^ k)
  close =
      near (2 ^ (prec f - 1)) q N (2 ^ k) a (kept-ge (prec f) a (two-le_pos (prec f) (two f)) (root-digits f n P))
      (nearest-ge q (compare (4 * a) ((2 * q + 1) * 2 ^ k * ((2 * q + 1) * 2 ^ k))))
      (nearest-le q (compare (4 * a) ((2 * q + 1) * 2 ^ k * ((2 * q + 1) * 2 ^ k))))
      (bracket (prec f) a).0 (bracket (prec f) a).1

  root-value : (H : ℕ) × (HasUnits f (square_root f x) (pos H)) × (NearRoot (2 ^ (prec f - 1)) (n * 2 ^ low f) H)
  root-value = (N * 2 ^ k, result, close)

-- ---- a zero is its own root
root-of-zero : (f : Format) (x : Float) → T (fits f x) → T (finite x) → signed_magnitude f x ≡ pos 0 → square_root f x ≡ x
unfolding square_root signed_magnitude
root-of-zero f nan t u h = absurd u
root-of-zero f (inf s) t u h = absurd u
root-of-zero f (fin s zero e) t u h = refl
root-of-zero f (fin s (suc m) e) t u h = absurd (clash (units-exact f s (suc m) e t) (sizes s (magnitude f (fin s (suc m) e)) h))
  where
    sizes : (s : Bool) (n : ℕ) → signed s n ≡ pos 0 → n ≡ 0
    sizes false n g = ap nat_abs g
    sizes true zero g = refl
    sizes true (suc n) g = absurd (pos-ne-negsuc 0 n (sym g))

    clash : suc m * up e * 2 ^ low f ≡ magnitude f (fin s (suc m) e) * down e → magnitude f (fin s (suc m) e) ≡ 0 → ⊥
    clash g k = lt_irrefl 0 (subst (λ (x : ℕ). 0 < x) (g ∙ ap (λ (x : ℕ). x * down e) k ∙ zero-mul (down e))
        (mul-pos (mul-pos (zero-lt-suc m) (up_pos e)) (pow_pos (low f))))

-- the root of n units, also of 0
pub root-units : (f : Format) (x : Float) (n : ℕ) → HasUnits f x (pos n)
    → (H : ℕ) × (HasUnits f (square_root f x) (pos H)) × (NearRoot (2 ^ (prec f - 1)) (n * 2 ^ low f) H)
root-units f x n v = elim (eq-zero-or-pos n) [
  | inl z ↦ (
    0,
    subst (λ (y : Float). HasUnits f y (pos 0)) (sym (root-of-zero f x v.held v.finite (v.units ∙ ap pos z)))
        (record { held = v.held; finite = v.finite; units = v.units ∙ ap pos z }),
    record { lower = none (n * 2 ^ low f) (ap (λ (k : ℕ). k * 2 ^ low f) z ∙ zero-mul (2 ^ low f)); upper = zeros },
  )
  | inr p ↦ root-value f x n v p
]
  where
    none : (y : ℕ) → y ≡ 0 → 2 ^ (prec f - 1) * 2 ^ (prec f - 1) * y ≤ (2 ^ (prec f - 1) + 1) * (2 ^ (prec f - 1) + 1) * (0 * 0)
    none y g = le_trans (le_of_eq (ap (λ (k : ℕ). 2 ^ (prec f - 1) * 2 ^ (prec f - 1) * k) g
        ∙ mul-zero (2 ^ (prec f - 1) * 2 ^ (prec f - 1)))) zero-le

    zeros : 2 ^ (prec f - 1) * 2 ^ (prec f - 1) * (0 * 0) ≤ (2 ^ (prec f - 1) + 1) * (2 ^ (prec f - 1) + 1) * (n * 2 ^ low f)
    zeros = le_trans (le_of_eq (mul-zero (2 ^ (prec f - 1) * 2 ^ (prec f - 1)))) zero-le
