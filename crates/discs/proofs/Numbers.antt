-- What W-234 asks of the numbers, as natural numbers: the least M (`decimal-least`, `millionth-least`), a lower bound
-- (`margin-natural`), refusal 7's limit of the guard (`guard-most`), and that M may be the largest that e and the guard allow
-- (`every-bound`). Assumes nothing.
use mathlib.Core.Path.{◌≡◌, refl, sym, subst}
use mathlib.Core.Bool.{Bool, true, false, not, cond}
use Prim.Native.Nat.{ℕ, suc, ◌+◌, ◌*◌, ◌^◌, ◌≤◌, ◌<◌}
use native.Mathlib.Nat.{le_refl, le_trans, le_of_eq, le_of_lt, mul-le-mul_left, mul-le-mul_right, le_of_mul-le-mul_left}
use native.Mathlib.Omega.{arith}
use lib.Dec.{T, leb, leb→le, nleb→lt, le→leb, lit≤, lit<}
use lib.IntN.{ℤ, pos, negsuc, nat_abs, ◌*ℤ◌}
use lib.Signed.{◌≤ℤ◌, le_z_yes}
use lib.Ieee.{Float, binary64, of_bits, le, fits}
use Rattle.doubles.specs.Constants.{one, millionth}
use Rattle.doubles_sqrt.specs.Root.{magnitude}
use Rattle.doubles_rounding.specs.Units.{HasUnits, signed_magnitude}
use Rattle.doubles_rounding.proofs.IntegerParts.{plus, minus, times-parts, le_parts, parts-le}
use Rattle.doubles_rounding.proofs.Values.{le-value}
use Rattle.discs.specs.Disc.{in_units, margin_parts, SizeAtMost, DiscPre}

pub bounded-value : (M : ℕ) (x : Float) (z : ℤ) → SizeAtMost M x → in_units x ≡ z → HasUnits binary64 x z
bounded-value M x z w e = record { held = w.held; finite = w.finite; units = e }

-- ---- an M that is 1e-6 at least, by the decimal or by the double, is 2 ^ -20 at least
pub decimal-least : (M : ℕ) → 2 ^ 1074 ≤ 10 ^ 6 * M → 2 ^ 1054 ≤ M
decimal-least M h =
    let bound : 10 ^ 6 ≤ 2 ^ 20 = lit≤ tt in
    le_of_mul-le-mul_left {k = 2 ^ 20} (le_trans (le_of_eq refl) (le_trans h (mul-le-mul_right M bound))) (lit< tt)

pub millionth-least : (M : ℕ) → (in_units millionth) ≤ℤ (pos M) → 2 ^ 1054 ≤ M
unfolding of_bits signed_magnitude magnitude
millionth-least M h = le_trans (lit≤ tt) (leb→le _ M h.le)

-- ---- a lower bound
pub margin-natural : (c M : ℕ) (z : ℤ) → 0 < c → (pos M) ≤ℤ (pos c *ℤ z) → (z ≡ pos (nat_abs z)) × (M ≤ c * nat_abs z)
margin-natural c M (pos n) C h = (refl, omega (arith, le_parts (pos M) (pos (c * n)) h))
margin-natural c M (negsuc n) C h =
    absurd (none (times-parts c (negsuc n)).0 (times-parts c (negsuc n)).1 (le_parts (pos M) (pos c *ℤ negsuc n) h))
  where
    none : plus (pos c *ℤ negsuc n) ≡ c * 0 → minus (pos c *ℤ negsuc n) ≡ c * suc n
        → M + minus (pos c *ℤ negsuc n) ≤ plus (pos c *ℤ negsuc n) + 0 → ⊥
    none a b g = omega arith

-- ---- the guard is 1 at most
one_value : HasUnits binary64 one (pos (2 ^ 1074))
unfolding of_bits fits signed_magnitude
one_value = record { held = tt; finite = tt; units = refl }

pub guard-most : (M : ℕ) (guard : Float) → SizeAtMost M guard → le guard one ≡ true → (in_units guard) ≤ℤ (pos (2 ^ 1074))
guard-most M guard w h =
    parts-le (in_units guard) (pos (2 ^ 1074))
    (le-value binary64 guard one (in_units guard) (pos (2 ^ 1074)) (bounded-value M guard (in_units guard) w refl) one_value h)

-- ---- the largest M
abbrev lesser : ℕ → ℕ → ℕ
lesser a b = cond (leb a b) a b

-- every M that meets what is asked is at most this one
abbrev pub largest_bound : (e guard : Float) → ℕ
largest_bound e guard = margin_parts * lesser (nat_abs (in_units e)) (nat_abs (in_units guard))

-- the lesser of two is at most both, and every number that is at most both is at most the lesser
record Lesser (a b m : ℕ) : Type 0 where
  left : m ≤ a
  right : m ≤ b
  most : (c M : ℕ) → M ≤ c * a → M ≤ c * b → M ≤ c * m

is-lesser : (a b : ℕ) → Lesser a b (lesser a b)
is-lesser a b = go (leb a b) (leb→le a b) (nleb→lt a b)
  where
    go : (t : Bool) → (T t → a ≤ b) → (T (not t) → b < a) → Lesser a b (cond t a b)
    go true h k = record { left = le_refl a; right = h tt; most = λ c M p q. p }
    go false h k = record { left = le_of_lt (k tt); right = le_refl b; most = λ c M p q. q }

more-bounded : (M K : ℕ) (x : Float) → M ≤ K → SizeAtMost M x → SizeAtMost K x
more-bounded M K x h w = record { held = w.held; finite = w.finite; bound = le_trans w.bound h }

from-multiple : (c K n : ℕ) (z : ℤ) → z ≡ pos n → K ≤ c * n → (pos K) ≤ℤ (pos c *ℤ z)
from-multiple c K n z e h = subst (λ (w : ℤ). (pos K) ≤ℤ (pos c *ℤ w)) (sym e) (le_z_yes (le→leb K (c * n) h))

-- M can be left out: where some M does, the largest one does, which e and the guard alone decide
pub every-bound : (M : ℕ) (cx cy y0 y1 e guard r : Float) → DiscPre M cx cy y0 y1 e guard r
    → (M ≤ largest_bound e guard) × DiscPre (largest_bound e guard) cx cy y0 y1 e guard r
every-bound M cx cy y0 y1 e guard r S =
    let K = largest_bound e guard in
    let E = margin-natural margin_parts M (in_units e) (lit< tt) S.e_least in
    let G = margin-natural margin_parts M (in_units guard) (lit< tt) S.guard_least in
    let L = is-lesser (nat_abs (in_units e)) (nat_abs (in_units guard)) in
    let m : M ≤ K = L.most margin_parts M E.1 G.1 in (
      m,
      record {
        bound_least = le_trans S.bound_least m;
        cx_bounded = more-bounded M K cx m S.cx_bounded;
        cy_bounded = more-bounded M K cy m S.cy_bounded;
        y0_bounded = more-bounded M K y0 m S.y0_bounded;
        y1_bounded = more-bounded M K y1 m S.y1_bounded;
        e_bounded = more-bounded M K e m S.e_bounded;
        guard_bounded = more-bounded M K guard m S.guard_bounded;
        r_bounded = more-bounded M K r m S.r_bounded;
        r_least = S.r_least;
        e_least = from-multiple margin_parts K (nat_abs (in_units e)) (in_units e) E.0 (mul-le-mul_left margin_parts L.left);
        guard_least =
            from-multiple margin_parts K (nat_abs (in_units guard)) (in_units guard) G.0 (mul-le-mul_left margin_parts L.right);
      },
    )
