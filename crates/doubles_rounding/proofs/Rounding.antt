-- How far `round` goes from its fraction, for a format of p digits. A fraction is n / c units, and its result G units.
-- `ratio-error`: 2 ^ p * |G * c - n| is at most n + 2 ^ (p - 1) * c, the second term for results below the normal range.
-- `whole-error`: a whole number n of units has a relative error of 2 ^ -p at most, with no such term. Assumes nothing.
use mathlib.Core.Path.{◌≡◌, sym, ap, ◌∙◌, subst}
use mathlib.Core.Logic.{◌⊎◌, inl, inr}
use Prim.Native.Nat.{ℕ, zero, suc, ◌+◌, ◌-◌, ◌*◌, ◌/◌, ◌%◌, ◌^◌, ◌≤◌, ◌<◌, compare, Ordering}
use native.Mathlib.Nat.{mul-le-mul_right, le_of_mul-le-mul_left}
use native.Mathlib.Nat.{le_trans, le_of_eq, mul-one, mul_comm, mul_assoc, mul_left_comm, mul-le-mul_left, mul-pos, mod-lt}
use native.Mathlib.Nat.{div-add-mod', le-div_iff_mul-le, eq-zero-or-pos, zero-mul}
use native.Mathlib.Omega.{arith}
use lib.Pow.{pow-add, pow_pos}
use lib.Ieee.{size, nearest}
use lib.Ieee.Digits.{size_reaches}
use lib.Ieee.Nearest.{closest, closest_same, div_same}
use lib.Ieee.Order.{drop, kept}
use Rattle.doubles_sqrt.proofs.Rounded.{Compared, compared}

-- ---- n / u to the nearest whole number is at most a half away
nearest-near : (q r u : ℕ) (o : Ordering) → Compared o (r * 2) u → r < u
    → (2 * (nearest q o * u) ≤ 2 * (q * u + r) + u) × (2 * (q * u + r) ≤ 2 * (nearest q o * u) + u)
nearest-near q r u Ordering.lt c l = omega arith
nearest-near q r u Ordering.eq c l = go (q % 2) (bit q)
  where
    bit : (x : ℕ) → x % 2 < 2
    bit x = omega arith

    go : (b : ℕ) → b < 2 → (2 * ((q + b) * u) ≤ 2 * (q * u + r) + u) × (2 * (q * u + r) ≤ 2 * ((q + b) * u) + u)
    go zero h = omega arith
    go (suc zero) h = omega arith
    go (suc (suc b)) h = absurd (none h)
      where
        none : suc (suc b) < 2 → ⊥
        none g = omega arith
nearest-near q r u Ordering.gt c l = omega arith

closest-near : (n u : ℕ) → 0 < u → (2 * (closest n u * u) ≤ 2 * n + u) × (2 * n ≤ 2 * (closest n u * u) + u)
closest-near n u U =
    subst (λ (x : ℕ). (2 * (closest n u * u) ≤ 2 * x + u) × (2 * x ≤ 2 * (closest n u * u) + u)) (div-add-mod' n u)
    (nearest-near (n / u) (n % u) u (compare (n % u * 2) u) (compared (n % u * 2) u) (mod-lt n U))

-- ---- n / c, rounded to p digits: what `round` keeps of it, in units
abbrev pub round_ratio : ℕ → ℕ → ℕ → ℕ
round_ratio p n c = kept p n c * 2 ^ drop p n c

ratio-near : (p n c : ℕ) → 0 < c → (2 * (round_ratio p n c * c) ≤ 2 * n + c * 2 ^ drop p n c)
    × (2 * n ≤ 2 * (round_ratio p n c * c) + c * 2 ^ drop p n c)
ratio-near p n c C =
    let k = drop p n c in
    let same : kept p n c * (c * 2 ^ k) ≡ round_ratio p n c * c = mul_left_comm (kept p n c) c (2 ^ k) ∙ mul_comm c (kept p n c * 2 ^ k) in
    subst (λ (x : ℕ). (2 * x ≤ 2 * n + c * 2 ^ k) × (2 * n ≤ 2 * x + c * 2 ^ k)) same (closest-near n (c * 2 ^ k) (mul-pos C (pow_pos k)))

-- where digits are dropped, the unit of the result is small against n / c
unit-small : (p n c : ℕ) → 0 < p → 0 < c → 0 < drop p n c → 2 ^ (p - 1) * (c * 2 ^ drop p n c) ≤ n
unit-small p n c P C K =
    let k = drop p n c in
    let a : 2 ^ (p - 1 + k) ≤ n / c = size_reaches (n / c) (p - 1 + k) (room (size (n / c)) K) in
    le_trans (le_of_eq (mul_left_comm (2 ^ (p - 1)) c (2 ^ k) ∙ mul_comm c (2 ^ (p - 1) * 2 ^ k)
    ∙ ap (λ (x : ℕ). x * c) (sym (pow-add 2 (p - 1) k)))) ((le-div_iff_mul-le C).0 a)
  where
    room : (z : ℕ) → 0 < z - p → p - 1 + (z - p) < z
    room z h = omega arith

double : (p : ℕ) → 0 < p → 2 ^ p ≡ 2 * 2 ^ (p - 1)
double p P = ap (λ (x : ℕ). 2 ^ x) (one_more p P) ∙ pow-add 2 1 (p - 1)
  where
    one_more : (p : ℕ) → 0 < p → p ≡ 1 + (p - 1)
    one_more p h = omega arith

-- W is 2 ^ (p - 1), h the unit of the result
scaled : (W G n h rest : ℕ) → W * h ≤ rest → (2 * G ≤ 2 * n + h) × (2 * n ≤ 2 * G + h)
    → (2 * W * G ≤ 2 * W * n + rest) × (2 * W * n ≤ 2 * W * G + rest)
scaled W G n h rest l e = omega (arith, mul-le-mul_left W e.0, mul-le-mul_left W e.1)

pub ratio-error : (p n c : ℕ) → 0 < p → 0 < c
    → (2 ^ p * (round_ratio p n c * c) ≤ 2 ^ p * n + (n + 2 ^ (p - 1) * c))
    × (2 ^ p * n ≤ 2 ^ p * (round_ratio p n c * c) + (n + 2 ^ (p - 1) * c))
ratio-error p n c P C =
    subst (λ (x : ℕ). (x * (round_ratio p n c * c) ≤ x * n + (n + 2 ^ (p - 1) * c))
    × (x * n ≤ x * (round_ratio p n c * c) + (n + 2 ^ (p - 1) * c))) (sym (double p P))
    (scaled (2 ^ (p - 1)) (round_ratio p n c * c) n (c * 2 ^ drop p n c) (n + 2 ^ (p - 1) * c)
    (unit-le (eq-zero-or-pos (drop p n c))) (ratio-near p n c C))
  where
    unit-le : (drop p n c ≡ 0) ⊎ (0 < drop p n c) → 2 ^ (p - 1) * (c * 2 ^ drop p n c) ≤ n + 2 ^ (p - 1) * c
    unit-le (inl z) = le_trans (le_of_eq
        (ap (λ (k : ℕ). 2 ^ (p - 1) * (c * 2 ^ k)) z ∙ ap (λ (x : ℕ). 2 ^ (p - 1) * x) (mul-one c))) (more (2 ^ (p - 1) * c))
      where
        more : (x : ℕ) → x ≤ n + x
        more x = omega arith
    unit-le (inr h) = le_trans (unit-small p n c P C h) (more (2 ^ (p - 1) * c))
      where
        more : (x : ℕ) → n ≤ n + x
        more x = omega arith

-- ---- a whole number n of units
abbrev pub round_whole : ℕ → ℕ → ℕ
round_whole p n = round_ratio p n 1

pub whole-error : (p n : ℕ) → 0 < p → (2 ^ p * round_whole p n ≤ 2 ^ p * n + n) × (2 ^ p * n ≤ 2 ^ p * round_whole p n + n)
whole-error p n P = go (eq-zero-or-pos (drop p n 1)) (ratio-near p n 1 one)
  where
    one : 0 < 1
    one = omega arith

    exact : (G h : ℕ) → h ≡ 1 → (2 * (G * 1) ≤ 2 * n + h) × (2 * n ≤ 2 * (G * 1) + h) → G ≡ n
    exact G h e b = omega arith

    go : (drop p n 1 ≡ 0) ⊎ (0 < drop p n 1) → (2 * (round_whole p n * 1) ≤ 2 * n + 1 * 2 ^ drop p n 1)
        × (2 * n ≤ 2 * (round_whole p n * 1) + 1 * 2 ^ drop p n 1)
        → (2 ^ p * round_whole p n ≤ 2 ^ p * n + n) × (2 ^ p * n ≤ 2 ^ p * round_whole p n + n)
    go (inl z) b =
        subst (λ (x : ℕ). (2 ^ p * x ≤ 2 ^ p * n + n) × (2 ^ p * n ≤ 2 ^ p * x + n))
        (sym (exact (round_whole p n) (1 * 2 ^ drop p n 1) (ap (λ (k : ℕ). 1 * 2 ^ k) z) b)) (close (2 ^ p * n))
      where
        close : (x : ℕ) → (x ≤ x + n) × (x ≤ x + n)
        close x = omega arith
    go (inr h) b =
        subst (λ (x : ℕ). (x * round_whole p n ≤ x * n + n) × (x * n ≤ x * round_whole p n + n)) (sym (double p P))
        (scaled (2 ^ (p - 1)) (round_whole p n) n (1 * 2 ^ drop p n 1) n (unit-small p n 1 P one h)
        (subst (λ (x : ℕ). (2 * x ≤ 2 * n + 1 * 2 ^ drop p n 1) × (2 * n ≤ 2 * x + 1 * 2 ^ drop p n 1)) (mul-one (round_whole p n)) b))

-- at most twice the number
pub whole_le : (p n : ℕ) → 0 < p → round_whole p n ≤ 2 * n
whole_le p n h = le_of_mul-le-mul_left (by (2 ^ p) (round_whole p n) (whole-error p n h).0 (pow_pos p)) (pow_pos p)
  where
    by : (N G : ℕ) → N * G ≤ N * n + n → 0 < N → N * G ≤ N * (2 * n)
    by N G g k = omega (arith, mul-le-mul_right n k)

-- ---- equal fractions, and zero
pub ratio-same : (p a b c d : ℕ) → 0 < b → 0 < d → a * d ≡ c * b → round_ratio p a b ≡ round_ratio p c d
ratio-same p a b c d B D e =
    let k = drop p c d in
    ap (λ (x : ℕ). closest a (b * 2 ^ x) * 2 ^ x) (ap (λ (x : ℕ). size x - p) (div_same a b c d B D e))
    ∙ ap (λ (x : ℕ). x * 2 ^ k) (closest_same a (b * 2 ^ k) c (d * 2 ^ k) (mul-pos B (pow_pos k))
    (mul-pos D (pow_pos k)) (sym (mul_assoc a d (2 ^ k)) ∙ ap (λ (x : ℕ). x * 2 ^ k) e ∙ mul_assoc c b (2 ^ k)))

pub ratio-zero : (p c : ℕ) → 0 < p → 0 < c → round_ratio p 0 c ≡ 0
ratio-zero p c P C = ratio-same p 0 c 0 1 C one (zero-mul 1 ∙ sym (zero-mul c))
    ∙ none (round_whole p 0) (2 ^ p) (pow_pos p) (whole-error p 0 P).0
  where
    one : 0 < 1
    one = omega arith

    none : (G W : ℕ) → 0 < W → W * G ≤ W * 0 + 0 → G ≡ 0
    none G W w h = go (eq-zero-or-pos G)
      where
        go : (G ≡ 0) ⊎ (0 < G) → G ≡ 0
        go (inl z) = z
        go (inr g) = absurd (clash (W * G) (mul-pos w g) h)
          where
            clash : (x : ℕ) → 0 < x → x ≤ W * 0 + 0 → ⊥
            clash x a b = omega arith
