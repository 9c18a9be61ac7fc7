-- The rounding errors of half a chord, in whole numbers. The exact half chord of a disc of radius r at the distance D is the root
-- of r * r - D * D. The computed one, H, for the radius r + e, is no smaller if e is at least 16 r / N and e * e at least a unit
-- (`chord-covers`): all roundings together lose nine parts in N of r * r and, where the product underflows, half a unit, and such
-- an e gives more than that back. It is at most 3 M, for an M whose square is a unit at least (`chord-bounded`). N is 2 ^ 53, W
-- half of it, n one less; U is the number of units in 1, so that U ≤ e * e says "a unit at least". Assumes nothing.
use mathlib.Core.Path.{◌≡◌, sym, ap, ◌∙◌, subst}
use Prim.Native.Nat.{ℕ, suc, ◌+◌, ◌-◌, ◌*◌, ◌≤◌, ◌<◌}
use native.Mathlib.Nat.{le_trans, le_of_eq, mul-mul-mul_comm, mul-le-mul_left, mul-le-mul_right, mul-le-mul, mul-pos}
use native.Mathlib.Nat.{le_of_mul-le-mul_left, le_of_suc-le-suc, lt_of_le_of_lt}
use native.Mathlib.Omega.{arith}
use Rattle.doubles_sqrt.proofs.WholeRoot.{square-lt, square_le}

-- what the proofs use of N = 2 ^ 53
pub record Precision (N n W : ℕ) : Type 0 where
  pub less : N ≡ n + 1
  pub half : N ≡ 2 * W
  pub large : 128 ≤ W
  pub fifth : N * N * (N * N) * N ≤ 2 * (n * n * n * (n * n))
  pub first : N * N * N * ((N + 2) * (N + 2)) ≤ n * n * n * (n * n) + 9 * (N * N * (N * N))
  pub second : n * n * n * ((N + 1) * (N + 1)) ≤ N * N * N * ((N + 2) * (N + 2))

-- the rounded steps: rho of r + e, dy of D, a of rho - dy, b of rho + dy
pub record Factors (N r e D rho dy a b : ℕ) : Type 0 where
  pub rho_low : N * (r + e) ≤ N * rho + (r + e)
  pub rho_high : N * rho ≤ N * (r + e) + (r + e)
  pub dy_high : N * dy ≤ N * D + D
  pub hit : dy ≤ rho
  pub a_low : N * (rho - dy) ≤ N * a + (rho - dy)
  pub a_high : N * a ≤ N * (rho - dy) + (rho - dy)
  pub b_low : N * (rho + dy) ≤ N * b + (rho + dy)
  pub b_high : N * b ≤ N * (rho + dy) + (rho + dy)

-- p of a * b / U, and the root H of p * U
pub record RootBounds (N W U a b p H : ℕ) : Type 0 where
  pub p_low : N * (a * b) ≤ N * (p * U) + (a * b + W * U)
  pub p_high : N * (p * U) ≤ N * (a * b) + (a * b + W * U)
  pub h_low : W * W * (p * U) ≤ (W + 1) * (W + 1) * (H * H)
  pub h_high : W * W * (H * H) ≤ (W + 1) * (W + 1) * (p * U)

-- the root of a smaller square is no larger
pub root-le : (a b : ℕ) → a * a ≤ b * b → a ≤ b
root-le a b h = le_of_suc-le-suc (square-lt a (suc b) (lt_of_le_of_lt h grows))
  where
    grows : b * b < suc b * suc b
    grows = omega arith

-- the strip is hit: dy ≤ rho
pub chord-hits : (N r e D rho dy : ℕ) → 1 < N → D ≤ r → 16 * r ≤ N * e → N * (r + e) ≤ N * rho + (r + e) → N * dy ≤ N * D + D → dy ≤ rho
chord-hits N r e D rho dy big d w lo hi = le_of_mul-le-mul_left (chain (mul-le-mul_left N d)) (zero-lt big)
  where
    zero-lt : 1 < N → 0 < N
    zero-lt h = omega arith

    -- N dy ≤ N r + r, and N rho ≥ N r + N e - r - e
    chain : N * D ≤ N * r → N * dy ≤ N * rho
    chain g = omega (arith, mul-le-mul_right e big)

-- ---- the half chord is no smaller than the exact one

-- c0 * r * r ≤ n ^ 5 * (r + e) * (r + e), with room for the product's underflow
margin : (N N4 n5 c0 W U r e : ℕ) → N ≡ 2 * W → N4 * N ≤ 2 * n5 → c0 ≤ n5 + 9 * N4 → 16 * r ≤ N * e → U ≤ e * e
    → c0 * (r * r) + N4 * (W * U) ≤ n5 * ((r + e) * (r + e))
margin N N4 n5 c0 W U r e hw five first hr hu =
    sum (mul-le-mul_right (r * r) first) (le_trans nine (mul-le-mul_right (r * e) five))
    (le_trans under (le_trans (mul-le-mul_right U five) (mul-le-mul_left (2 * n5) hu)))
  where
    nine : 9 * N4 * (r * r) ≤ N4 * N * (r * e)
    nine = omega (arith, mul-le-mul_left N4 (mul-le-mul_right r hr))

    under : 2 * (N4 * (W * U)) ≤ N4 * N * U
    under = le_of_eq (double ∙ ap (λ (x : ℕ). N4 * x * U) (sym hw))
      where
        double : 2 * (N4 * (W * U)) ≡ N4 * (2 * W) * U
        double = omega arith

    sum : c0 * (r * r) ≤ (n5 + 9 * N4) * (r * r) → 9 * N4 * (r * r) ≤ 2 * n5 * (r * e)
        → 2 * (N4 * (W * U)) ≤ 2 * n5 * (e * e) → c0 * (r * r) + N4 * (W * U) ≤ n5 * ((r + e) * (r + e))
    sum a b c = omega arith

-- the chain, with s = rho * rho, d = dy * dy, x = s - d, R = (r + e) * (r + e), h = H * H, D2 = D * D, u = W * U, and powers of N and n
total : (N N2 n2 n3 c1 c2 s d x R h D2 u : ℕ) → s ≡ x + d → n3 * (n2 * R) ≤ n3 * (N2 * s)
    → N2 * (n3 * x) ≤ N2 * (N * (c2 * h) + N2 * u) → n3 * (N2 * d) ≤ n3 * (c1 * D2)
    → n3 * n2 * R ≤ N2 * N * c2 * h + N2 * N2 * u + n3 * c1 * D2
total N N2 n2 n3 c1 c2 s d x R h D2 u g i j k = omega (arith, ap (λ (y : ℕ). n3 * (N2 * y)) g)

last : (c0 c1 N4 n5 r2 R h D2 u : ℕ) → c0 * r2 + N4 * u ≤ n5 * R → n5 * R ≤ c0 * h + N4 * u + c1 * D2
    → c1 * D2 ≤ c0 * D2 → c0 * r2 ≤ c0 * (h + D2)
last c0 c1 N4 n5 r2 R h D2 u a b c = omega arith

module _ (N n W r e D rho dy a b : ℕ) (F : Precision N n W) (S : Factors N r e D rho dy a b) where
  -- a rounded x is at least n x / N
  low-side : (x y : ℕ) → N * x ≤ y + x → n * x ≤ y
  low-side x y h = omega (arith, ap (λ (k : ℕ). k * x) F.less)

  product-low : n * n * ((rho - dy) * (rho + dy)) ≤ N * N * (a * b)
  product-low =
      le_trans (le_of_eq (mul-mul-mul_comm n n (rho - dy) (rho + dy)))
      (le_trans (mul-le-mul (low-side (rho - dy) (N * a) S.a_low) (low-side (rho + dy) (N * b) S.b_low))
      (le_of_eq (mul-mul-mul_comm N a N b)))

  radius-low : n * n * ((r + e) * (r + e)) ≤ N * N * (rho * rho)
  radius-low = le_trans (le_of_eq (mul-mul-mul_comm n n (r + e) (r + e)))
      (le_trans (square_le (n * (r + e)) (N * rho) (low-side (r + e) (N * rho) S.rho_low))
      (le_of_eq (mul-mul-mul_comm N rho N rho)))

  distance_high : N * N * (dy * dy) ≤ (N + 1) * (N + 1) * (D * D)
  distance_high =
      le_trans (le_of_eq (mul-mul-mul_comm N N dy dy))
      (le_trans (square_le (N * dy) ((N + 1) * D) (joined S.dy_high))
      (le_of_eq (mul-mul-mul_comm (N + 1) D (N + 1) D)))
    where
      joined : N * dy ≤ N * D + D → N * dy ≤ (N + 1) * D
      joined h = omega arith

  parted : rho * rho ≡ (rho - dy) * (rho + dy) + dy * dy
  parted = by (rho - dy) (whole S.hit)
    where
      whole : dy ≤ rho → rho ≡ rho - dy + dy
      whole h = omega arith

      by : (x : ℕ) → rho ≡ x + dy → rho * rho ≡ x * (rho + dy) + dy * dy
      by x h = subst (λ (y : ℕ). y * y ≡ x * (y + dy) + dy * dy) (sym h) product
        where
          product : (x + dy) * (x + dy) ≡ x * (x + dy + dy) + dy * dy
          product = omega arith

  -- ---- bounds from above, so that nothing overflows
  big : 64 ≤ N
  big = omega (arith, F.half, F.large)

  n_pos : 0 < N
  n_pos = omega (arith, F.less)

  high-side : (x y : ℕ) → N * y ≤ N * x + x → 64 * y ≤ 65 * x
  high-side x y h = le_of_mul-le-mul_left (by (mul-le-mul_right x big) h) n_pos
    where
      by : 64 * x ≤ N * x → N * y ≤ N * x + x → N * (64 * y) ≤ N * (65 * x)
      by g k = omega arith

  product_high : 4096 * (a * b) ≤ 4225 * (rho * rho)
  product_high =
      by (mul-le-mul (high-side (rho - dy) a S.a_high) (high-side (rho + dy) b S.b_high)) parted
    where
      by : 64 * a * (64 * b) ≤ 65 * (rho - dy) * (65 * (rho + dy)) → rho * rho ≡ (rho - dy) * (rho + dy) + dy * dy
          → 4096 * (a * b) ≤ 4225 * (rho * rho)
      by h g = go ((rho - dy) * (rho + dy)) (le_trans h (le_of_eq (regroup (rho - dy) (rho + dy)))) g
        where
          regroup : (x y : ℕ) → 65 * x * (65 * y) ≡ 4225 * (x * y)
          regroup x y = omega arith

          go : (x : ℕ) → 64 * a * (64 * b) ≤ 4225 * x → rho * rho ≡ x + dy * dy → 4096 * (a * b) ≤ 4225 * (rho * rho)
          go x k l = omega arith

  pub radius-high : (M : ℕ) → r ≤ M → e ≤ M → 32 * rho ≤ 65 * M
  radius-high M r-le e-le = half (high-side (r + e) rho S.rho_high)
    where
      half : 64 * rho ≤ 65 * (r + e) → 32 * rho ≤ 65 * M
      half h = omega arith

  pub product-bounded : (M : ℕ) → r ≤ M → e ≤ M → a * b ≤ 5 * (M * M)
  product-bounded M r-le e-le = by (rho * rho) (mul-le-mul (radius-high M r-le e-le) (radius-high M r-le e-le)) product_high
    where
      by : (x : ℕ) → 32 * rho * (32 * rho) ≤ 65 * M * (65 * M) → 4096 * (a * b) ≤ 4225 * (rho * rho) → a * b ≤ 5 * (M * M)
      by x h k = omega arith

module _ (N n W U r e D rho dy a b p H : ℕ) (F : Precision N n W) (S : Factors N r e D rho dy a b) (Q : RootBounds N W U a b p H) where
  root-low : N * N * (p * U) ≤ (N + 2) * (N + 2) * (H * H)
  root-low = subst (λ (x : ℕ). x * x * (p * U) ≤ (x + 2) * (x + 2) * (H * H)) (sym F.half) (four Q.h_low)
    where
      four : W * W * (p * U) ≤ (W + 1) * (W + 1) * (H * H) → 2 * W * (2 * W) * (p * U) ≤ (2 * W + 2) * (2 * W + 2) * (H * H)
      four h = omega arith

  -- n ^ 3 (rho - dy) (rho + dy) against H * H
  chord-low : n * n * n * ((rho - dy) * (rho + dy)) ≤ N * ((N + 2) * (N + 2) * (H * H)) + N * N * (W * U)
  chord-low =
      let x = (rho - dy) * (rho + dy) in
      join x (mul-le-mul_left n (product-low N n W r e D rho dy a b F S))
      (mul-le-mul_left (N * N) (low-side N n W r e D rho dy a b F S (a * b) (N * (p * U) + W * U)
      (sorted Q.p_low))) (mul-le-mul_left N root-low)
    where
      sorted : N * (a * b) ≤ N * (p * U) + (a * b + W * U) → N * (a * b) ≤ N * (p * U) + W * U + a * b
      sorted h = omega arith

      join : (x : ℕ) → n * (n * n * x) ≤ n * (N * N * (a * b)) → N * N * (n * (a * b)) ≤ N * N * (N * (p * U) + W * U)
          → N * (N * N * (p * U)) ≤ N * ((N + 2) * (N + 2) * (H * H))
          → n * n * n * x ≤ N * ((N + 2) * (N + 2) * (H * H)) + N * N * (W * U)
      join x f g h = omega arith

  pub chord-covers : 16 * r ≤ N * e → U ≤ e * e → r * r ≤ H * H + D * D
  chord-covers hr hu =
      let c0 = N * N * N * ((N + 2) * (N + 2)) in
      le_of_mul-le-mul_left
      (last c0 (n * n * n * ((N + 1) * (N + 1))) (N * N * (N * N)) (n * n * n * (n * n)) (r * r) ((r + e) * (r + e)) (H * H) (D * D)
      (W * U)
      (margin N (N * N * (N * N)) (n * n * n * (n * n)) c0 W U r e F.half F.fifth F.first hr hu)
      (total N (N * N) (n * n) (n * n * n) ((N + 1) * (N + 1)) ((N + 2) * (N + 2)) (rho * rho) (dy * dy)
      ((rho - dy) * (rho + dy)) ((r + e) * (r + e)) (H * H) (D * D) (W * U) (parted N n W r e D rho dy a b F S)
      (mul-le-mul_left (n * n * n) (radius-low N n W r e D rho dy a b F S)) (mul-le-mul_left (N * N) chord-low)
      (mul-le-mul_left (n * n * n) (distance_high N n W r e D rho dy a b F S)))
      (mul-le-mul_right (D * D) F.second))
      (mul-pos (mul-pos (mul-pos (above F.less) (above F.less)) (above F.less)) (mul-pos above-two above-two))
    where
      above : N ≡ n + 1 → 0 < N
      above h = omega arith

      above-two : 0 < N + 2
      above-two = omega arith

  scaled-high : 64 * (p * U) ≤ 65 * (a * b) + 32 * U
  scaled-high = le_of_mul-le-mul_left
      (by (a * b) (p * U) (mul-le-mul_right (a * b) (big N n W r e D rho dy a b F S)) Q.p_high
      (ap (λ (x : ℕ). x * U) F.half)) (n_pos N n W r e D rho dy a b F S)
    where
      by : (x y : ℕ) → 64 * x ≤ N * x → N * y ≤ N * x + (x + W * U) → N * U ≡ 2 * W * U → N * (64 * y) ≤ N * (65 * x + 32 * U)
      by x y g h k = omega arith

  root-high : 4096 * (H * H) ≤ 4225 * (p * U)
  root-high = le_of_mul-le-mul_left (by (H * H) (p * U) Q.h_high (mul-le-mul_right (p * U) (mul-le-mul step step))) w-pos
    where
      step : 64 * (W + 1) ≤ 65 * W
      step = omega (arith, F.large)

      w-pos : 0 < W * W
      w-pos = mul-pos one one
        where
          one : 0 < W
          one = omega (arith, F.large)

      by : (x y : ℕ) → W * W * x ≤ (W + 1) * (W + 1) * y → 64 * (W + 1) * (64 * (W + 1)) * y ≤ 65 * W * (65 * W) * y
          → W * W * (4096 * x) ≤ W * W * (4225 * y)
      by x y g h = omega arith

  pub chord-bounded : (M : ℕ) → r ≤ M → e ≤ M → U ≤ M * M → H ≤ 3 * M
  chord-bounded M r-le e-le u-le =
      let high = radius-high N n W r e D rho dy a b F S M r-le e-le in
      root-le H (3 * M) (by (mul-le-mul high high) (product_high N n W r e D rho dy a b F S) scaled-high root-high)
    where
      by : 32 * rho * (32 * rho) ≤ 65 * M * (65 * M) → 4096 * (a * b) ≤ 4225 * (rho * rho) → 64 * (p * U) ≤ 65 * (a * b) + 32 * U
          → 4096 * (H * H) ≤ 4225 * (p * U) → H * H ≤ 3 * M * (3 * M)
      by h i j k = omega arith
