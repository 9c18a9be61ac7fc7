-- The outer pair covers the disc, over a format f, so that no law meets the large numbers of binary64: the distance from the band
-- (`distance-value`), half the chord (`half-value`), the two ends (`low_end`, `high_end`), and a point of the disc (`point-covered`).
-- Assumes nothing.
use mathlib.Core.Path.{◌≡◌, sym, ap, subst}
use mathlib.Core.Logic.{◌⊎◌, inl, inr}
use Prim.Native.Nat.{ℕ, ◌+◌, ◌-◌, ◌*◌, ◌/◌, ◌^◌, ◌≤◌, ◌<◌, zero-le}
use native.Mathlib.Nat.{zero-mul, mul-zero, le_trans, le_of_eq, le_of_lt, lt_of_le_of_lt, lt_of_mul-lt-mul_right}
use native.Mathlib.Nat.{mul-le-mul_left, mul-le-mul_right, mul-le-mul, le_of_mul-le-mul_left}
use native.Mathlib.Omega.{arith}
use mathlib.Core.Bool.{Bool, true, false, cond}
use lib.Dec.{ltb}
use borrow.Author.Tests.{ltb-true}
use lib.IntN.{ℤ, pos, nat_abs, ◌+ℤ◌, ◌-ℤ◌, ◌*ℤ◌}
use lib.Signed.{◌≤ℤ◌}
use lib.Pow.{pow_pos}
use lib.Ieee.{Float, fin, Format, prec, low, add, sub, mul, lt, le, fits}
use lib.Ieee.Scale.{overflow}
use Rattle.doubles_sqrt.specs.Root.{square_root}
use Rattle.doubles.specs.Doubles.{larger_of}
use Rattle.doubles.proofs.Order.{fin-number}
use Rattle.doubles.proofs.Pick.{larger-either, larger-left}
use Rattle.doubles_rounding.specs.Units.{HasUnits, signed_magnitude}
use Rattle.discs.specs.Disc.{square_of}
use Rattle.doubles_rounding.proofs.IntegerParts.{plus, minus, abs_is, add-size, sub-size, add_parts, sub_parts}
use Rattle.doubles_rounding.proofs.IntegerParts.{parts-eq, offset-parts, scaled-le, le-scaled, to-scaled-le, to-le-scaled}
use Rattle.doubles_rounding.proofs.Rounding.{round_ratio, round_whole, whole-error, whole_le, ratio-error, ratio-zero}
use Rattle.doubles_rounding.proofs.Values.{round_whole_ℤ, add_rounds, sub-rounds, mul-rounds, lt-value, le-value, value-le}
use Rattle.doubles_rounding.proofs.Values.{prec-pos, NearUnits, whole_ℤ-error, value-number}
use Rattle.doubles_rounding.proofs.Roots.{root-units}
use Rattle.discs.proofs.HalfChord.{Precision, Factors, RootBounds, root-le, chord-hits, chord-covers, chord-bounded}
use Rattle.discs.proofs.HalfChord.{product-bounded, radius-high}

-- what `plus_zero` computes to
abbrev pub zero_value : Float
zero_value = fin false 0 (pos 0)

-- a number of 16 M at most does not overflow when it is rounded
fine : (f : Format) (M n : ℕ) → 32 * M < overflow f → n ≤ 16 * M → round_whole (prec f) n < overflow f
fine f M n h l = lt_of_le_of_lt (le_trans (whole_le (prec f) n (prec-pos f)) (twice l)) h
  where
    twice : n ≤ 16 * M → 2 * n ≤ 32 * M
    twice g = omega arith

-- ---- the distance from the band: `band_distance` of strips, in the format f
abbrev band_distance_in : Format → Float → Float → Float → Float
band_distance_in f y y0 y1 = cond (lt y y0) (sub f y0 y) (cond (lt y1 y) (sub f y y1) zero_value)

-- each y in the band from z0 to z1 is D at least from zy
abbrev Far : ℤ → ℤ → ℤ → ℕ → Type 0
Far zy z0 z1 D = (s : ℕ) (y : ℤ) → (pos s *ℤ z0) ≤ℤ y → y ≤ℤ (pos s *ℤ z1) → s * D ≤ nat_abs (y -ℤ pos s *ℤ zy)

zero-value : (f : Format) → HasUnits f zero_value (pos 0)
unfolding fits signed_magnitude
zero-value f = record { held = tt; finite = tt; units = ap (λ (n : ℕ). pos (n / 1)) (zero-mul (2 ^ low f)) }

-- b - a, where it is not negative
difference : (a b : ℤ) → plus a + minus b ≤ plus b + minus a → b -ℤ a ≡ pos (plus b + minus a - (plus a + minus b))
difference a b h = parts-eq (b -ℤ a) (pos (plus b + minus a - (plus a + minus b))) (omega (arith, sub_parts b a))

module _ (f : Format) (M : ℕ) (room : 32 * M < overflow f) (cy y0 y1 : Float) (zy z0 z1 : ℤ) (vy : HasUnits f cy zy)
    (v0 : HasUnits f y0 z0) (v1 : HasUnits f y1 z1) (my : nat_abs zy ≤ M) (m0 : nat_abs z0 ≤ M) (m1 : nat_abs z1 ≤ M) where
  -- a difference of two that are M at most
  gap-value : (x y : Float) (a b : ℤ) → HasUnits f x a → HasUnits f y b → nat_abs a ≤ M → nat_abs b ≤ M
      → plus b + minus a ≤ plus a + minus b
      → HasUnits f (sub f x y) (pos (round_whole (prec f) (plus a + minus b - (plus b + minus a))))
  gap-value x y a b v w ma mb h =
      let D = plus a + minus b - (plus b + minus a) in
      let e : a -ℤ b ≡ pos D = difference b a h in
      subst (λ (z : ℤ). HasUnits f (sub f x y) (round_whole_ℤ (prec f) z)) e
      ((sub-rounds f x y a b v w).value
      (subst (λ (z : ℤ). round_whole (prec f) (nat_abs z) < overflow f) (sym e)
      (fine f M D room (small (abs_is a) (abs_is b)))))
    where
      small : nat_abs a ≡ plus a + minus a → nat_abs b ≡ plus b + minus b → plus a + minus b - (plus b + minus a) ≤ 16 * M
      small g k = omega arith

  far-below : (D : ℕ) → D + (plus zy + minus z0) ≡ plus z0 + minus zy → Far zy z0 z1 D
  far-below D e s y lo hi =
      omega (arith, ap (λ (x : ℕ). s * x) e, abs_is (y -ℤ pos s *ℤ zy), offset-parts s zy y, scaled-le s z0 y lo)

  far-above : (D : ℕ) → D + (plus z1 + minus zy) ≡ plus zy + minus z1 → Far zy z0 z1 D
  far-above D e s y lo hi =
      omega (arith, ap (λ (x : ℕ). s * x) e, abs_is (y -ℤ pos s *ℤ zy), offset-parts s zy y, le-scaled s z1 y hi)

  back : (a b : ℕ) → b ≤ a → a - b + b ≡ a
  back a b h = omega arith

  distance-value : (D : ℕ) × (HasUnits f (band_distance_in f cy y0 y1) (pos (round_whole (prec f) D))) × (Far zy z0 z1 D)
  distance-value = by-low (lt cy y0) (sym (lt-value f cy y0 zy z0 vy v0))
    where
      by_high : (t : Bool) → ltb (plus z1 + minus zy) (plus zy + minus z1) ≡ t
          → (D : ℕ) × (HasUnits f (cond t (sub f cy y1) zero_value) (pos (round_whole (prec f) D))) × (Far zy z0 z1 D)
      by_high true g =
          let l : plus z1 + minus zy ≤ plus zy + minus z1 = le_of_lt (ltb-true (plus z1 + minus zy) (plus zy + minus z1) g) in (
            plus zy + minus z1 - (plus z1 + minus zy),
            gap-value cy y1 zy z1 vy v1 my m1 l,
            far-above (plus zy + minus z1 - (plus z1 + minus zy)) (back (plus zy + minus z1) (plus z1 + minus zy) l),
          )
      by_high false g = (
        0,
        subst (λ (n : ℕ). HasUnits f zero_value (pos n)) (sym (ratio-zero (prec f) 1 (prec-pos f) (pow_pos 0)))
            (zero-value f),
        λ s y lo hi. le_trans (le_of_eq (mul-zero s)) zero-le,
      )

      by-low : (t : Bool) → ltb (plus zy + minus z0) (plus z0 + minus zy) ≡ t
          → (D : ℕ) × (HasUnits f (cond t (sub f y0 cy) (cond (lt y1 cy) (sub f cy y1) zero_value))
          (pos (round_whole (prec f) D))) × (Far zy z0 z1 D)
      by-low true g =
          let l : plus zy + minus z0 ≤ plus z0 + minus zy = le_of_lt (ltb-true (plus zy + minus z0) (plus z0 + minus zy) g) in (
            plus z0 + minus zy - (plus zy + minus z0),
            gap-value y0 cy z0 zy v0 vy m0 my l,
            far-below (plus z0 + minus zy - (plus zy + minus z0)) (back (plus z0 + minus zy) (plus zy + minus z0) l),
          )
      by-low false g = by_high (lt y1 cy) (sym (lt-value f y1 cy z1 zy v1 vy))

-- ---- half the chord: `half_chord` of strips, in the format f
abbrev half_chord_in : Format → Float → Float → Float
half_chord_in f rho dy = square_root f (larger_of (mul f (sub f rho dy) (add f rho dy)) zero_value)

-- the larger of a value that is not negative and zero has as many units as the value
larger-zero : (f : Format) (x : Float) (n : ℕ) → HasUnits f x (pos n) → HasUnits f (larger_of x zero_value) (pos n)
larger-zero f x n v = go (larger-either x zero_value)
  where
    none : n + 0 ≤ 0 + 0 → 0 ≡ n
    none h = omega arith

    go : (larger_of x zero_value ≡ x) ⊎ (larger_of x zero_value ≡ zero_value) → HasUnits f (larger_of x zero_value) (pos n)
    go (inl e) = subst (λ (y : Float). HasUnits f y (pos n)) (sym e) v
    go (inr e) =
        let below = subst (λ (y : Float). le x y ≡ true) e
        (larger-left x zero_value (value-number f x (pos n) v) (fin-number false 0 (pos 0))) in
        let is = none (le-value f x zero_value (pos n) (pos 0) v (zero-value f) below) in
        subst (λ (y : Float). HasUnits f y (pos n)) (sym e) (subst (λ (k : ℕ). HasUnits f zero_value (pos k)) is (zero-value f))

-- what the proof uses of the format and of M: its digits, and that no sum and no product overflows
pub record FormatRoom (f : Format) (M : ℕ) : Type 0 where
  pub n : ℕ
  pub digits : Precision (2 ^ prec f) n (2 ^ (prec f - 1))
  pub sums : 32 * M < overflow f
  pub products : 11 * (M * M) < overflow f * 2 ^ low f

module _ (f : Format) (M R E D : ℕ) (room : FormatRoom f M) (r-le : R ≤ M) (e-le : E ≤ M)
    (least : 16 * M ≤ 2 ^ prec f * E) (unit : 2 ^ low f ≤ E * E) (inside : D ≤ R) where
  abbrev N : ℕ
  N = 2 ^ prec f

  abbrev W : ℕ
  W = 2 ^ (prec f - 1)

  abbrev U : ℕ
  U = 2 ^ low f

  abbrev rho : ℕ
  rho = round_whole (prec f) (R + E)

  abbrev dy : ℕ
  dy = round_whole (prec f) D

  abbrev a : ℕ
  a = round_whole (prec f) (rho - dy)

  abbrev b : ℕ
  b = round_whole (prec f) (rho + dy)

  near-whole : (n : ℕ) → (N * round_whole (prec f) n ≤ N * n + n) × (N * n ≤ N * round_whole (prec f) n + n)
  near-whole n = whole-error (prec f) n (prec-pos f)

  r_small : 16 * R ≤ N * E
  r_small = le_trans (mul-le-mul_left 16 r-le) least

  one-lt : 1 < N
  one-lt = big room.digits.large room.digits.half
    where
      big : 128 ≤ W → N ≡ 2 * W → 1 < N
      big h k = omega arith

  pub band-reached : dy ≤ rho
  band-reached = chord-hits N R E D rho dy one-lt inside r_small (near-whole (R + E)).1 (near-whole D).0

  factors : Factors N R E D rho dy a b
  factors = record {
    rho_low = (near-whole (R + E)).1;
    rho_high = (near-whole (R + E)).0;
    dy_high = (near-whole D).0;
    hit = band-reached;
    a_low = (near-whole (rho - dy)).1;
    a_high = (near-whole (rho - dy)).0;
    b_low = (near-whole (rho + dy)).1;
    b_high = (near-whole (rho + dy)).0;
  }

  unit-le : U ≤ M * M
  unit-le = le_trans unit (mul-le-mul e-le e-le)

  abbrev p : ℕ
  p = round_ratio (prec f) (a * b) U

  p-near : (N * (p * U) ≤ N * (a * b) + (a * b + W * U)) × (N * (a * b) ≤ N * (p * U) + (a * b + W * U))
  p-near = ratio-error (prec f) (a * b) U (prec-pos f) (pow_pos (low f))

  -- the product does not overflow
  p-fine : p < overflow f
  p-fine = lt_of_mul-lt-mul_right U
      (lt_of_le_of_lt (le_of_mul-le-mul_left
      (by (a * b) (p * U) p-near.0
      (mul-le-mul_right (a * b) (le_of_lt one-lt)) (ap (λ (x : ℕ). x * U) room.digits.half)) (le_of_lt one-lt))
      (lt_of_le_of_lt small room.products))
    where
      by : (x y : ℕ) → N * y ≤ N * x + (x + W * U) → 1 * x ≤ N * x → N * U ≡ 2 * W * U → N * y ≤ N * (2 * x + U)
      by x y g h k = omega arith

      small : 2 * (a * b) + U ≤ 11 * (M * M)
      small = sum (a * b) (product-bounded N room.n W R E D rho dy a b room.digits factors M r-le e-le) unit-le
        where
          sum : (x : ℕ) → x ≤ 5 * (M * M) → U ≤ M * M → 2 * x + U ≤ 11 * (M * M)
          sum x g h = omega arith

  module _ (x y : Float) (vx : HasUnits f x (pos rho)) (vy : HasUnits f y (pos dy)) where
    rho-le : rho ≤ 3 * M
    rho-le = third (radius-high N room.n W R E D rho dy a b room.digits factors M r-le e-le)
      where
        third : 32 * rho ≤ 65 * M → rho ≤ 3 * M
        third h = omega arith

    a-value : HasUnits f (sub f x y) (pos a)
    a-value =
        let e : pos rho -ℤ pos dy ≡ pos (rho - dy) =
        parts-eq (pos rho -ℤ pos dy) (pos (rho - dy)) (omega (arith, sub_parts (pos rho) (pos dy), band-reached)) in
        subst (λ (z : ℤ). HasUnits f (sub f x y) (round_whole_ℤ (prec f) z)) e
        ((sub-rounds f x y (pos rho) (pos dy) vx vy).value
        (subst (λ (z : ℤ). round_whole (prec f) (nat_abs z) < overflow f) (sym e)
        (fine f M (rho - dy) room.sums (less rho-le))))
      where
        less : rho ≤ 3 * M → rho - dy ≤ 16 * M
        less h = omega arith

    b-value : HasUnits f (add f x y) (pos b)
    b-value = (add_rounds f x y (pos rho) (pos dy) vx vy).value (fine f M (rho + dy) room.sums (more rho-le band-reached))
      where
        more : rho ≤ 3 * M → dy ≤ rho → rho + dy ≤ 16 * M
        more h k = omega arith

    p-value : HasUnits f (larger_of (mul f (sub f x y) (add f x y)) zero_value) (pos p)
    p-value =
        larger-zero f (mul f (sub f x y) (add f x y)) p
        ((mul-rounds f (sub f x y) (add f x y) (pos a) (pos b) a-value b-value).value p-fine)

    -- the half chord H covers the exact one, and is at most 3 M
    pub half-value : (H : ℕ) × (HasUnits f (half_chord_in f x y) (pos H)) × (R * R ≤ H * H + D * D) × (H ≤ 3 * M)
    half-value =
        let g = root-units f (larger_of (mul f (sub f x y) (add f x y)) zero_value) p p-value in
        let H = g.0 in
        let Q : RootBounds N W U a b p H = record {
          p_low = p-near.1;
          p_high = p-near.0;
          h_low = g.2.lower;
          h_high = g.2.upper;
        } in (
          H,
          g.1,
          chord-covers N room.n W U R E D rho dy a b p H room.digits factors Q r_small unit,
          chord-bounded N room.n W U R E D rho dy a b p H room.digits factors Q M r-le e-le unit-le,
        )

-- ---- the two ends

-- the same of the negated integers
near-turned : (N tp tm wp wm : ℕ) → NearUnits N tp tm wp wm → NearUnits N tm tp wm wp
near-turned N tp tm wp wm h = omega arith

-- from z, by t = z + H and its rounded w, and u = w + G and its rounded v: v is z + H at least
stretched : (N M G H zp zm tp tm wp wm up um vp vm : ℕ) → 0 < N → 16 * M ≤ N * G → G ≤ M → tp + tm ≤ 4 * M
    → tp + zm ≡ zp + H + tm → NearUnits N tp tm wp wm
    → up + um ≤ wp + wm + G → up + wm ≡ wp + G + um → NearUnits N up um vp vm → zp + H + vm ≤ vp + zm
stretched N M G H zp zm tp tm wp wm up um vp vm n_pos least g-le t-le t-is w-near u-le u-is v-near =
    le_of_mul-le-mul_left (by (ap (λ (x : ℕ). N * x) t-is) (ap (λ (x : ℕ). N * x) u-is) w-near.low v-near.low w-near.size) n_pos
  where
    by : N * (tp + zm) ≡ N * (zp + H + tm) → N * (up + wm) ≡ N * (wp + G + um)
        → N * (tp + wm) ≤ N * (wp + tm) + (tp + tm) → N * (up + vm) ≤ N * (vp + um) + (up + um)
        → wp + wm ≤ 2 * (tp + tm) → N * (zp + H + vm) ≤ N * (vp + zm)
    by a b c d e = omega arith

module _ (f : Format) (M G H : ℕ) (room : FormatRoom f M) (cx half guard : Float) (zx : ℤ) (vx : HasUnits f cx zx)
    (vh : HasUnits f half (pos H)) (vg : HasUnits f guard (pos G))
    (x-le : nat_abs zx ≤ M) (h_le : H ≤ 3 * M) (g-le : G ≤ M) (least : 16 * M ≤ 2 ^ prec f * G) where
  x-size : plus zx + minus zx ≤ M
  x-size = omega (arith, abs_is zx)

  pub high_end : (z : ℤ) × (HasUnits f (add f (add f cx half) guard) z) × (plus zx + H + minus z ≤ plus z + minus zx)
  high_end =
      let t = zx +ℤ pos H in
      let w = round_whole_ℤ (prec f) t in
      let u = w +ℤ pos G in
      let t-size : plus t + minus t ≤ 4 * M = omega (arith, add-size zx (pos H), x-size) in
      let w-near : NearUnits (2 ^ prec f) (plus t) (minus t) (plus w) (minus w) = whole_ℤ-error (prec f) t (prec-pos f) in
      let u-size : plus u + minus u ≤ plus w + minus w + G = omega (arith, add-size w (pos G)) in
      let v1 : HasUnits f (add f cx half) w =
      (add_rounds f cx half zx (pos H) vx vh).value (fine f M (nat_abs t) room.sums (omega (arith, abs_is t))) in (
        round_whole_ℤ (prec f) u,
        (add_rounds f (add f cx half) guard w (pos G) v1 vg).value
            (fine f M (nat_abs u) room.sums (omega (arith, abs_is u, w-near.size))),
        stretched (2 ^ prec f) M G H (plus zx) (minus zx) (plus t) (minus t) (plus w) (minus w) (plus u) (minus u)
            (plus (round_whole_ℤ (prec f) u)) (minus (round_whole_ℤ (prec f) u)) (pow_pos (prec f)) least g-le t-size
            (omega (arith, add_parts zx (pos H))) w-near u-size (omega (arith, add_parts w (pos G))) (whole_ℤ-error (prec f) u
            (prec-pos f)),
      )

  pub low_end : (z : ℤ) × (HasUnits f (sub f (sub f cx half) guard) z) × (plus z + minus zx + H ≤ plus zx + minus z)
  low_end =
      let t = zx -ℤ pos H in
      let w = round_whole_ℤ (prec f) t in
      let u = w -ℤ pos G in
      let t-size : plus t + minus t ≤ 4 * M = omega (arith, sub-size zx (pos H), x-size) in
      let w-near : NearUnits (2 ^ prec f) (minus t) (plus t) (minus w) (plus w) =
      near-turned (2 ^ prec f) (plus t) (minus t) (plus w) (minus w) (whole_ℤ-error (prec f) t (prec-pos f)) in
      let u-size : plus u + minus u ≤ plus w + minus w + G = omega (arith, sub-size w (pos G)) in
      let v1 : HasUnits f (sub f cx half) w =
      (sub-rounds f cx half zx (pos H) vx vh).value (fine f M (nat_abs t) room.sums (omega (arith, abs_is t))) in
      let v = round_whole_ℤ (prec f) u in (
        v,
        (sub-rounds f (sub f cx half) guard w (pos G) v1 vg).value
            (fine f M (nat_abs u) room.sums (omega (arith, abs_is u, w-near.size))),
        swap (plus zx) (minus zx) (plus v) (minus v)
            (stretched (2 ^ prec f) M G H (minus zx) (plus zx) (minus t) (plus t) (minus w) (plus w) (minus u)
            (plus u) (minus v) (plus v) (pow_pos (prec f)) least g-le (omega arith)
            (omega (arith, sub_parts zx (pos H))) w-near (omega arith) (omega (arith, sub_parts w (pos G)))
            (near-turned (2 ^ prec f) (plus u) (minus u) (plus v) (minus v) (whole_ℤ-error (prec f) u (prec-pos f)))),
      )
    where
      swap : (zp zm vp vm : ℕ) → zm + H + vp ≤ vm + zp → vp + zm + H ≤ zp + vm
      swap zp zm vp vm h = omega arith

-- ---- a point of the disc, d_x and d_y from the centre, where s * D ≤ d_y: D is at most the radius, and d_x at most the half chord
disc-inside : (s D R d_x d_y : ℕ) → 0 < s → s * D ≤ d_y → d_x * d_x + d_y * d_y ≤ s * R * (s * R) → D ≤ R
disc-inside s D R d_x d_y S far near = le_of_mul-le-mul_left (le_trans far (root-le d_y (s * R) (drop (d_x * d_x) (d_y * d_y) near))) S
  where
    drop : (a b : ℕ) → a + b ≤ s * R * (s * R) → b ≤ s * R * (s * R)
    drop a b h = omega arith

disc-reach : (s D R H d_x d_y : ℕ) → s * D ≤ d_y → d_x * d_x + d_y * d_y ≤ s * R * (s * R) → R * R ≤ H * H + D * D → d_x ≤ s * H
disc-reach s D R H d_x d_y far near covers = root-le d_x (s * H) (by (mul-le-mul far far) (mul-le-mul_left (s * s) covers))
  where
    by : s * D * (s * D) ≤ d_y * d_y → s * s * (R * R) ≤ s * s * (H * H + D * D) → d_x * d_x ≤ s * H * (s * H)
    by a b = omega arith

-- ---- the theorem, over a format
module _ (f : Format) (M R E G : ℕ) (room : FormatRoom f M) (cx cy y0 y1 e guard r : Float) (zx zy z0 z1 : ℤ)
    (vx : HasUnits f cx zx) (vy : HasUnits f cy zy) (v0 : HasUnits f y0 z0) (v1 : HasUnits f y1 z1)
    (ve : HasUnits f e (pos E)) (vg : HasUnits f guard (pos G)) (vr : HasUnits f r (pos R))
    (x-le : nat_abs zx ≤ M) (y-le : nat_abs zy ≤ M) (y0-le : nat_abs z0 ≤ M) (y1-le : nat_abs z1 ≤ M) (e-le : E ≤ M)
    (g-le : G ≤ M) (r-le : R ≤ M)
    (e_least : 16 * M ≤ 2 ^ prec f * E) (g-least : 16 * M ≤ 2 ^ prec f * G) (unit : 2 ^ low f ≤ E * E)
    (s : ℕ) (x y : ℤ) (S : 0 < s) (near : square_of (x -ℤ pos s *ℤ zx) + square_of (y -ℤ pos s *ℤ zy) ≤ s * R * (s * R))
    (above : (pos s *ℤ z0) ≤ℤ y) (below : y ≤ℤ (pos s *ℤ z1)) where
  abbrev rho_f : Float
  rho_f = add f r e

  abbrev dy_f : Float
  dy_f = band_distance_in f cy y0 y1

  band : (D : ℕ) × (HasUnits f dy_f (pos (round_whole (prec f) D))) × (Far zy z0 z1 D)
  band = distance-value f M room.sums cy y0 y1 zy z0 z1 vy v0 v1 y-le y0-le y1-le

  inside : band.0 ≤ R
  inside = disc-inside s band.0 R (nat_abs (x -ℤ pos s *ℤ zx)) (nat_abs (y -ℤ pos s *ℤ zy)) S (band.2 s y above below) near

  rho-value : HasUnits f rho_f (pos (round_whole (prec f) (R + E)))
  rho-value = (add_rounds f r e (pos R) (pos E) vr ve).value (fine f M (R + E) room.sums (omega arith))

  -- the strip is hit
  is-hit : le dy_f rho_f ≡ true
  is-hit = value-le f dy_f rho_f (pos (round_whole (prec f) band.0)) (pos (round_whole (prec f) (R + E))) band.1
      rho-value (plain (band-reached f M R E band.0 room r-le e-le e_least unit inside))
    where
      plain : {a b : ℕ} → a ≤ b → a + 0 ≤ b + 0
      plain h = omega arith

  half : (H : ℕ) × (HasUnits f (half_chord_in f rho_f dy_f) (pos H)) × (R * R ≤ H * H + band.0 * band.0) × (H ≤ 3 * M)
  half = half-value f M R E band.0 room r-le e-le e_least unit inside rho_f dy_f rho-value band.1

  reach : nat_abs (x -ℤ pos s *ℤ zx) ≤ s * half.0
  reach = disc-reach s band.0 R half.0 (nat_abs (x -ℤ pos s *ℤ zx)) (nat_abs (y -ℤ pos s *ℤ zy))
      (band.2 s y above below) near half.2

  low-covers : (z : ℤ) × (HasUnits f (sub f (sub f cx (half_chord_in f rho_f dy_f)) guard) z) × ((pos s *ℤ z) ≤ℤ x)
  low-covers =
      let g = low_end f M G half.0 room cx (half_chord_in f rho_f dy_f) guard zx vx half.1 vg x-le half.3 g-le g-least in (
        g.0,
        g.1,
        to-scaled-le s g.0 x (omega (arith, mul-le-mul_left s g.2, reach, abs_is (x -ℤ pos s *ℤ zx), offset-parts s zx x)),
      )

  high-covers : (z : ℤ) × (HasUnits f (add f (add f cx (half_chord_in f rho_f dy_f)) guard) z) × (x ≤ℤ (pos s *ℤ z))
  high-covers =
      let g = high_end f M G half.0 room cx (half_chord_in f rho_f dy_f) guard zx vx half.1 vg x-le half.3 g-le g-least in (
        g.0,
        g.1,
        to-le-scaled s g.0 x (omega (arith, mul-le-mul_left s g.2, reach, abs_is (x -ℤ pos s *ℤ zx), offset-parts s zx x)),
      )

  pub point-covered : (le dy_f rho_f ≡ true)
      × ((z : ℤ) × (HasUnits f (sub f (sub f cx (half_chord_in f rho_f dy_f)) guard) z) × ((pos s *ℤ z) ≤ℤ x))
      × ((z : ℤ) × (HasUnits f (add f (add f cx (half_chord_in f rho_f dy_f)) guard) z) × (x ≤ℤ (pos s *ℤ z)))
  point-covered = (is-hit, low-covers, high-covers)
