-- W-234 over strips, for binary64: the widened strip of a disc holds every point of the exact disc within the band (`disc-covered`),
-- and so does that of a stadium for the disc at either end (`first-covered`, `last-covered`). Assumes nothing.
use mathlib.Core.Path.{◌≡◌, refl, sym, ap, subst}
use Prim.Native.Nat.{ℕ, ◌+◌, ◌-◌, ◌*◌, ◌^◌, ◌≤◌, ◌<◌}
use native.Mathlib.Nat.{le_trans, le_of_eq, lt_of_le_of_lt, mul_assoc, mul-mul-mul_comm, mul-le-mul_left, mul-le-mul_right}
use native.Mathlib.Nat.{mul-le-mul}
use native.Mathlib.Nat.{le_of_mul-le-mul_left}
use native.Mathlib.Omega.{arith}
use mathlib.Core.Bool.{Bool, true, false, cond, true≢false}
use lib.Dec.{leb→le, lit≤, lit<}
use lib.IntN.{ℤ, pos, nat_abs, ◌-ℤ◌, ◌*ℤ◌}
use lib.Signed.{◌≤ℤ◌, yes_non_neg, pos-nat_abs}
use lib.Pow.{pow_pos}
use lib.Ieee.{Float, binary64, of_bits, add, sub, le}
use Rattle.strips.specs.declared.PlanePoint.{PlanePoint}
use Rattle.strips.specs.declared.Strip.{Strip}
use Rattle.strips.specs.declared.Strip.TheVariants.{Hit, Miss}
use Rattle.strips.specs.Strip.{band_distance, half_chord, chord_strip, disk_strip, hull, side_strip, stadium_strip}
use Rattle.strips.proofs.Ends.{side-doubles, disk-doubles, hull-doubles}
use Rattle.discs.specs.Disc.{in_units, margin_parts, SizeAtMost, DiscPre, square_of, InDisc, EndBelow, EndAbove, HoldsClosed}
use Rattle.discs.specs.Outer.{widened_by}
use Rattle.discs.proofs.HalfChord.{Precision}
use Rattle.discs.proofs.DiscCover.{FormatRoom, point-covered}
use Rattle.discs.proofs.Ends.{end_below, end-above}
use Rattle.discs.proofs.Hull.{hull-left, hull-right}
use Rattle.discs.proofs.Numbers.{bounded-value, margin-natural}

-- ---- binary64 has the digits and the room
digits : Precision (2 ^ 53) (2 ^ 53 - 1) (2 ^ 52)
digits = record { less = refl; half = refl; large = lit≤ tt; fifth = lit≤ tt; first = lit≤ tt; second = lit≤ tt }

-- a guard of 1 at most bounds M, so that no sum and no product overflows
room_for : (M G : ℕ) → M ≤ margin_parts * G → G ≤ 2 ^ 1074 → FormatRoom binary64 M
room_for M G h k =
    let m : M ≤ margin_parts * 2 ^ 1074 = le_trans h (mul-le-mul_left margin_parts k) in
    record {
      n = 2 ^ 53 - 1;
      digits = digits;
      sums = lt_of_le_of_lt (mul-le-mul_left 32 m) (lit< tt);
      products = lt_of_le_of_lt (mul-le-mul_left 11 (mul-le-mul m m)) (lit< tt);
    }

-- the square of E is U at least, if c times E is, and the square of c is U at most
unit-le-square : (U c E : ℕ) → 0 < U → c * c ≤ U → U ≤ c * E → U ≤ E * E
unit-le-square U c E P h k =
    le_of_mul-le-mul_left (le_trans (mul-le-mul k k) (le_trans (le_of_eq (mul-mul-mul_comm c E c E)) (mul-le-mul_right (E * E) h))) P

-- a strip that is hit, widened
holds-hit : (s : ℕ) (x : ℤ) (guard lo hi : Float) (t : Bool) → t ≡ true → EndBelow s (sub binary64 lo guard) x
    → EndAbove s (add binary64 hi guard) x → HoldsClosed s x (widened_by guard (cond t (Hit lo hi) Miss))
unfolding HoldsClosed widened_by
holds-hit s x guard lo hi true e a b = (a, b)
holds-hit s x guard lo hi false e a b = absurd (true≢false (sym e))

module _ (M : ℕ) (c : PlanePoint) (y0 y1 e guard r : Float) (S : DiscPre M c.x c.y y0 y1 e guard r)
    (most : (in_units guard) ≤ℤ (pos (2 ^ 1074))) (s : ℕ) (x y : ℤ) (p : InDisc c.x c.y r y0 y1 s x y) where
  abbrev R : ℕ
  R = nat_abs (in_units r)

  abbrev E : ℕ
  E = nat_abs (in_units e)

  abbrev G : ℕ
  G = nat_abs (in_units guard)

  r-is : in_units r ≡ pos R
  r-is = sym (pos-nat_abs (in_units r) (yes_non_neg S.r_least))

  e-is : (in_units e ≡ pos E) × (M ≤ margin_parts * E)
  e-is = margin-natural margin_parts M (in_units e) (lit< tt) S.e_least

  g-is : (in_units guard ≡ pos G) × (M ≤ margin_parts * G)
  g-is = margin-natural margin_parts M (in_units guard) (lit< tt) S.guard_least

  sixteen : (k : ℕ) → M ≤ margin_parts * k → 16 * M ≤ 2 ^ 53 * k
  sixteen k h = omega arith

  room : FormatRoom binary64 M
  room = room_for M G g-is.1 (leb→le G (2 ^ 1074) (subst (λ (z : ℤ). z ≤ℤ (pos (2 ^ 1074))) g-is.0 most).le)

  unit : 2 ^ 1074 ≤ E * E
  unit =
      unit-le-square (2 ^ 1074) (2 ^ 20 * margin_parts) E (pow_pos 1074) (lit≤ tt)
      (le_trans (lit≤ tt)
      (le_trans (mul-le-mul_left (2 ^ 20) (le_trans S.bound_least e-is.1)) (le_of_eq (sym (mul_assoc (2 ^ 20) margin_parts E)))))

  near : square_of (x -ℤ pos s *ℤ in_units c.x) + square_of (y -ℤ pos s *ℤ in_units c.y) ≤ s * R * (s * R)
  near = omega (arith, p.near, ap (λ (z : ℤ). square_of (pos s *ℤ z)) r-is)

  pub disc-covered : HoldsClosed s x (widened_by guard (disk_strip c (add binary64 r e) y0 y1))
  unfolding disk_strip chord_strip band_distance half_chord of_bits
  disc-covered =
      let g =
      point-covered binary64 M R E G room c.x c.y y0 y1 e guard r (in_units c.x) (in_units c.y) (in_units y0) (in_units y1)
      (bounded-value M c.x (in_units c.x) S.cx_bounded refl) (bounded-value M c.y (in_units c.y) S.cy_bounded refl)
      (bounded-value M y0 (in_units y0) S.y0_bounded refl) (bounded-value M y1 (in_units y1) S.y1_bounded refl)
      (bounded-value M e (pos E) S.e_bounded e-is.0) (bounded-value M guard (pos G) S.guard_bounded g-is.0)
      (bounded-value M r (pos R) S.r_bounded r-is)
      S.cx_bounded.bound S.cy_bounded.bound S.y0_bounded.bound S.y1_bounded.bound S.e_bounded.bound
      S.guard_bounded.bound S.r_bounded.bound
      (sixteen E e-is.1) (sixteen G g-is.1) unit s x y p.scale near p.above p.below in
      let dy = band_distance c.y y0 y1 in
      let half = half_chord (add binary64 r e) dy in
      holds-hit s x guard (sub binary64 c.x half) (add binary64 c.x half) (le dy (add binary64 r e)) g.0
      (end_below s (sub binary64 (sub binary64 c.x half) guard) g.1.0 x g.1.1 g.1.2)
      (end-above s (add binary64 (add binary64 c.x half) guard) g.2.0 x g.2.1 g.2.2)

-- ---- the stadium is the hull of two discs and a rectangle
module _ (M : ℕ) (a b : PlanePoint) (length y0 y1 e guard r : Float) (most : (in_units guard) ≤ℤ (pos (2 ^ 1074)))
    (s : ℕ) (x y : ℤ) where
  abbrev rho : Float
  rho = add binary64 r e

  abbrev first : Strip
  first = disk_strip a rho y0 y1

  abbrev last : Strip
  last = disk_strip b rho y0 y1

  -- the rectangle takes nothing away
  past-side : SizeAtMost M guard → HoldsClosed s x (widened_by guard (hull first last))
      → HoldsClosed s x (widened_by guard (stadium_strip a b length rho y0 y1))
  unfolding stadium_strip
  past-side g =
      hull-left s x guard g.held g.finite (hull first last) (side_strip a b length rho y0 y1)
      (hull-doubles first last (disk-doubles a rho y0 y1) (disk-doubles b rho y0 y1)) (side-doubles a b length rho y0 y1)

  pub first-covered : DiscPre M a.x a.y y0 y1 e guard r → InDisc a.x a.y r y0 y1 s x y
      → HoldsClosed s x (widened_by guard (stadium_strip a b length rho y0 y1))
  first-covered S p =
      let g = S.guard_bounded in
      past-side g
      (hull-left s x guard g.held g.finite first last (disk-doubles a rho y0 y1) (disk-doubles b rho y0 y1)
      (disc-covered M a y0 y1 e guard r S most s x y p))

  pub last-covered : DiscPre M b.x b.y y0 y1 e guard r → InDisc b.x b.y r y0 y1 s x y
      → HoldsClosed s x (widened_by guard (stadium_strip a b length rho y0 y1))
  last-covered S p =
      let g = S.guard_bounded in
      past-side g
      (hull-right s x guard g.held g.finite first last (disk-doubles a rho y0 y1) (disk-doubles b rho y0 y1)
      (disc-covered M b y0 y1 e guard r S most s x y p))
