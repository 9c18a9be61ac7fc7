-- Rounding keeps the order of fractions and integers (`ratio-mono`, `whole_ℤ-mono`), and a finite value added to two values or taken
-- off keeps theirs, also where it overflows (`add-mono`, `sub-mono`). The laws up to `ratio-mono` stand in lib.Ieee.Order too, which keeps
-- them private. Assumes nothing.
use mathlib.Core.Path.{◌≡◌, refl, sym, ap, ◌∙◌, subst}
use mathlib.Core.Bool.{Bool, true, false, true≢false}
use mathlib.Core.Logic.{inl, inr}
use Prim.Native.Nat.{ℕ, suc, ◌+◌, ◌-◌, ◌*◌, ◌/◌, ◌%◌, ◌^◌, ◌≤◌, ◌<◌, zero-le, compare}
use native.Mathlib.Nat.{le_trans, le_of_eq, lt_of_le_of_lt, eq-or-lt_of_le, mul_assoc, mul-le-mul_right, le-div_iff_mul-le}
use native.Mathlib.Nat.{div-div-eq-div-mul, mul-pos}
use native.Mathlib.Nat.{lt_of_not-le}
use native.Mathlib.Omega.{arith}
use native.Mathlib.Decide.{dec_le}
use lib.Dec.{T}
use lib.IntN.{ℤ, pos, negsuc, nat_abs, ◌+ℤ◌}
use lib.Pow.{pow-add, pow_pos, pow_mono}
use lib.Ieee.{Float, nan, inf, fin, Format, prec, size, neg, add, sub, le, fits, is_nan}
use lib.Ieee.Scale.{finite, overflow}
use lib.Ieee.Digits.{size_reaches}
use lib.Ieee.Fits.{kept-lt, nearest-le}
use lib.Ieee.Nearest.{closest, closest_mono, nearest-ge, div_mono}
use lib.Ieee.Order.{drop, kept}
use Rattle.doubles.specs.Doubles.{Number}
use Rattle.doubles.proofs.Total.{size_mono}
use Rattle.doubles.proofs.Order.{nan-none, le-number, le-bottom, le-top}
use Rattle.doubles_rounding.specs.Units.{signed_magnitude}
use Rattle.doubles_rounding.proofs.IntegerParts.{plus, minus, neg-parts, add_parts, parts-clash}
use Rattle.doubles_rounding.proofs.Rounding.{round_ratio, round_whole}
use Rattle.doubles_rounding.proofs.Values.{round_whole_ℤ, is_negative, Rounds, prec-pos, add_rounds, neg_value, own-units}
use Rattle.doubles_rounding.proofs.Values.{value-number, value-le, le-value}

-- ---- fractions
same_drop : (k a b c d : ℕ) → 0 < b → 0 < d → a * d ≤ c * b → closest a (b * 2 ^ k) * 2 ^ k ≤ closest c (d * 2 ^ k) * 2 ^ k
same_drop k a b c d B D h =
    mul-le-mul_right (2 ^ k)
    (closest_mono a (b * 2 ^ k) c (d * 2 ^ k) (mul-pos B (pow_pos k)) (mul-pos D (pow_pos k))
    (le_trans (le_of_eq (sym (mul_assoc a d (2 ^ k)))) (le_trans (mul-le-mul_right (2 ^ k) h) (le_of_eq (mul_assoc c b (2 ^ k))))))

kept-le : (p n den : ℕ) → kept p n den ≤ 2 ^ p
kept-le p n den =
    let k = drop p n den in
    let u = den * 2 ^ k in
    le_trans (nearest-le (n / u) (compare (n % u * 2) u))
    (subst (λ (x : ℕ). x < 2 ^ p) (div-div-eq-div-mul n den (2 ^ k)) (kept-lt p (n / den)))

kept-ge : (p n den : ℕ) → 0 < p → 0 < drop p n den → 2 ^ (p - 1) ≤ kept p n den
kept-ge p n den P K =
    let k = drop p n den in
    let u = den * 2 ^ k in
    let w = n / den in
    let a : 2 ^ (p - 1) * 2 ^ k ≤ w =
    le_trans (le_of_eq (sym (pow-add 2 (p - 1) k))) (size_reaches w (p - 1 + k) (all_in_use (size w) K)) in
    le_trans (subst (λ (x : ℕ). 2 ^ (p - 1) ≤ x) (div-div-eq-div-mul n den (2 ^ k))
    ((le-div_iff_mul-le (pow_pos k)).1 a)) (nearest-ge (n / u) (compare (n % u * 2) u))
  where
    all_in_use : (z : ℕ) → 0 < z - p → p - 1 + (z - p) < z
    all_in_use z h = omega arith

pub ratio-mono : (p a b c d : ℕ) → 0 < p → 0 < b → 0 < d → a * d ≤ c * b → round_ratio p a b ≤ round_ratio p c d
ratio-mono p a b c d P B D h =
    let j = drop p a b in
    let k = drop p c d in
    elim (eq-or-lt_of_le (fewer (size (a / b)) (size (c / d)) (size_mono (a / b) (c / d) (div_mono a b c d B D h)))) [
      | inl e ↦ subst (λ (x : ℕ). closest a (b * 2 ^ x) * 2 ^ x ≤ kept p c d * 2 ^ k) (sym e) (same_drop k a b c d B D h)
      | inr l ↦
          le_trans (mul-le-mul_right (2 ^ j) (kept-le p a b))
          (le_trans (le_of_eq (sym (pow-add 2 p j)))
          (le_trans (pow_mono (room j k l))
          (le_trans (le_of_eq (pow-add 2 (p - 1) k))
          (mul-le-mul_right (2 ^ k) (kept-ge p c d P (lt_of_le_of_lt zero-le l))))))
    ]
  where
    fewer : (x y : ℕ) → x ≤ y → x - p ≤ y - p
    fewer x y h = omega arith

    room : (j k : ℕ) → j < k → p + j ≤ p - 1 + k
    room j k h = omega arith

-- ---- integers
pub whole-mono : (p a b : ℕ) → 0 < p → a ≤ b → round_whole p a ≤ round_whole p b
whole-mono p a b P h = ratio-mono p a 1 b 1 P one one (mul-le-mul_right 1 h)
  where
    one : 0 < 1
    one = omega arith

pub whole_ℤ-mono : (p : ℕ) (a b : ℤ) → 0 < p → plus a + minus b ≤ plus b + minus a
    → plus (round_whole_ℤ p a) + minus (round_whole_ℤ p b) ≤ plus (round_whole_ℤ p b) + minus (round_whole_ℤ p a)
whole_ℤ-mono p (pos a) (pos b) P h = omega (arith, whole-mono p a b P (omega arith))
whole_ℤ-mono p (pos a) (negsuc b) P h = absurd (parts-clash a b h)
whole_ℤ-mono p (negsuc a) (pos b) P h = omega (arith, (neg-parts (pos (round_whole p (suc a)))).0)
whole_ℤ-mono p (negsuc a) (negsuc b) P h =
    let A = pos (round_whole p (suc a)) in
    let B = pos (round_whole p (suc b)) in
    omega (arith, neg-parts A, neg-parts B, whole-mono p (suc b) (suc a) P (omega arith))

-- ---- values: a rounded integer keeps the order also where it overflows
module _ (f : Format) where
  -- the rounded z is past the largest value of the format
  abbrev Over : ℤ → Type 0
  Over z = overflow f ≤ round_whole (prec f) (nat_abs z)

  over? : (z : ℤ) → Dec (Over z)
  over? z = dec_le (overflow f) (round_whole (prec f) (nat_abs z))

  -- what lies below a negative integer that overflows, or above another that does, overflows too
  over_below : (y z : ℤ) → plus y + minus z ≤ plus z + minus y → is_negative z ≡ true → Over z → Over y
  over_below y (pos b) h n o = absurd (true≢false (sym n))
  over_below (pos a) (negsuc b) h n o = absurd (parts-clash a b h)
  over_below (negsuc a) (negsuc b) h n o = le_trans o (whole-mono (prec f) (suc b) (suc a) (prec-pos f) (omega arith))

  over-above : (y z : ℤ) → plus y + minus z ≤ plus z + minus y → is_negative y ≡ false → Over y → Over z
  over-above (negsuc a) z h n o = absurd (true≢false n)
  over-above (pos a) (negsuc b) h n o = absurd (parts-clash a b h)
  over-above (pos a) (pos b) h n o = le_trans o (whole-mono (prec f) a b (prec-pos f) (omega arith))

  pub rounds-number : (z : ℤ) (v : Float) → Rounds f 1 z v → Number v
  unfolding is_nan
  rounds-number z v r = elim (over? z) [
    | yes o ↦ subst Number (sym (r.beyond o)) refl
    | no u ↦ value-number f v (round_whole_ℤ (prec f) z) (r.value (lt_of_not-le u))
  ]

  infs-le : (y z : ℤ) → plus y + minus z ≤ plus z + minus y → le (inf (is_negative y)) (inf (is_negative z)) ≡ true
  unfolding le
  infs-le (pos a) (pos b) h = refl
  infs-le (pos a) (negsuc b) h = absurd (parts-clash a b h)
  infs-le (negsuc a) (pos b) h = refl
  infs-le (negsuc a) (negsuc b) h = refl

  pub rounds-mono : (y z : ℤ) (u v : Float) → Rounds f 1 y u → Rounds f 1 z v → plus y + minus z ≤ plus z + minus y → le u v ≡ true
  rounds-mono y z u v r t h = go (over? y) (over? z)
    where
      low : (s : Bool) → is_negative y ≡ s → Over y → (Over z → ⊥) → le u v ≡ true
      low true n o k = subst (λ (w : Float). le w v ≡ true) (sym (r.beyond o ∙ ap inf n)) (le-bottom v (rounds-number z v t))
      low false n o k = absurd (k (over-above y z h n o))

      high : (s : Bool) → is_negative z ≡ s → (Over y → ⊥) → Over z → le u v ≡ true
      high false n k o = subst (λ (w : Float). le u w ≡ true) (sym (t.beyond o ∙ ap inf n)) (le-top u (rounds-number y u r))
      high true n k o = absurd (k (over_below y z h n o))

      go : Dec (Over y) → Dec (Over z) → le u v ≡ true
      go (yes o) (yes p) =
          subst (λ (w : Float). le w v ≡ true) (sym (r.beyond o))
          (subst (λ (w : Float). le (inf (is_negative y)) w ≡ true) (sym (t.beyond p)) (infs-le y z h))
      go (yes o) (no k) = low (is_negative y) refl o k
      go (no k) (yes p) = high (is_negative z) refl k p
      go (no k) (no l) =
          value-le f u v (round_whole_ℤ (prec f) y) (round_whole_ℤ (prec f) z) (r.value (lt_of_not-le k)) (t.value (lt_of_not-le l))
          (whole_ℤ-mono (prec f) y z (prec-pos f) h)

  -- ---- a finite value added to both sides, or taken off
  module _ (g : Float) (g_held : T (fits f g)) (g-finite : T (finite g)) where
    abbrev zg : ℤ
    zg = signed_magnitude f g

    sum-rounds-to : (a : Float) → T (fits f a) → T (finite a) → Rounds f 1 (signed_magnitude f a +ℤ zg) (add f a g)
    sum-rounds-to a p q = add_rounds f a g (signed_magnitude f a) zg (own-units f a p q) (own-units f g g_held g-finite)

    inf-add : (s : Bool) → add f (inf s) g ≡ inf s
    unfolding add
    inf-add s = by g g-finite
      where
        by : (g : Float) → T (finite g) → add f (inf s) g ≡ inf s
        by nan h = absurd h
        by (inf t) h = absurd h
        by (fin t n d) h = refl

    add-number : (a : Float) → T (fits f a) → Number a → Number (add f a g)
    unfolding is_nan
    add-number nan p h = absurd (true≢false h)
    add-number (inf s) p h = subst Number (sym (inf-add s)) refl
    add-number (fin s m e) p h =
        rounds-number (signed_magnitude f (fin s m e) +ℤ zg) (add f (fin s m e) g) (sum-rounds-to (fin s m e) p tt)

    from-bottom : (b : Float) → T (fits f b) → Number b → le (add f (inf true) g) (add f b g) ≡ true
    from-bottom b p n = subst (λ (w : Float). le w (add f b g) ≡ true) (sym (inf-add true)) (le-bottom (add f b g) (add-number b p n))

    to-top : (a : Float) → T (fits f a) → Number a → le (add f a g) (add f (inf false) g) ≡ true
    to-top a p n = subst (λ (w : Float). le (add f a g) w ≡ true) (sym (inf-add false)) (le-top (add f a g) (add-number a p n))

    pub add-mono : (a b : Float) → T (fits f a) → T (fits f b) → le a b ≡ true → le (add f a g) (add f b g) ≡ true
    unfolding le
    add-mono a b p q h = go a b p q h (le-number a b h).0 (le-number a b h).1
      where
        go : (a b : Float) → T (fits f a) → T (fits f b) → le a b ≡ true → Number a → Number b → le (add f a g) (add f b g) ≡ true
        go nan b p q h m n = absurd (nan-none m)
        go (inf true) b p q h m n = from-bottom b q n
        go (inf false) nan p q h m n = absurd (nan-none n)
        go (inf false) (inf true) p q h m n = absurd (true≢false (sym h))
        go (inf false) (inf false) p q h m n = to-top (inf false) p m
        go (inf false) (fin t k d) p q h m n = absurd (true≢false (sym h))
        go (fin s j e) nan p q h m n = absurd (nan-none n)
        go (fin s j e) (inf true) p q h m n = absurd (true≢false (sym h))
        go (fin s j e) (inf false) p q h m n = to-top (fin s j e) p m
        go (fin s j e) (fin t k d) p q h m n =
            let a = fin s j e in
            let b = fin t k d in
            let x = signed_magnitude f a in
            let y = signed_magnitude f b in
            let order = le-value f a b x y (own-units f a p tt) (own-units f b q tt) h in
            rounds-mono (x +ℤ zg) (y +ℤ zg) (add f a g) (add f b g) (sum-rounds-to a p tt) (sum-rounds-to b q tt)
            (omega (arith, add_parts x zg, add_parts y zg, order))

pub sub-mono : (f : Format) (g : Float) → T (fits f g) → T (finite g) → (a b : Float) → T (fits f a) → T (fits f b)
    → le a b ≡ true → le (sub f a g) (sub f b g) ≡ true
unfolding sub
sub-mono f g p q = let v = neg_value f g (signed_magnitude f g) (own-units f g p q) in add-mono f (neg g) v.held v.finite
