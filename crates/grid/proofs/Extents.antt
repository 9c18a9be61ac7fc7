-- Sizes of extents and steps: what is within ±1e6 has a finite extent, an extent that is not below 1e-6 is one of a
-- box whose min is below its max, and a step is finite. Assumes nothing.
use mathlib.Core.Path.{◌≡◌, refl, sym, ◌∙◌, subst}
use mathlib.Core.Bool.{Bool, true, false, cond, not, true≢false}
use Prim.Native.Nat.{ℕ, zero, suc, ◌+◌, ◌-◌, ◌*◌, ◌^◌, ◌≤◌, ◌<◌}
use native.Mathlib.Nat.{mul-one, zero-mul, mul_right_comm, mul-pos, mul-le-mul_right, le_of_mul-le-mul_right}
use native.Mathlib.Omega.{arith}
use borrow.Author.Tests.{ltb-false, ne_eqb}
use lib.Dec.{ltb, lit<}
use lib.IntN.{ℤ}
use lib.Ieee.{Float, nan, inf, fin, up, down, binary64, of_bits, of_int, add, sub, div, neg, sum, round, lt, le, eq, unlike, is_nan}
use lib.Ieee.Bits.{is_true}
use lib.Ieee.Exact.{HasValue}
use lib.Ieee.Scale.{finite, round_same}
use lib.Ieee.Order.{round_mono}
use lib.Ieee.Fits.{down_pos}
use Rattle.doubles.specs.Constants.{million, millionth}
use Rattle.doubles.specs.Doubles.{Number}
use Rattle.doubles.proofs.Order.{le→side, side→lt, fin-number, not-lt→le, le→not-lt}
use Rattle.doubles.proofs.Whole.{neg-round}
use Rattle.logic.proofs.Bools.{clash}
use Rattle.grid.specs.Grid.{whole}
use Rattle.grid.proofs.Counts.{value, above-inf}
use Rattle.doubles.proofs.Ranges.{finite_number}
use Rattle.grid.proofs.Sums.{Plain, endless, number, round-plain}

-- finite, and at most k in size
abbrev pub Sized : ℕ → Float → Type 0
Sized k nan = ⊥
Sized k (inf s) = ⊥
Sized k (fin s m e) = m * up e ≤ k * down e

pub sized-finite : (k : ℕ) (x : Float) → Sized k x → finite x ≡ true
sized-finite k nan h = absurd h
sized-finite k (inf s) h = absurd h
sized-finite k (fin s m e) h = refl

pub million-sized : (x : Float) → le (neg million) x ≡ true → le x million ≡ true → Sized 1000000 x
unfolding of_bits neg
million-sized nan h k = absurd (true≢false (sym h ∙ unfold le lt eq in refl))
million-sized (inf true) h k = absurd (true≢false (sym h ∙ unfold le lt eq in refl))
million-sized (inf false) h k = absurd (true≢false (sym k ∙ unfold le lt eq in refl))
million-sized (fin false m e) h k = let l = le→side (fin false m e) million k in omega arith
million-sized (fin true m e) h k = let l = le→side (neg million) (fin true m e) h in omega arith

-- ---- rounding

pub at_most : (w : Float) (k m : ℕ) (e : ℤ) → HasValue w false k 1 → le (fin false m e) w ≡ true → m * up e ≤ k * down e
at_most nan k m e v h = absurd v
at_most (inf s) k m e v h = absurd v
at_most (fin true n d) k m e v h = absurd (true≢false v.0)
at_most (fin false n d) k m e v h =
    let y : n * up d ≡ k * down d = sym (mul-one (n * up d)) ∙ v.1 in
    let l : m * up e * down d ≤ n * up d * down e = le→side (fin false m e) (fin false n d) h in
    let l' : m * up e * down d ≤ k * down e * down d = rw (mul_right_comm k (down e) (down d), ← y) l in
    le_of_mul-le-mul_right l' (down_pos d)

round-plain-sized : (n d k : ℕ) → 0 < d → n ≤ k * d → k ≤ 2 ^ 53 → Sized k (round binary64 false n d)
round-plain-sized n d k p h small = go (round binary64 false n d) (round-plain n d) below
  where
    below : le (round binary64 false n d) (whole k) ≡ true
    below = unfold of_int in is_true _ (round_mono binary64 n d k 1 p (lit< tt) (rw mul-one h))

    go : (x : Float) → Plain x → le x (whole k) ≡ true → Sized k x
    go x endless l = absurd (clash _ (above-inf k small) (le→not-lt (inf false) (whole k) l))
    go x (number m e) l = at_most (whole k) k m e (value k small) l

round-sized : (s : Bool) (n d k : ℕ) → 0 < d → n ≤ k * d → k ≤ 2 ^ 53 → Sized k (round binary64 s n d)
round-sized false n d k p h small = round-plain-sized n d k p h small
round-sized true n d k p h small =
    subst (Sized k) (neg-round binary64 false n d) (turned (round binary64 false n d) (round-plain-sized n d k p h small))
  where
    turned : (x : Float) → Sized k x → Sized k (neg x)
    turned nan h = absurd h
    turned (inf s) h = absurd h
    turned (fin s m e) h = unfold neg in h

-- ---- differences

sum-sized : (s : Bool) (a : ℕ) (t : Bool) (b c k : ℕ) → 0 < c → a + b ≤ k * c → k ≤ 2 ^ 53 → Sized k (sum binary64 s a t b c)
unfolding sum
sum-sized true a true b c k p h small = round-sized true (a + b) c k p h small
sum-sized false a false b c k p h small = round-sized false (a + b) c k p h small
sum-sized true a false b c k p h small = go (ltb a b)
  where
    go : (u : Bool) → Sized k (cond u (round binary64 false (b - a) c) (round binary64 (ltb b a) (a - b) c))
    go true = round-sized false (b - a) c k p (omega arith) small
    go false = round-sized (ltb b a) (a - b) c k p (omega arith) small
sum-sized false a true b c k p h small = go (ltb a b)
  where
    go : (u : Bool) → Sized k (cond u (round binary64 true (b - a) c) (round binary64 false (a - b) c))
    go true = round-sized true (b - a) c k p (omega arith) small
    go false = round-sized false (a - b) c k p (omega arith) small

both-sized : (a b k c d : ℕ) → a ≤ k * c → b ≤ k * d → a * d + b * c ≤ k * 2 * (c * d)
both-sized a b k c d h l =
    let x : a * d ≤ k * c * d = mul-le-mul_right d h in
    let y : b * c ≤ k * d * c = mul-le-mul_right c l in
    omega arith

pub sub-sized : (k : ℕ) (x y : Float) → Sized k x → Sized k y → k * 2 ≤ 2 ^ 53 → Sized (k * 2) (sub binary64 x y)
unfolding sub add neg
sub-sized k nan y h l small = absurd h
sub-sized k (inf s) y h l small = absurd h
sub-sized k (fin s m e) nan h l small = absurd l
sub-sized k (fin s m e) (inf t) h l small = absurd l
sub-sized k (fin s m e) (fin t n d) h l small =
    sum-sized s (m * up e * down d) (not t) (n * up d * down e) (down e * down d) (k * 2)
    (mul-pos (down_pos e) (down_pos d)) (both-sized (m * up e) (n * up d) k (down e) (down d) h l) small

-- ---- a difference that is not below 1e-6

pub micro-number : Number millionth
unfolding of_bits is_nan
micro-number = refl

pub negative-below : (m : ℕ) (e : ℤ) → lt (fin true m e) millionth ≡ true
unfolding of_bits
negative-below m e = side→lt (fin true m e) millionth (fin-number true m e) micro-number (let p = down_pos e in omega arith)

negative-low : (n d : ℕ) → lt (round binary64 true n d) millionth ≡ true
unfolding of_bits
negative-low n d = subst (λ (x : Float). lt x millionth ≡ true) (neg-round binary64 false n d)
    (go (round binary64 false n d) (round-plain n d))
  where
    go : (x : Float) → Plain x → lt (neg x) millionth ≡ true
    go x endless = unfold neg lt in refl
    go x (number m e) = unfold neg in negative-below m e

zero-low : (n d : ℕ) → 0 < d → n ≡ 0 → lt (round binary64 false n d) millionth ≡ true
unfolding of_bits lt round
zero-low n d p h = rw (h, round_same binary64 false 0 d 0 1 p (lit< tt) (sym (zero-mul d)))

low-difference : (x y : Float) → finite x ≡ true → finite y ≡ true → le x y ≡ true → lt (sub binary64 x y) millionth ≡ true
unfolding sub add neg sum
low-difference nan y f g h = absurd (true≢false (sym f))
low-difference (inf s) y f g h = absurd (true≢false (sym f))
low-difference (fin s m e) nan f g h = absurd (true≢false (sym g))
low-difference (fin s m e) (inf t) f g h = absurd (true≢false (sym g))
low-difference (fin true m e) (fin false n d) f g h = negative-low (m * up e * down d + n * up d * down e) (down e * down d)
low-difference (fin false m e) (fin true n d) f g h =
    let l = le→side (fin false m e) (fin true n d) h in
    zero-low (m * up e * down d + n * up d * down e) (down e * down d) (mul-pos (down_pos e) (down_pos d)) (omega arith)
low-difference (fin false m e) (fin false n d) f g h =
    go (m * up e * down d) (n * up d * down e) (le→side (fin false m e) (fin false n d) h)
  where
    go : (a b : ℕ) → a ≤ b → lt (cond (ltb a b) (round binary64 true (b - a) (down e * down d))
        (round binary64 false (a - b) (down e * down d))) millionth ≡ true
    go a b l = pick (ltb a b)
      where
        pick : (u : Bool) → lt (cond u (round binary64 true (b - a) (down e * down d))
            (round binary64 false (a - b) (down e * down d))) millionth ≡ true
        pick true = negative-low (b - a) (down e * down d)
        pick false = zero-low (a - b) (down e * down d) (mul-pos (down_pos e) (down_pos d)) (omega arith)
low-difference (fin true m e) (fin true n d) f g h = go (m * up e * down d) (n * up d * down e) (le→side (fin true m e) (fin true n d) h)
  where
    go : (a b : ℕ) → b ≤ a → lt (cond (ltb a b) (round binary64 false (b - a) (down e * down d))
        (round binary64 (ltb b a) (a - b) (down e * down d))) millionth ≡ true
    go a b l = pick (ltb a b) (ltb b a) (ltb-false b a)
      where
        pick : (u v : Bool) → (v ≡ false → a ≤ b)
            → lt (cond u (round binary64 false (b - a) (down e * down d))
            (round binary64 v (a - b) (down e * down d))) millionth ≡ true
        pick true v k = zero-low (b - a) (down e * down d) (mul-pos (down_pos e) (down_pos d)) (omega arith)
        pick false true k = negative-low (a - b) (down e * down d)
        pick false false k = let j = k refl in zero-low (a - b) (down e * down d) (mul-pos (down_pos e) (down_pos d)) (omega arith)

-- a box whose extent is not below 1e-6 has its min below its max
pub box : (x y : Float) → finite x ≡ true → finite y ≡ true → lt (sub binary64 y x) millionth ≡ false → lt x y ≡ true
box x y f g h = go (lt x y) refl
  where
    go : (b : Bool) → lt x y ≡ b → lt x y ≡ true
    go true e = e
    go false e = absurd (true≢false (sym (low-difference y x g f (not-lt→le x y (finite_number x f) (finite_number y g) e)) ∙ h))

-- ---- steps

pub step-sized : (k : ℕ) (x w : Float) (n : ℕ) → Sized k x → 1 ≤ n → HasValue w false n 1 → k ≤ 2 ^ 53 → Sized k (div binary64 x w)
unfolding div
step-sized k nan w n h p v small = absurd h
step-sized k (inf s) w n h p v small = absurd h
step-sized k (fin s m e) nan n h p v small = absurd v
step-sized k (fin s m e) (inf t) n h p v small = absurd v
step-sized k (fin s m e) (fin t zero d) n h p v small = absurd (none (mul-pos p (down_pos d)))
  where
    none : 0 < n * down d → ⊥
    none l = let z : 0 * up d * 1 ≡ n * down d = v.1 in omega arith
step-sized k (fin s m e) (fin t (suc q) d) n h p v small =
    let y : suc q * up d ≡ n * down d = sym (mul-one (suc q * up d)) ∙ v.1 in
    let l : m * up e * down d ≤ k * down e * down d = mul-le-mul_right (down d) h in
    let j : 1 * (k * down e * down d) ≤ n * (k * down e * down d) = mul-le-mul_right (k * down e * down d) p in
    let i : m * up e * down d ≤ k * (suc q * up d * down e) = rw y (omega arith) in
    rw (ne_eqb (suc q) 0 (λ (z : suc q ≡ 0). omega arith))
    (round-sized (unlike s t) (m * up e * down d) (suc q * up d * down e) k
    (rw y (mul-pos (mul-pos p (down_pos d)) (down_pos e))) i small)
