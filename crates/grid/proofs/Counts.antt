-- Whole numbers as doubles: their order, sums and products, and the cells of an extent, which are a whole number from
-- 1 up or infinity. Assumes nothing.
use mathlib.Core.Path.{◌≡◌, refl, sym, ap, ◌∙◌, subst}
use mathlib.Core.Bool.{Bool, true, false, true≢false}
use Prim.Native.Nat.{ℕ, zero, suc, ◌+◌, ◌-◌, ◌*◌, ◌/◌, ◌^◌, ◌≤◌, ◌<◌, min}
use native.Mathlib.Nat.{mul-one, zero-mul, mul_assoc, mul_comm, mul-pos, mul-le-mul_right, mul-lt-mul_of_pos_right, mul-div_cancel}
use native.Mathlib.Omega.{arith}
use borrow.Author.Tests.{ltb-true, ltb-false, lt-ltb, le-ltb}
use lib.Dec.{T, ltb, lit<}
use lib.Ieee.{Float, nan, inf, fin, up, down, binary64, of_bits, of_int, to_unsigned, div, round, lt, le, fits, is_nan}
use lib.Ieee.Bits.{is_true}
use lib.Ieee.Exact.{HasValue}
use lib.Ieee.Back.{round_whole}
use lib.Ieee.Order.{round_mono}
use lib.Ieee.Fits.{down_pos, div-fits}
use Rattle.doubles.specs.Constants.{one}
use Rattle.doubles.specs.Doubles.{larger_of, ceil_of}
use Rattle.doubles.proofs.Order.{lt-le-trans, le→not-lt}
use Rattle.doubles.proofs.Whole.{ceil-exact}
use Rattle.grid.specs.Grid.{whole}
use Rattle.grid.specs.FromSpec.{cell_count}

-- ---- the order of whole numbers

pub value : (n : ℕ) → n ≤ 2 ^ 53 → HasValue (whole n) false n 1
unfolding of_int
value n h = round_whole binary64 false n h

pub le-wholes : (i j : ℕ) → i ≤ j → le (whole i) (whole j) ≡ true
unfolding of_int
le-wholes i j h = is_true _ (round_mono binary64 i 1 j 1 (lit< tt) (lit< tt) (mul-le-mul_right 1 h))

lt-values : (x y : Float) (a b : ℕ) → HasValue x false a 1 → HasValue y false b 1 → a < b → lt x y ≡ true
unfolding lt
lt-values nan y a b p q h = absurd p
lt-values (inf s) y a b p q h = absurd p
lt-values (fin true m e) y a b p q h = absurd (true≢false p.0)
lt-values (fin false m e) nan a b p q h = absurd q
lt-values (fin false m e) (inf t) a b p q h = absurd q
lt-values (fin false m e) (fin true n d) a b p q h = absurd (true≢false q.0)
lt-values (fin false m e) (fin false n d) a b p q h =
    let x : m * up e ≡ a * down e = sym (mul-one (m * up e)) ∙ p.1 in
    let y : n * up d ≡ b * down d = sym (mul-one (n * up d)) ∙ q.1 in
    lt-ltb (m * up e * down d) (n * up d * down e)
    (rw (x, y, mul_assoc a (down e) (down d), mul_assoc b (down d) (down e), mul_comm (down d) (down e))
    (mul-lt-mul_of_pos_right h (mul-pos (down_pos e) (down_pos d))))

-- the test tells whether i < j where it passes for each such i
lt-if : (i j : ℕ) → (i < j → lt (whole i) (whole j) ≡ true) → lt (whole i) (whole j) ≡ ltb i j
lt-if i j f = go (ltb i j) (ltb-true i j) (ltb-false i j)
  where
    go : (b : Bool) → (b ≡ true → i < j) → (b ≡ false → j ≤ i) → lt (whole i) (whole j) ≡ b
    go true g k = f (g refl)
    go false g k = le→not-lt (whole j) (whole i) (le-wholes j i (k refl))

-- a whole number below 2 ^ 53 compares with any other as the double does, though the other may be rounded
pub lt-whole : (i j : ℕ) → i < 2 ^ 53 → lt (whole i) (whole j) ≡ ltb i j
lt-whole i j h = lt-if i j (λ k. lt-le-trans (whole i) (whole (suc i)) (whole j)
    (lt-values (whole i) (whole (suc i)) i (suc i) (value i (omega arith)) (value (suc i) h) (omega arith)) (le-wholes (suc i) j k))

pub lt-whole-right : (i j : ℕ) → j ≤ 2 ^ 53 → lt (whole i) (whole j) ≡ ltb i j
lt-whole-right i j h = lt-if i j (λ k. lt-whole i j (omega arith) ∙ lt-ltb i j k)

-- ---- the cells of an extent

-- a whole number from 1 up that the double has exactly, or infinity
pub data Cells : Float → Type 0 where
  endless : Cells (inf false)
  counted : (n : ℕ) → 0 < n → HasValue (whole n) false n 1 → Cells (whole n)

pub one-whole : one ≡ whole 1
unfolding of_bits of_int
one-whole = refl

one-cells : Cells one
one-cells = rw one-whole (counted 1 (lit< tt) (value 1 (omega arith)))

at-least-1 : (w : Float) (s : Bool) (n : ℕ) → HasValue w s n 1 → w ≡ round binary64 s n 1 → Cells (larger_of w one)
unfolding larger_of lt of_bits is_nan
at-least-1 nan s n v e = absurd v
at-least-1 (inf t) s n v e = absurd v
at-least-1 (fin true m d) s n v e = rw (lt-ltb 0 (m * up d * 1 + 1 * 1 * down d) (let p = down_pos d in omega arith)) one-cells
at-least-1 (fin false m d) true n v e = absurd (true≢false (sym v.0))
at-least-1 (fin false m d) false zero v e =
    let p = down_pos d in
    let z : m * up d * 1 ≡ 0 = v.1 ∙ zero-mul (down d) in
    rw (lt-ltb (m * up d * 1) (1 * 1 * down d) (omega arith)) one-cells
at-least-1 (fin false m d) false (suc n) v e =
    let l : 1 * down d ≤ suc n * down d = mul-le-mul_right (down d) (omega arith) in
    rw (le-ltb (m * up d * 1) (1 * 1 * down d) (rw v.1 (omega arith)))
    (subst Cells (sym (whole_is e))
    (counted (suc n) (omega arith) (subst (λ (x : Float). HasValue x false (suc n) 1) (whole_is e) v)))
  where
    whole_is : fin false m d ≡ round binary64 false (suc n) 1 → fin false m d ≡ whole (suc n)
    whole_is e = e ∙ unfold of_int in refl

cells_up : (q : Float) → T (fits binary64 q) → Cells (larger_of (ceil_of q) one)
unfolding ceil_of
cells_up nan t = unfold larger_of is_nan in one-cells
cells_up (inf true) t = unfold larger_of is_nan lt of_bits in one-cells
cells_up (inf false) t = unfold larger_of is_nan lt of_bits in endless
cells_up (fin false m e) t = at-least-1 _ _ _ (ceil-exact false m e t) refl
cells_up (fin true m e) t = at-least-1 _ _ _ (ceil-exact true m e t) refl

pub cells_whole : (extent size : Float) → Cells (cell_count extent size)
unfolding cell_count
cells_whole extent size = cells_up (div binary64 extent size) (div-fits binary64 extent size)

-- as a count: the whole number, or the largest that the cast gives
pub count_of : (x : Float) (n : ℕ) → HasValue x false n 1 → to_unsigned 64 x ≡ min n (2 ^ 64 - 1)
unfolding to_unsigned
count_of nan n v = absurd v
count_of (inf s) n v = absurd v
count_of (fin true m e) n v = absurd (true≢false v.0)
count_of (fin false m e) n v =
    ap (λ (k : ℕ). min k (2 ^ 64 - 1))
    (ap (λ (k : ℕ). k / down e) (sym (mul-one (m * up e)) ∙ v.1) ∙ mul-div_cancel n (down_pos e))

pub above-inf : (i : ℕ) → i ≤ 2 ^ 53 → lt (whole i) (inf false) ≡ true
above-inf i h = go (whole i) (value i h)
  where
    go : (x : Float) → HasValue x false i 1 → lt x (inf false) ≡ true
    go nan v = absurd v
    go (inf s) v = absurd v
    go (fin s m e) v = unfold lt in refl

-- the test in doubles is the one of whole numbers
pub above-is : (x : Float) → Cells x → (most : ℕ) → most < 2 ^ 32 → lt (whole most) x ≡ ltb most (to_unsigned 64 x)
above-is x endless most h = above-inf most (omega arith) ∙ unfold to_unsigned in sym (lt-ltb most (2 ^ 64 - 1) (omega arith))
above-is x (counted n p v) most h = lt-whole most n (omega arith) ∙ capped (ltb most n) (ltb-true most n) (ltb-false most n)
  where
    capped : (b : Bool) → (b ≡ true → most < n) → (b ≡ false → n ≤ most) → b ≡ ltb most (to_unsigned 64 (whole n))
    capped true f g = let k = f refl in rw (count_of (whole n) n v) (sym (lt-ltb most (min n (2 ^ 64 - 1)) (omega arith)))
    capped false f g = let k = g refl in rw (count_of (whole n) n v) (sym (le-ltb most (min n (2 ^ 64 - 1)) (omega arith)))

-- there is a cell, and where the cells are at most `most` the cast loses nothing
pub some-cell : (x : Float) → Cells x → 1 ≤ to_unsigned 64 x
some-cell x endless = unfold to_unsigned in omega arith
some-cell x (counted n p v) = rw (count_of (whole n) n v) (omega arith)

pub cast-exact : (x : Float) → Cells x → (most : ℕ) → most < 2 ^ 32 → to_unsigned 64 x ≤ most → whole (to_unsigned 64 x) ≡ x
cast-exact x endless most h k = absurd (none (unfold to_unsigned in k))
  where
    none : 2 ^ 64 - 1 ≤ most → ⊥
    none l = omega arith
cast-exact x (counted n p v) most h k = ap whole (count_of (whole n) n v ∙ same (rw (count_of (whole n) n v) at k))
  where
    same : min n (2 ^ 64 - 1) ≤ most → min n (2 ^ 64 - 1) ≡ n
    same l = omega arith
