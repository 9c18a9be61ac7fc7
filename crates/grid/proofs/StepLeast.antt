-- A step is not below 1e-6. The step of one cell is the extent. Of p + 1 cells, p reach no further than the extent: else the
-- quotient would be at most p, rounded too, since rounding keeps the order, and so would its ceiling. So the extent is at least
-- p cell sizes, and a step at least half a size. No error of rounding is estimated. Assumes nothing.
use mathlib.Core.Path.{◌≡◌, refl, sym, ◌∙◌, subst}
use mathlib.Core.Bool.{Bool, true, false, true≢false}
use Prim.Native.Nat.{ℕ, zero, suc, ◌*◌, ◌^◌, ◌≤◌, ◌<◌}
use native.Mathlib.Nat.{mul-one, mul-pos, mul-le-mul_right, le_of_mul-le-mul_right}
use native.Mathlib.Omega.{arith}
use borrow.Author.Tests.{ne_eqb, ltb-true, ltb-false}
use lib.Dec.{T, ltb, lit<, lit≤}
use lib.IntN.{ℤ}
use lib.Ieee.{Float, nan, inf, fin, up, down, binary64, of_bits, of_int, div, round, lt, le, eq, fits}
use lib.Ieee.Bits.{is_true}
use lib.Ieee.Exact.{HasValue}
use lib.Ieee.Order.{round_mono}
use lib.Ieee.Fits.{down_pos, round-fits}
use Rattle.logic.proofs.Bools.{clash}
use Rattle.doubles.specs.Constants.{one, million, millionth}
use Rattle.doubles.specs.Doubles.{larger_of, ceil_of}
use Rattle.doubles.proofs.Order.{le→side, not-lt→side, fin-number, le→not-lt, le-number}
use Rattle.doubles.proofs.Pick.{larger-le}
use Rattle.doubles.proofs.Greatest.{value-whole, ceil-least}
use Rattle.grid.specs.Grid.{whole}
use Rattle.grid.specs.FromSpec.{least_size, cell_count}
use Rattle.grid.proofs.Counts.{Cells, endless, counted, value, one-whole, le-wholes, lt-whole, above-inf, cells_whole}
use Rattle.grid.proofs.Sums.{Plain, number, round-plain}
use Rattle.grid.proofs.Sums.{endless as boundless}
use Rattle.grid.proofs.Extents.{Sized, micro-number, negative-below}

-- ---- 1e-6 and 1e-5, the doubles, as fractions

abbrev millionth_num : ℕ
millionth_num = 4722366482869645

abbrev millionth_den : ℕ
millionth_den = 2 ^ 72

abbrev size_num : ℕ
size_num = 5902958103587057

abbrev size_den : ℕ
size_den = 2 ^ 69

millionth-is : millionth ≡ round binary64 false millionth_num millionth_den
unfolding of_bits round
millionth-is = refl

extent-least : (m : ℕ) (d : ℤ) → lt (fin false m d) millionth ≡ false → millionth_num * 1 * down d ≤ m * up d * millionth_den
unfolding of_bits
extent-least m d h = let l = not-lt→side (fin false m d) millionth (fin-number false m d) micro-number h in omega arith

size-least : (k : ℕ) (c : ℤ) → le least_size (fin false k c) ≡ true → size_num * down c ≤ k * up c * size_den
unfolding of_bits
size-least k c h = let l = le→side least_size (fin false k c) h in omega arith

size-positive : (S C : ℕ) → 0 < C → size_num * C ≤ S * size_den → 0 < S
size-positive zero C p h = omega arith
size-positive (suc S) C p h = omega arith

-- ---- quotients

div_is : (m : ℕ) (d : ℤ) (k : ℕ) (c : ℤ) → 0 < k * up c
    → div binary64 (fin false m d) (fin false k c) ≡ round binary64 false (m * up d * down c) (k * up c * down d)
unfolding div
div_is m d zero c p = absurd (none p)
  where
    none : 0 < 0 * up c → ⊥
    none l = omega arith
div_is m d (suc k) c p = rw (ne_eqb (suc k) 0 (λ (z : suc k ≡ 0). omega arith))

-- an extent of exactly n times 1e-6 or more has a quotient by n of 1e-6 or more
quotient-least : (m : ℕ) (d : ℤ) (w : Float) (n : ℕ) → HasValue w false n 1 → 0 < n
    → millionth_num * n * down d ≤ m * up d * millionth_den → le millionth (div binary64 (fin false m d) w) ≡ true
quotient-least m d nan n v p h = absurd v
quotient-least m d (inf t) n v p h = absurd v
quotient-least m d (fin true q c) n v p h = absurd (true≢false v.0)
quotient-least m d (fin false q c) n v p h =
    let y : q * up c ≡ n * down c = sym (mul-one (q * up c)) ∙ v.1 in
    let some : 0 < q * up c = rw y (mul-pos p (down_pos c)) in
    let l : millionth_num * n * down d * down c ≤ m * up d * millionth_den * down c = mul-le-mul_right (down c) h in
    rw (millionth-is, div_is m d q c some)
    (is_true _ (round_mono binary64 millionth_num millionth_den (m * up d * down c) (q * up c * down d) (lit< tt)
    (mul-pos some (down_pos d)) (rw y (omega arith))))

-- ---- the cells of a quotient N / D

-- a number of at most p has a ceiling of at most p
ceil-most : (q : Float) → T (fits binary64 q) → Plain q → (p : ℕ) → p ≤ 2 ^ 53 → le q (whole p) ≡ true → le (ceil_of q) (whole p) ≡ true
ceil-most q t boundless p small h = absurd (clash _ (above-inf p small) (le→not-lt (inf false) (whole p) h))
ceil-most q t (number m e) p small h = (ceil-least false m e t).least (whole p) (value-whole (whole p) false p (value p small)) h

-- a quotient of at most p has at most p cells
cells-most : (N D p : ℕ) → 0 < D → 1 ≤ p → p ≤ 2 ^ 53 → N ≤ p * D
    → le (larger_of (ceil_of (round binary64 false N D)) one) (whole p) ≡ true
cells-most N D p some positive small h =
    larger-le (ceil_of q) one (le-number (ceil_of q) (whole p) ceiled).0 (le-number one (whole p) reached).0 (whole p)
    ∙ rw (ceiled, reached) refl
  where
    q : Float
    q = round binary64 false N D

    rounded : le q (whole p) ≡ true
    rounded = unfold of_int in is_true _ (round_mono binary64 N D p 1 some (lit< tt) (omega arith))

    ceiled : le (ceil_of q) (whole p) ≡ true
    ceiled = ceil-most q (round-fits binary64 false N D) (round-plain N D) p small rounded

    reached : le one (whole p) ≡ true
    reached = rw one-whole (le-wholes 1 p positive)

-- whole numbers compare as their doubles do
whole-most : (n p : ℕ) → p < 2 ^ 53 → le (whole n) (whole p) ≡ true → n ≤ p
whole-most n p small h = ltb-false p n (sym (lt-whole p n small) ∙ le→not-lt (whole n) (whole p) h)

-- p cells of p + 1 reach no further than the extent
cells-short : (N D p : ℕ) → 0 < D → 1 ≤ p → p < 2 ^ 53 → larger_of (ceil_of (round binary64 false N D)) one ≡ whole (suc p) → p * D ≤ N
cells-short N D p some positive small is = go (ltb N (p * D)) (ltb-true _ _) (ltb-false _ _)
  where
    over : N < p * D → suc p ≤ p
    over h = whole-most (suc p) p small
        (subst (λ (x : Float). le x (whole p) ≡ true) is (cells-most N D p some positive (omega arith) (omega arith)))

    go : (b : Bool) → (b ≡ true → N < p * D) → (b ≡ false → p * D ≤ N) → p * D ≤ N
    go true f g = let l = over (f refl) in omega arith
    go false f g = g refl

-- ---- a step, over the exact fractions: an extent E / B and a cell size S / C

-- an extent of at most 2e6 has at most 2 ^ 38 cells of at least 1e-5
extent-cells : (E B S C : ℕ) → E ≤ 2000000 * B → size_num * C ≤ S * size_den → E * C ≤ 2 ^ 38 * (S * B)
extent-cells E B S C extent size =
    let a : E * C ≤ 2000000 * B * C = mul-le-mul_right C extent in
    let b : size_num * C * B ≤ S * size_den * B = mul-le-mul_right B size in
    omega arith

-- an extent of at least p sizes is at least p + 1 times 1e-6, from p = 1 on
cells-least : (E B S C p : ℕ) → 0 < C → 1 ≤ p → p * (S * B) ≤ E * C → size_num * C ≤ S * size_den
    → millionth_num * suc p * B ≤ E * millionth_den
cells-least E B S C p c some far size =
    let a : suc p * (B * C) ≤ 2 * p * (B * C) = mul-le-mul_right (B * C) (omega arith) in
    let b : size_num * C * (p * B) ≤ S * size_den * (p * B) = mul-le-mul_right (p * B) size in
    let d : millionth_num * suc p * B * C ≤ E * millionth_den * C = omega arith in
    le_of_mul-le-mul_right d c

-- ---- a step, as the grid works it out

module _ (m : ℕ) (d : ℤ) (sized : Sized 2000000 (fin false m d)) (thick : lt (fin false m d) millionth ≡ false)
    (k : ℕ) (c : ℤ) (least : le least_size (fin false k c) ≡ true) where
  abbrev cells : Float
  cells = cell_count (fin false m d) (fin false k c)

  low : size_num * down c ≤ k * up c * size_den
  low = size-least k c least

  some : 0 < k * up c
  some = size-positive (k * up c) (down c) (down_pos c) low

  some-den : 0 < k * up c * down d
  some-den = mul-pos some (down_pos d)

  -- the cells are those of the quotient of the exact fractions
  cells_are : cells ≡ larger_of (ceil_of (round binary64 false (m * up d * down c) (k * up c * down d))) one
  unfolding cell_count
  cells_are = rw (div_is m d k c some)

  cells-below : le cells (whole (2 ^ 38)) ≡ true
  cells-below = rw cells_are (cells-most (m * up d * down c) (k * up c * down d) (2 ^ 38) some-den (lit≤ tt) (lit≤ tt)
      (extent-cells (m * up d) (down d) (k * up c) (down c) sized low))

  exact-least : (n : ℕ) → 0 < n → n ≤ 2 ^ 38 → cells ≡ whole n → millionth_num * n * down d ≤ m * up d * millionth_den
  exact-least zero p small is = absurd (omega arith)
  exact-least (suc zero) p small is = extent-least m d thick
  exact-least (suc (suc n)) p small is =
      cells-least (m * up d) (down d) (k * up c) (down c) (suc n) (down_pos c) (omega arith)
      (cells-short (m * up d * down c) (k * up c * down d) (suc n) some-den (omega arith) (omega arith) (sym cells_are ∙ is)) low

  cells-step : (x : Float) → Cells x → cells ≡ x → le millionth (div binary64 (fin false m d) x) ≡ true
  cells-step x endless is = absurd (clash _ (above-inf (2 ^ 38) (lit≤ tt)) (le→not-lt (inf false) (whole (2 ^ 38))
      (subst (λ (y : Float). le y (whole (2 ^ 38)) ≡ true) is cells-below)))
  cells-step x (counted n p v) is = quotient-least m d (whole n) n v p (exact-least n p
      (whole-most n (2 ^ 38) (lit< tt) (subst (λ (y : Float). le y (whole (2 ^ 38)) ≡ true) is cells-below)) is)

negative-size : (k : ℕ) (c : ℤ) → le least_size (fin true k c) ≡ true → ⊥
unfolding of_bits
negative-size k c h = let l = le→side least_size (fin true k c) h in let p = down_pos c in omega arith

-- an extent from 1e-6 to 2e6 over its cells, of a size from 1e-5 to 1e6
pub extent-step : (e size : Float) → Sized 2000000 e → lt e millionth ≡ false → le least_size size ≡ true → le size million ≡ true
    → le millionth (div binary64 e (cell_count e size)) ≡ true
extent-step nan size sized thick least most = absurd sized
extent-step (inf s) size sized thick least most = absurd sized
extent-step (fin true m d) size sized thick least most = absurd (clash _ (negative-below m d) thick)
extent-step (fin false m d) nan sized thick least most = absurd (clash _ most (unfold le lt eq in refl))
extent-step (fin false m d) (inf true) sized thick least most = absurd (clash _ least (unfold le lt eq of_bits in refl))
extent-step (fin false m d) (inf false) sized thick least most = absurd (clash _ most (unfold le lt eq of_bits in refl))
extent-step (fin false m d) (fin true k c) sized thick least most = absurd (negative-size k c least)
extent-step (fin false m d) (fin false k c) sized thick least most =
    cells-step m d sized thick k c least (cell_count (fin false m d) (fin false k c)) (cells_whole (fin false m d) (fin false k c)) refl
