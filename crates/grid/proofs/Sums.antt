-- The rays of all grids, which the Rust adds up in doubles: the test against `max_rays` is the one of whole numbers,
-- and a total that passes it is exact. Assumes nothing.
use mathlib.Core.Path.{◌≡◌, refl, sym, ◌∙◌, subst}
use mathlib.Core.Logic.{◌⊎◌, inl, inr}
use mathlib.Core.Bool.{Bool, true, false, cond, true≢false}
use Prim.Native.Nat.{ℕ, suc, ◌+◌, ◌*◌, ◌^◌, ◌≤◌, ◌<◌}
use native.Mathlib.Nat.{mul-one, add-mul, mul_assoc, mul_comm, mul_right_comm, mul-pos, mul-le-mul_right, le_of_mul-le-mul_right}
use native.Mathlib.Omega.{arith}
use borrow.Author.Tests.{ltb-true, ltb-false, lt-ltb}
use lib.Dec.{ltb, lit<}
use lib.IntN.{ℤ}
use lib.Ieee.{Float, nan, inf, fin, Format, prec, emax, low, up, down, binary64, of_bits, of_int, odd, units, add, mul, sum, round, lt, le}
use lib.Ieee.Bits.{is_true}
use lib.Ieee.Exact.{HasValue, odd_sign}
use lib.Ieee.Scale.{round_same}
use lib.Ieee.Order.{round_mono}
use lib.Ieee.Positive.{mul_at, positive_of_value}
use lib.Ieee.Fits.{down_pos, round_is}
use Rattle.doubles.specs.Constants.{two}
use Rattle.doubles.proofs.Order.{le-number, lt-le-trans, le-top, le→side}
use Rattle.grid.specs.Grid.{whole}
use Rattle.grid.specs.FromSpec.{rays_of}
use Rattle.grid.specs.declared.Vec3.{Vec3}
use Rattle.grid.proofs.Counts.{value, le-wholes, lt-whole, lt-whole-right}

-- ---- exact sums and products

mul-whole : (a b : ℕ) → 0 < a → 0 < b → a ≤ 2 ^ 53 → b ≤ 2 ^ 53 → mul binary64 (whole a) (whole b) ≡ whole (a * b)
unfolding of_int
mul-whole a b pa pb ha hb =
    mul_at binary64 (whole a) (whole b) a 1 b 1 (positive_of_value (whole a) a 1 (value a ha) pa)
    (positive_of_value (whole b) b 1 (value b hb) pb) (lit< tt) (lit< tt) (value a ha) (value b hb)

add-values : (x y : Float) (a b : ℕ) → HasValue x false a 1 → HasValue y false b 1 → add binary64 x y ≡ round binary64 false (a + b) 1
unfolding add sum
add-values nan y a b p q = absurd p
add-values (inf s) y a b p q = absurd p
add-values (fin true m e) y a b p q = absurd (true≢false p.0)
add-values (fin false m e) nan a b p q = absurd q
add-values (fin false m e) (inf t) a b p q = absurd q
add-values (fin false m e) (fin true n d) a b p q = absurd (true≢false q.0)
add-values (fin false m e) (fin false n d) a b p q =
    let x : m * up e ≡ a * down e = sym (mul-one (m * up e)) ∙ p.1 in
    let y : n * up d ≡ b * down d = sym (mul-one (n * up d)) ∙ q.1 in
    round_same binary64 false (m * up e * down d + n * up d * down e) (down e * down d) (a + b) 1
    (mul-pos (down_pos e) (down_pos d)) (lit< tt)
    (rw (mul-one, x, y, mul_assoc a (down e) (down d), mul_assoc b (down d) (down e), mul_comm (down d) (down e), ← add-mul))

add-whole : (a b : ℕ) → a ≤ 2 ^ 53 → b ≤ 2 ^ 53 → add binary64 (whole a) (whole b) ≡ whole (a + b)
unfolding of_int
add-whole a b ha hb = add-values (whole a) (whole b) a b (value a ha) (value b hb)

-- ---- rounded sums

-- infinity, or a number whose sign is clear
pub data Plain : Float → Type 0 where
  endless : Plain (inf false)
  number : (m : ℕ) (e : ℤ) → Plain (fin false m e)

units-plain : (f : Format) (q k : ℕ) → Plain (units f false q k)
unfolding units
units-plain f q k = go (ltb (q * 2 ^ k) (2 ^ (low f + suc (emax f))))
  where
    digits : (q : ℕ) → Plain (odd (suc (prec f)) false q k (low f))
    digits q = go' (odd (suc (prec f)) false q k (low f)) (odd_sign (suc (prec f)) false q k (low f))
      where
        go' : (x : Float) → HasValue x false (q * 2 ^ k) (2 ^ low f) → Plain x
        go' nan v = absurd v
        go' (inf s) v = absurd v
        go' (fin true m e) v = absurd (true≢false v.0)
        go' (fin false m e) v = number m e

    go : (b : Bool) → Plain (cond b (odd (suc (prec f)) false q k (low f)) (inf false))
    go true = digits q
    go false = endless

pub round-plain : (n d : ℕ) → Plain (round binary64 false n d)
round-plain n d = subst Plain (sym (round_is binary64 false n d)) (units-plain binary64 _ _)

whole_plain : (n : ℕ) → Plain (whole n)
unfolding of_int
whole_plain n = round-plain n 1

-- k ≤ m * 2 ^ e, of whole numbers
at_least : (w : Float) (k m : ℕ) (e : ℤ) → HasValue w false k 1 → le w (fin false m e) ≡ true → k * down e ≤ m * up e
at_least nan k m e v h = absurd v
at_least (inf s) k m e v h = absurd v
at_least (fin true n d) k m e v h = absurd (true≢false v.0)
at_least (fin false n d) k m e v h =
    let y : n * up d ≡ k * down d = sym (mul-one (n * up d)) ∙ v.1 in
    let l : n * up d * down e ≤ m * up e * down d = le→side (fin false n d) (fin false m e) h in
    let l' : k * down e * down d ≤ m * up e * down d = rw (mul_right_comm k (down e) (down d), ← y) l in
    le_of_mul-le-mul_right l' (down_pos d)

-- a sum of two such is one, and is no less than a whole number that either reaches
module _ (k : ℕ) (small : k ≤ 2 ^ 53) where
  to-inf : le (whole k) (inf false) ≡ true
  to-inf = le-top (whole k) (le-number (whole k) (whole k) (le-wholes k k (omega arith))).0

  to-sum : (n d : ℕ) → 0 < d → k * d ≤ n → le (whole k) (round binary64 false n d) ≡ true
  unfolding of_int
  to-sum n d p h = is_true _ (round_mono binary64 k 1 n d (lit< tt) p (rw mul-one h))

  add-reaches : (x y : Float) → Plain x → Plain y → (le (whole k) x ≡ true) ⊎ (le (whole k) y ≡ true)
      → le (whole k) (add binary64 x y) ≡ true
  unfolding add sum
  add-reaches x y endless endless h = to-inf
  add-reaches x y endless (number n d) h = to-inf
  add-reaches x y (number m e) endless h = to-inf
  add-reaches x y (number m e) (number n d) (inl h) =
      let l : k * down e * down d ≤ m * up e * down d = mul-le-mul_right (down d) (at_least (whole k) k m e (value k small) h) in
      to-sum (m * up e * down d + n * up d * down e) (down e * down d) (mul-pos (down_pos e) (down_pos d))
      (rw (← mul_assoc k (down e) (down d)) (omega arith))
  add-reaches x y (number m e) (number n d) (inr h) =
      let l : k * down d * down e ≤ n * up d * down e = mul-le-mul_right (down e) (at_least (whole k) k n d (value k small) h) in
      to-sum (m * up e * down d + n * up d * down e) (down e * down d) (mul-pos (down_pos e) (down_pos d))
      (rw (mul_comm (down e) (down d), ← mul_assoc k (down d) (down e)) (omega arith))

add-plain : (x y : Float) → Plain x → Plain y → Plain (add binary64 x y)
unfolding add sum
add-plain x y endless endless = endless
add-plain x y endless (number n d) = endless
add-plain x y (number m e) endless = endless
add-plain x y (number m e) (number n d) = round-plain (m * up e * down d + n * up d * down e) (down e * down d)

-- ---- the total of all rays, for counts of cells that are at most `most`

abbrev pub wholes : ℕ → ℕ → ℕ → Vec3
wholes a b c = record { x = whole a; y = whole b; z = whole c }

two-whole : two ≡ whole 2
unfolding of_bits of_int
two-whole = refl

module _ (a b c most : ℕ) (pa : 0 < a) (pb : 0 < b) (pc : 0 < c) (ha : a ≤ most) (hb : b ≤ most) (hc : c ≤ most)
    (small : most < 2 ^ 32) where
  products : rays_of (wholes a b c) ≡ add binary64 (add binary64 (whole (a * b)) (whole (b * c))) (whole (c * a))
  products = rw (
    mul-whole a b pa pb (omega arith) (omega arith),
    mul-whole b c pb pc (omega arith) (omega arith),
    mul-whole c a pc pa (omega arith) (omega arith),
  )

  exact : a * b ≤ most → b * c ≤ most → c * a ≤ most → rays_of (wholes a b c) ≡ whole (a * b + b * c + c * a)
  exact p q r = products ∙ rw (
    add-whole (a * b) (b * c) (omega arith) (omega arith),
    add-whole (a * b + b * c) (c * a) (omega arith) (omega arith),
  )

  -- a product past `most` takes the total past it
  reached : (most < a * b) ⊎ ((most < b * c) ⊎ (most < c * a)) → lt (whole most) (rays_of (wholes a b c)) ≡ true
  reached h = lt-le-trans (whole most) (whole (suc most)) (rays_of (wholes a b c))
      (lt-whole most (suc most) (omega arith) ∙ lt-ltb most (suc most) (omega arith)) (rw products (go h))
    where
      fit : suc most ≤ 2 ^ 53
      fit = omega arith

      to : (n : ℕ) → most < n → le (whole (suc most)) (whole n) ≡ true
      to n l = le-wholes (suc most) n l

      outer : (le (whole (suc most)) (add binary64 (whole (a * b)) (whole (b * c))) ≡ true) ⊎ (le (whole (suc most)) (whole (c * a)) ≡ true)
          → le (whole (suc most)) (add binary64 (add binary64 (whole (a * b)) (whole (b * c))) (whole (c * a))) ≡ true
      outer = add-reaches (suc most) fit (add binary64 (whole (a * b)) (whole (b * c))) (whole (c * a))
          (add-plain (whole (a * b)) (whole (b * c)) (whole_plain (a * b)) (whole_plain (b * c))) (whole_plain (c * a))

      inner : (le (whole (suc most)) (whole (a * b)) ≡ true) ⊎ (le (whole (suc most)) (whole (b * c)) ≡ true)
          → le (whole (suc most)) (add binary64 (whole (a * b)) (whole (b * c))) ≡ true
      inner = add-reaches (suc most) fit (whole (a * b)) (whole (b * c)) (whole_plain (a * b)) (whole_plain (b * c))

      go : (most < a * b) ⊎ ((most < b * c) ⊎ (most < c * a))
          → le (whole (suc most)) (add binary64 (add binary64 (whole (a * b)) (whole (b * c))) (whole (c * a))) ≡ true
      go (inl l) = outer (inl (inner (inl (to (a * b) l))))
      go (inr (inl l)) = outer (inl (inner (inr (to (b * c) l))))
      go (inr (inr l)) = outer (inr (to (c * a) l))

  -- the Rust's test in doubles is the one of whole numbers
  pub total-test : lt (whole most) (rays_of (wholes a b c)) ≡ ltb most (a * b + b * c + c * a)
  total-test = go (ltb most (a * b)) (ltb most (b * c)) (ltb most (c * a)) (ltb-true most (a * b))
      (ltb-false most (a * b)) (ltb-true most (b * c)) (ltb-false most (b * c)) (ltb-true most (c * a))
      (ltb-false most (c * a))
    where
      past : (most < a * b) ⊎ ((most < b * c) ⊎ (most < c * a)) → most < a * b + b * c + c * a
          → lt (whole most) (rays_of (wholes a b c)) ≡ ltb most (a * b + b * c + c * a)
      past h l = reached h ∙ sym (lt-ltb most (a * b + b * c + c * a) l)

      go : (x y z : Bool) → (x ≡ true → most < a * b) → (x ≡ false → a * b ≤ most) → (y ≡ true → most < b * c)
          → (y ≡ false → b * c ≤ most) → (z ≡ true → most < c * a) → (z ≡ false → c * a ≤ most)
          → lt (whole most) (rays_of (wholes a b c)) ≡ ltb most (a * b + b * c + c * a)
      go true y z x1 x0 y1 y0 z1 z0 = let l = x1 refl in past (inl l) (omega arith)
      go false true z x1 x0 y1 y0 z1 z0 = let l = y1 refl in past (inr (inl l)) (omega arith)
      go false false true x1 x0 y1 y0 z1 z0 = let l = z1 refl in past (inr (inr l)) (omega arith)
      go false false false x1 x0 y1 y0 z1 z0 =
          rw (exact (x0 refl) (y0 refl) (z0 refl)) (lt-whole most (a * b + b * c + c * a) (omega arith))

  -- and a total that passes it is exact
  pub total-exact : a * b + b * c + c * a ≤ most → rays_of (wholes a b c) ≡ whole (a * b + b * c + c * a)
  total-exact h = exact (omega arith) (omega arith) (omega arith)

  -- twice that total against a number that the cast may round
  pub twice-test : a * b + b * c + c * a ≤ most → (i : ℕ) → lt (whole i) (mul binary64 two (rays_of (wholes a b c)))
      ≡ ltb i (2 * (a * b + b * c + c * a))
  twice-test h i =
      let n = a * b + b * c + c * a in
      let p : 0 < a * b = mul-pos pa pb in
      rw (total-exact h, two-whole, mul-whole 2 n (omega arith) (omega arith) (omega arith) (omega arith))
      (lt-whole-right i (2 * n) (omega arith))
