-- Number 4 has no cause. For a box within its limits the resolution limit is 1e-6, and no step is below that, whatever the cell
-- size along each axis. So the Rust's `grid`, which has the test, and the port's, which has not, give the same answer to every
-- input. Assumes nothing.
use mathlib.Core.Path.{◌≡◌, refl, sym, ap, ◌∙◌, subst}
use mathlib.Core.Logic.{◌⊎◌, inl, inr}
use mathlib.Core.Bool.{Bool, true, false, cond, not}
use mathlib.Core.List.{List}
use Prim.Native.Nat.{ℕ, ◌*◌, ◌≤◌}
use native.Mathlib.Nat.{mul-pos, mul-le-mul_left}
use native.Mathlib.Omega.{arith}
use lib.Dec.{lit≤}
use lib.IntN.{ℤ, pos}
use lib.Ieee.{Float, nan, inf, fin, up, down, binary64, of_bits, mul, round, lt, le, eq, is_nan}
use lib.Ieee.Bits.{is_true}
use lib.Ieee.Order.{round_mono}
use lib.Ieee.Fits.{down_pos}
use Rattle.logic.proofs.Bools.{clash}
use Rattle.std.specs.Prelude.{Result, Ok, Err}
use Rattle.doubles.specs.Constants.{one, two, million, millionth}
use Rattle.doubles.specs.Doubles.{larger_of, abs_of}
use Rattle.doubles.proofs.Order.{le_trans, le→not-lt}
use Rattle.doubles.proofs.Pick.{larger-either}
use Rattle.refusal.specs.Refusal.{Due, NoneDue}
use Rattle.refusal.specs.declared.Refusal.TheVariants.{Description, RayLimit, IntervalLimit}
use Rattle.grid.specs.Axes.{by_digit, world_axis, along_of, step_along}
use Rattle.grid.specs.Grid.{whole}
use Rattle.grid.specs.FromSpec.{any_above, is_mm, sizes_of, extents_of, misdescribed, dims_of, grid_with, rays_of, grid_over, grid_of}
use Rattle.grid.specs.Causes.{dims_in, grid_in, grid_causes, ByCauses, GridPost}
use Rattle.grid.specs.Retired.{BoxFits, c128, epsilon, magnitude_of, least_step, TooFine, too_fine, grid_as_rust, by_number}
use Rattle.grid.specs.declared.Vec3.{Vec3}
use Rattle.grid.specs.declared.WorldAxis.{WorldAxis}
use Rattle.grid.specs.declared.DexelStockSpec.{DexelStockSpec}
use Rattle.grid.specs.declared.DexelGrid.{DexelGrid}
use Rattle.refusal.specs.declared.Refusal.{Refusal}
use Rattle.grid.proofs.Described.{below-axis, passes, no-clause-passes}
use Rattle.grid.proofs.Extents.{Sized}
use Rattle.grid.proofs.Causes.{grid-by-causes}
use Rattle.grid.proofs.Facts.{min-sized, max-sized, steps-least}

-- ---- the resolution limit

-- a number whose sign is clear, at most 1e6
data Small : Float → Type 0 where
  small : (m : ℕ) (e : ℤ) → m * up e ≤ 1000000 * down e → Small (fin false m e)

abs-small : (x : Float) → Sized 1000000 x → Small (abs_of x)
unfolding abs_of
abs-small nan h = absurd h
abs-small (inf s) h = absurd h
abs-small (fin s m e) h = small m e h

one-small : Small one
unfolding of_bits
one-small = small 1 (pos 0) (lit≤ tt)

larger-small : (a b : Float) → Small a → Small b → Small (larger_of a b)
larger-small a b p q = go (larger-either a b)
  where
    go : (larger_of a b ≡ a) ⊎ (larger_of a b ≡ b) → Small (larger_of a b)
    go (inl e) = subst Small (sym e) p
    go (inr e) = subst Small (sym e) q

-- a product grows with its second factor, rounded too
product-most : (s x : Float) → Small s → Small x → le (mul binary64 s x) (mul binary64 s million) ≡ true
unfolding mul of_bits
product-most s x (small a c l) (small m e h) =
    is_true _ (round_mono binary64 _ _ _ _ (mul-pos (down_pos c) (down_pos e)) (mul-pos (down_pos c) (down_pos (pos 0)))
    (let f = a * up c * down c in
    let k : f * (m * up e) ≤ f * (1000000 * down e) = mul-le-mul_left f h in omega arith))

-- 128 epsilon, and what it gives for the largest bound
factor-small : Small (mul binary64 c128 epsilon)
unfolding mul of_bits round
factor-small = small _ _ (lit≤ tt)

greatest-limit : le (mul binary64 (mul binary64 c128 epsilon) million) millionth ≡ true
unfolding le lt eq mul of_bits round
greatest-limit = refl

magnitude-small : (p q : Vec3) → ((a : WorldAxis) → Sized 1000000 (along_of p a)) → ((a : WorldAxis) → Sized 1000000 (along_of q a))
    → Small (magnitude_of p q)
unfolding magnitude_of by_digit
magnitude-small p q f g = bound q g _ (bound p f one one-small)
  where
    bound : (p : Vec3) → ((a : WorldAxis) → Sized 1000000 (along_of p a)) → (x : Float) → Small x
        → Small (larger_of (larger_of (larger_of x (abs_of p.x)) (abs_of p.y)) (abs_of p.z))
    bound p f x s =
        larger-small _ _ (larger-small _ _ (larger-small _ _ s (abs-small _ (f (world_axis 0)))) (abs-small _ (f (world_axis 1))))
        (abs-small _ (f (world_axis 2)))

larger-millionth : (x : Float) → lt millionth x ≡ false → larger_of millionth x ≡ millionth
unfolding larger_of of_bits is_nan
larger-millionth x h = rw h

-- the limit is 1e-6 for bounds of at most 1e6
limit_is : (p q : Vec3) → ((a : WorldAxis) → Sized 1000000 (along_of p a)) → ((a : WorldAxis) → Sized 1000000 (along_of q a))
    → least_step p q ≡ millionth
unfolding least_step
limit_is p q f g =
    let x = mul binary64 (mul binary64 c128 epsilon) (magnitude_of p q) in
    larger-millionth x (le→not-lt x millionth (le_trans x (mul binary64 (mul binary64 c128 epsilon) million) millionth
    (product-most (mul binary64 c128 epsilon) (magnitude_of p q) factor-small (magnitude-small p q f g)) greatest-limit))

-- ---- the retired test

module _ (s : DexelStockSpec) (sizes : Vec3) (p : BoxFits s sizes) where
  -- no step of such a box is below the limit, for any three cell sizes
  pub never-too-fine : TooFine s (grid_with (extents_of s) (dims_of (extents_of s) sizes)) → ⊥
  unfolding TooFine
  never-too-fine (a, t) =
      let step = step_along (grid_with (extents_of s) (dims_of (extents_of s) sizes)) a in
      clash _ t (rw (limit_is s.min_mm s.max_mm (min-sized s sizes p) (max-sized s sizes p))
      (le→not-lt millionth step (steps-least s sizes p a)))

  test-passes : too_fine s.min_mm s.max_mm (grid_with (extents_of s) (dims_of (extents_of s) sizes)) ≡ false
  unfolding TooFine too_fine
  test-passes = go (too_fine s.min_mm s.max_mm (grid_with (extents_of s) (dims_of (extents_of s) sizes))) refl
    where
      go : (b : Bool) → too_fine s.min_mm s.max_mm (grid_with (extents_of s) (dims_of (extents_of s) sizes)) ≡ b → b ≡ false
      go true e = absurd (never-too-fine (below-axis _ _ e))
      go false e = refl

-- after 1, 2 and 3 there is no cause of 4; 2 and 3 are not needed for it
pub no-fourth-cause : (s : DexelStockSpec) (units : List ℕ) → NoneDue (grid_causes s units) → TooFine s (grid_in s) → ⊥
unfolding NoneDue grid_causes
no-fourth-cause s units n = never-too-fine s (sizes_of s) (no-clause-passes s (sizes_of s) units n.0).box

-- the grid of an accepted answer has no step below the limit
pub accepted-not-too-fine : (s : DexelStockSpec) (units : List ℕ) (g : DexelGrid) → GridPost s units (Ok g) → TooFine s g → ⊥
accepted-not-too-fine s units g p t = no-fourth-cause s units p.by.0 (subst (TooFine s) p.by.1 t)

-- the Rust's answer, with its fourth test, is the port's for every input, number for number
pub grid-as-rust : (s : DexelStockSpec) (units : List ℕ) → grid_as_rust s units ≡ by_number (grid_of s units)
unfolding grid_as_rust grid_of grid_over
grid-as-rust s units = go (is_mm units) (misdescribed s (sizes_of s) (extents_of s)) refl
    ∙ numbered (not (is_mm units)) (misdescribed s (sizes_of s) (extents_of s)) (any_above (dims_in s) (whole s.max_rays)) _ _
  where
    -- 2, 3 and what follows them
    after : Result DexelGrid ℕ → Result DexelGrid ℕ
    after r =
        cond (any_above (dims_in s) (whole s.max_rays)) (Err 2)
        (cond (lt (whole s.max_rays) (rays_of (dims_in s))) (Err 2)
        (cond (lt (whole s.max_intervals) (mul binary64 two (rays_of (dims_in s)))) (Err 3) r))

    rest : Bool → Result DexelGrid ℕ
    rest t = after (cond t (Err 4) (Ok (grid_in s)))

    go : (b c : Bool) → misdescribed s (sizes_of s) (extents_of s) ≡ c
        → cond (not b) (Err 1) (cond c (Err 1) (rest (too_fine s.min_mm s.max_mm (grid_in s))))
        ≡ cond (not b) (Err 1) (cond c (Err 1) (after (Ok (grid_in s))))
    go false c e = refl
    go true true e = refl
    go true false e = ap rest (test-passes s (sizes_of s) (passes s (sizes_of s) e).box)

    -- the answers of the five tests, with their numbers
    numbered : (a b c d e : Bool)
        → cond a (Err 1) (cond b (Err 1) (cond c (Err 2) (cond d (Err 2) (cond e (Err 3) (Ok (grid_in s))))))
        ≡ by_number (cond a (Err Description) (cond b (Err Description)
        (cond c (Err RayLimit) (cond d (Err RayLimit) (cond e (Err IntervalLimit) (Ok (grid_in s)))))))
    numbered true b c d e = refl
    numbered false true c d e = refl
    numbered false false true d e = refl
    numbered false false false true e = refl
    numbered false false false false true = refl
    numbered false false false false false = refl

-- so the Rust gives 4 to no input
pub rust-never-gives-4 : (s : DexelStockSpec) (units : List ℕ) → grid_as_rust s units ≡ Err 4 → ⊥
unfolding Due grid_causes
rust-never-gives-4 s units e = go (grid_of s units) (grid-by-causes s units) (sym (grid-as-rust s units) ∙ e)
  where
    none : Due (grid_causes s units) 4 → ⊥
    none (inl d) = absurd (omega (arith, d.1))
    none (inr (n, inl d)) = absurd (omega (arith, d.1))
    none (inr (n, inr (m, inl d))) = absurd (omega (arith, d.1))
    none (inr (n, inr (m, inr (o, d)))) = d

    number : Result DexelGrid ℕ → ℕ
    number (Ok g) = 0
    number (Err k) = k

    go : (r : Result DexelGrid Refusal) → ByCauses s units r → by_number r ≡ Err 4 → ⊥
    go (Ok g) p h = absurd (omega (arith, ap number h))
    go (Err k) p h = none (subst (Due (grid_causes s units)) (ap number h) p)
