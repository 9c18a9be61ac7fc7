-- The test behind the retired number 4, as the Rust has it. No contract cites it: proofs/Retired.antt shows that it fails for no
-- description that passes the tests before it.
use Rattle.std.specs.Prelude.{◌≡◌, Bool, true, false, cond, not, List, ℕ, Float, Result, Ok, Err}
use Rattle.std.specs.Float.{binary64}
use Rattle.std.specs.Float.Ieee.{of_bits, mul, neg, lt}
use Rattle.doubles.specs.Constants.{million, millionth, one, two}
use Rattle.doubles.specs.Doubles.{larger_of, abs_of}
use Rattle.grid.specs.Axes.{along_of, step_along}
use Rattle.grid.specs.Grid.{whole, is_between}
use Rattle.grid.specs.FromSpec.{least_size, any_below, any_above, is_mm, sizes_of, extents_of, misdescribed, dims_of, grid_with, rays_of}
use Rattle.grid.specs.declared.Vec3.{Vec3}
use Rattle.grid.specs.declared.WorldAxis.{WorldAxis}
use Rattle.grid.specs.declared.DexelStockSpec.{DexelStockSpec}
use Rattle.grid.specs.declared.DexelGrid.{DexelGrid}
use Rattle.refusal.specs.declared.Refusal.{Refusal}
use Rattle.refusal.specs.Refusal.{number_of}

-- what is asked of a box and its cell sizes: coordinates of at most 1e6 in size, cells from 1e-5 to 1e6, extents of at least 1e-6
pub record BoxFits (s : DexelStockSpec) (sizes : Vec3) : Type 0 where
  pub min : (a : WorldAxis) → is_between (along_of s.min_mm a) (neg million) million ≡ true
  pub max : (a : WorldAxis) → is_between (along_of s.max_mm a) (neg million) million ≡ true
  pub size : (a : WorldAxis) → is_between (along_of sizes a) least_size million ≡ true
  pub thick : (a : WorldAxis) → lt (along_of (extents_of s) a) millionth ≡ false

-- 128 and 2 ^ -52 (Rust's `f64::EPSILON`)
abbrev pub c128 : Float
c128 = of_bits binary64 0x4060_0000_0000_0000

abbrev pub epsilon : Float
epsilon = of_bits binary64 0x3cb0_0000_0000_0000

-- the largest size of a bound, at least 1
unfoldable pub magnitude_of : (min max : Vec3) → Float
magnitude_of p q =
    larger_of (larger_of (larger_of (larger_of (larger_of (larger_of one (abs_of p.x)) (abs_of p.y)) (abs_of p.z))
    (abs_of q.x)) (abs_of q.y)) (abs_of q.z)

-- the resolution limit: max (1e-6, 128 epsilon × magnitude), each operation rounded
unfoldable pub least_step : (min max : Vec3) → Float
least_step p q = larger_of millionth (mul binary64 (mul binary64 c128 epsilon) (magnitude_of p q))

-- 4 in document 01's words: a step below the resolution limit
unfoldable pub TooFine : DexelStockSpec → DexelGrid → Type 0
TooFine s g = (a : WorldAxis) × (lt (step_along g a) (least_step s.min_mm s.max_mm) ≡ true)

-- 4 as the Rust tests it, axis by axis
unfoldable pub too_fine : (min max : Vec3) → DexelGrid → Bool
too_fine p q g = any_below (record { x = g.s0; y = g.s1; z = g.s2 }) (least_step p q)

-- the Rust's `grid`: its tests in its order, each as the port has it, and the one of the steps last. It refuses with the numbers
-- of document 01, since `Refusal` has no 4
unfoldable pub grid_as_rust : DexelStockSpec → (units : List ℕ) → Result DexelGrid ℕ
grid_as_rust s units =
    let extents = extents_of s in
    let dims = dims_of extents (sizes_of s) in
    let g = grid_with extents dims in
    cond (not (is_mm units)) (Err 1)
    (cond (misdescribed s (sizes_of s) extents) (Err 1)
    (cond (any_above dims (whole s.max_rays)) (Err 2)
    (cond (lt (whole s.max_rays) (rays_of dims)) (Err 2)
    (cond (lt (whole s.max_intervals) (mul binary64 two (rays_of dims))) (Err 3)
    (cond (too_fine s.min_mm s.max_mm g) (Err 4)
    (Ok g))))))

-- an answer of the port with the number of its refusal
abbrev pub by_number : Result DexelGrid Refusal → Result DexelGrid ℕ
by_number (Ok g) = Ok g
by_number (Err e) = Err (number_of e)
