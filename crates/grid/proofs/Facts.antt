-- What an accepted grid is good for. Assumes nothing.
use mathlib.Core.Path.{◌≡◌, refl, sym, subst}
use mathlib.Core.Logic.{inr}
use mathlib.Core.Bool.{true, false}
use mathlib.Core.List.{List}
use Prim.Native.Nat.{ℕ, zero, suc, ◌*◌, ◌^◌, ◌≤◌, ◌<◌}
use native.Mathlib.Omega.{arith}
use lib.Ieee.{Float, binary64, sub, div, neg, lt, le}
use lib.Ieee.Exact.{HasValue}
use lib.Ieee.Scale.{finite}
use Rattle.std.specs.Prelude.{Ok}
use Rattle.doubles.specs.Constants.{million, millionth}
use Rattle.refusal.specs.Refusal.{NoneDue}
use Rattle.grid.specs.Axes.{by_digit, world_axis, along_of, cells_along, step_along}
use Rattle.grid.specs.Grid.{whole, is_between}
use Rattle.grid.specs.FromSpec.{least_size, sizes_of, extents_of, cell_count, dims_of, grid_with, grid_of}
use Rattle.grid.specs.Rays.{ray_count}
use Rattle.grid.specs.Causes.{Crowded, OverBudget, dims_in, grid_in, grid_causes, ByCauses}
use Rattle.grid.specs.declared.Vec3.{Vec3}
use Rattle.grid.specs.declared.WorldAxis.{WorldAxis}
use Rattle.grid.specs.declared.DexelStockSpec.{DexelStockSpec}
use Rattle.grid.specs.declared.DexelGrid.{DexelGrid}
use Rattle.grid.proofs.Counts.{value}
use Rattle.grid.proofs.Described.{each, and_both, Passes, no-clause-passes}
use Rattle.grid.proofs.Extents.{Sized, sized-finite, million-sized, sub-sized, step-sized, box}
use Rattle.grid.proofs.StepLeast.{extent-step}
use Rattle.grid.proofs.Causes.{Few, few-cells, rays-exact, grid-by-causes}
use Rattle.grid.specs.Facts.{GridFacts}
use Rattle.grid.specs.Retired.{BoxFits}

-- ---- along an axis

extent-axis : (s : DexelStockSpec) (a : WorldAxis)
    → along_of (extents_of s) a ≡ sub binary64 (along_of s.max_mm a) (along_of s.min_mm a)
unfolding by_digit
extent-axis s a = go a.0
  where
    go : (n : ℕ) → along_of (extents_of s) (world_axis n)
        ≡ sub binary64 (along_of s.max_mm (world_axis n)) (along_of s.min_mm (world_axis n))
    go zero = refl
    go (suc zero) = refl
    go (suc (suc n)) = refl

step-axis : (e d : Vec3) (a : WorldAxis) → step_along (grid_with e d) a ≡ div binary64 (along_of e a) (along_of d a)
unfolding by_digit
step-axis e d a = go a.0
  where
    go : (n : ℕ) → step_along (grid_with e d) (world_axis n) ≡ div binary64 (along_of e (world_axis n)) (along_of d (world_axis n))
    go zero = refl
    go (suc zero) = refl
    go (suc (suc n)) = refl

dims-axis : (e c : Vec3) (a : WorldAxis) → along_of (dims_of e c) a ≡ cell_count (along_of e a) (along_of c a)
unfolding by_digit
dims-axis e c a = go a.0
  where
    go : (n : ℕ) → along_of (dims_of e c) (world_axis n) ≡ cell_count (along_of e (world_axis n)) (along_of c (world_axis n))
    go zero = refl
    go (suc zero) = refl
    go (suc (suc n)) = refl

exact-axis : (s : DexelStockSpec) (ceiling : s.max_rays < 2 ^ 32) → Few s ceiling → (a : WorldAxis)
    → whole (cells_along (grid_in s) a) ≡ along_of (dims_in s) a
unfolding by_digit
exact-axis s ceiling f a = go a.0
  where
    go : (n : ℕ) → whole (cells_along (grid_in s) (world_axis n)) ≡ along_of (dims_in s) (world_axis n)
    go zero = f.exact0
    go (suc zero) = f.exact1
    go (suc (suc n)) = f.exact2

-- ---- a box within its limits, over a cell size for each axis

all-finite : (v : Vec3) → ((a : WorldAxis) → Sized 1000000 (along_of v a)) → (a : WorldAxis) → finite (along_of v a) ≡ true
all-finite v h a = sized-finite 1000000 (along_of v a) (h a)

module _ (s : DexelStockSpec) (sizes : Vec3) (p : BoxFits s sizes) where
  sized : (x : Float) → is_between x (neg million) million ≡ true → Sized 1000000 x
  unfolding is_between
  sized x h = let b = and_both (le (neg million) x) (le x million) h in million-sized x b.0 b.1

  pub min-sized : (a : WorldAxis) → Sized 1000000 (along_of s.min_mm a)
  min-sized a = sized (along_of s.min_mm a) (p.min a)

  pub max-sized : (a : WorldAxis) → Sized 1000000 (along_of s.max_mm a)
  max-sized a = sized (along_of s.max_mm a) (p.max a)

  extents-sized : (a : WorldAxis) → Sized 2000000 (along_of (extents_of s) a)
  extents-sized a = subst (Sized 2000000) (sym (extent-axis s a))
      (sub-sized 1000000 (along_of s.max_mm a) (along_of s.min_mm a) (max-sized a) (min-sized a) (omega arith))

  pub steps-least : (a : WorldAxis) → le millionth (step_along (grid_with (extents_of s) (dims_of (extents_of s) sizes)) a) ≡ true
  unfolding is_between
  steps-least a =
      let size = along_of sizes a in
      let b = and_both (le least_size size) (le size million) (p.size a) in
      rw (step-axis (extents_of s) (dims_of (extents_of s) sizes) a, dims-axis (extents_of s) sizes a)
      (extent-step (along_of (extents_of s) a) size (extents-sized a) (p.thick a) b.0 b.1)

-- ---- the facts

not-lt : (m n : ℕ) → (m < n → ⊥) → n ≤ m
not-lt m n h = omega arith

module _ (s : DexelStockSpec) (p : Passes s (sizes_of s)) (n2 : Crowded s (grid_in s) → ⊥) (n3 : OverBudget s (grid_in s) → ⊥) where
  ceiling : s.max_rays < 2 ^ 32
  ceiling = let l = p.few_rays in omega arith

  few-here : Few s ceiling
  few-here = few-cells s ceiling n2

  cells-some : (a : WorldAxis) → 1 ≤ cells_along (grid_in s) a
  cells-some = each (λ (n : ℕ). 1 ≤ n) _ _ _ few-here.some0 few-here.some1 few-here.some2

  cells-small : (a : WorldAxis) → cells_along (grid_in s) a ≤ 2 ^ 53
  cells-small a = let l = each (λ (n : ℕ). n ≤ s.max_rays) _ _ _ few-here.few0 few-here.few1 few-here.few2
      a in omega (arith, ceiling)

  steps-sized : (a : WorldAxis) → Sized 2000000 (step_along (grid_in s) a)
  steps-sized a =
      subst (Sized 2000000) (sym (step-axis (extents_of s) (dims_in s) a))
      (step-sized 2000000 (along_of (extents_of s) a) (along_of (dims_in s) a) (cells_along (grid_in s) a)
      (extents-sized s (sizes_of s) p.box a) (cells-some a)
      (subst (λ (w : Float). HasValue w false (cells_along (grid_in s) a) 1) (exact-axis s ceiling few-here a)
      (value (cells_along (grid_in s) a) (cells-small a)))
      (omega arith))

  steps-finite : (a : WorldAxis) → finite (step_along (grid_in s) a) ≡ true
  steps-finite a = sized-finite 2000000 (step_along (grid_in s) a) (steps-sized a)

  total-le : ray_count (grid_in s) ≤ s.max_rays
  unfolding Crowded
  total-le = not-lt s.max_rays (ray_count (grid_in s)) (λ l. n2 (inr l))

  made : GridFacts s (grid_in s)
  unfolding OverBudget
  made =
      let mins = all-finite s.min_mm (min-sized s (sizes_of s) p.box) in
      let maxes = all-finite s.max_mm (max-sized s (sizes_of s) p.box) in
      record {
        is = refl;
        some0 = few-here.some0;
        some1 = few-here.some1;
        some2 = few-here.some2;
        few0 = few-here.few0;
        few1 = few-here.few1;
        few2 = few-here.few2;
        rays = total-le;
        budget = not-lt s.max_intervals (2 * ray_count (grid_in s)) n3;
        ceiling = ceiling;
        exact = exact-axis s ceiling few-here;
        total = rays-exact s ceiling few-here total-le;
        min_finite = mins;
        max_finite = maxes;
        box = λ a. box (along_of s.min_mm a) (along_of s.max_mm a) (mins a) (maxes a)
            (subst (λ (x : Float). lt x millionth ≡ false) (extent-axis s a) (p.box.thick a));
        step_finite = steps-finite;
        step_least = steps-least s (sizes_of s) p.box;
      }

-- a grid that `grid` accepts a description with
pub grid-facts : (s : DexelStockSpec) (units : List ℕ) (g : DexelGrid) → grid_of s units ≡ Ok g → GridFacts s g
unfolding NoneDue grid_causes
grid-facts s units g h =
    let b : ByCauses s units (Ok g) = subst (ByCauses s units) h (grid-by-causes s units) in
    subst (GridFacts s) (sym b.1) (made s (no-clause-passes s (sizes_of s) units b.0.0) b.0.1.0 b.0.1.1.0)

-- the cells along any axis
pub cells-positive : (s : DexelStockSpec) (g : DexelGrid) → GridFacts s g → (a : WorldAxis) → 0 < cells_along g a
cells-positive s g f = each (λ (n : ℕ). 0 < n) _ _ _ f.some0 f.some1 f.some2
