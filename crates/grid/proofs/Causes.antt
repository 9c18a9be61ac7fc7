-- The answer of `grid` is given by document 01's causes: the tests in doubles, which are those of the Rust, find the
-- same causes as whole numbers do. Assumes nothing.
use mathlib.Core.Path.{◌≡◌, refl, sym, ap, ◌∙◌, subst}
use mathlib.Core.Logic.{inl, inr}
use mathlib.Core.Bool.{Bool, true, false, cond, not}
use mathlib.Core.List.{List}
use Prim.Native.Nat.{ℕ, zero, suc, ◌*◌, ◌^◌, ◌≤◌, ◌<◌}
use native.Mathlib.Omega.{arith}
use borrow.Author.Tests.{ltb-true, ltb-false}
use lib.Dec.{ltb}
use lib.Ieee.{binary64, mul, lt, to_unsigned}
use Rattle.std.specs.Prelude.{Result, Ok, Err}
use Rattle.doubles.specs.Constants.{two}
use Rattle.refusal.specs.Refusal.{Due, NoneDue}
use Rattle.grid.specs.Axes.{by_digit, world_axis, along_of, cells_along}
use Rattle.grid.specs.Grid.{whole}
use Rattle.grid.specs.FromSpec.{any_above, is_mm, sizes_of, extents_of, misdescribed, rays_of, grid_over, grid_of}
use Rattle.grid.specs.Rays.{ray_count}
use Rattle.grid.specs.Causes.{Misdescribed, Crowded, OverBudget, dims_in, grid_in, grid_causes, ByCauses, GridPost}
use Rattle.grid.specs.Causes.{units_not_mm}
use Rattle.grid.specs.declared.Vec3.{Vec3}
use Rattle.grid.specs.declared.WorldAxis.{WorldAxis}
use Rattle.grid.specs.declared.DexelStockSpec.{DexelStockSpec}
use Rattle.grid.specs.declared.DexelGrid.{DexelGrid}
use Rattle.refusal.specs.declared.Refusal.{Refusal}
use Rattle.refusal.specs.declared.Refusal.TheVariants.{Description, RayLimit, IntervalLimit}
use Rattle.grid.proofs.Counts.{Cells, cells_whole, above-is, some-cell, cast-exact}
use Rattle.grid.proofs.Sums.{wholes, total-test, total-exact, twice-test}
use Rattle.grid.proofs.Described.{each, above-axis, not-above, not-mm, passes, clause, no-clause}

-- ---- the cells along an axis

cells-axis : (s : DexelStockSpec) (a : WorldAxis) → Cells (along_of (dims_in s) a)
cells-axis s = each Cells _ _ _ (cells_whole _ _) (cells_whole _ _) (cells_whole _ _)

-- the count along an axis is the cast of the double along it
count-axis : (s : DexelStockSpec) (a : WorldAxis) → cells_along (grid_in s) a ≡ to_unsigned 64 (along_of (dims_in s) a)
unfolding by_digit
count-axis s a = go a.0
  where
    go : (n : ℕ) → cells_along (grid_in s) (world_axis n) ≡ to_unsigned 64 (along_of (dims_in s) (world_axis n))
    go zero = refl
    go (suc zero) = refl
    go (suc (suc n)) = refl

module _ (s : DexelStockSpec) (ceiling : s.max_rays < 2 ^ 32) where
  axis-test : (a : WorldAxis) → lt (whole s.max_rays) (along_of (dims_in s) a) ≡ ltb s.max_rays (cells_along (grid_in s) a)
  axis-test a = above-is (along_of (dims_in s) a) (cells-axis s a) s.max_rays ceiling ∙ ap (ltb s.max_rays) (sym (count-axis s a))

  -- no axis has more cells than `max_rays`: the casts lose nothing
  pub record Few : Type 0 where
    pub some0 : 1 ≤ (grid_in s).c0
    pub some1 : 1 ≤ (grid_in s).c1
    pub some2 : 1 ≤ (grid_in s).c2
    pub few0 : (grid_in s).c0 ≤ s.max_rays
    pub few1 : (grid_in s).c1 ≤ s.max_rays
    pub few2 : (grid_in s).c2 ≤ s.max_rays
    pub exact0 : whole (grid_in s).c0 ≡ (dims_in s).x
    pub exact1 : whole (grid_in s).c1 ≡ (dims_in s).y
    pub exact2 : whole (grid_in s).c2 ≡ (dims_in s).z

  pub few : any_above (dims_in s) (whole s.max_rays) ≡ false → Few
  unfolding by_digit
  few h =
      record {
        some0 = some-cell (dims_in s).x (cells_whole _ _);
        some1 = some-cell (dims_in s).y (cells_whole _ _);
        some2 = some-cell (dims_in s).z (cells_whole _ _);
        few0 = at 0;
        few1 = at 1;
        few2 = at 2;
        exact0 = cast-exact (dims_in s).x (cells_whole _ _) s.max_rays ceiling (at 0);
        exact1 = cast-exact (dims_in s).y (cells_whole _ _) s.max_rays ceiling (at 1);
        exact2 = cast-exact (dims_in s).z (cells_whole _ _) s.max_rays ceiling (at 2);
      }
    where
      at : (n : ℕ) → cells_along (grid_in s) (world_axis n) ≤ s.max_rays
      at n = ltb-false _ _ (sym (axis-test (world_axis n)) ∙ not-above (dims_in s) (whole s.max_rays) h (world_axis n))

  pub few-cells : (Crowded s (grid_in s) → ⊥) → Few
  unfolding Crowded
  few-cells n = go (any_above (dims_in s) (whole s.max_rays)) refl
    where
      go : (b : Bool) → any_above (dims_in s) (whole s.max_rays) ≡ b → Few
      go true e = let o = above-axis (dims_in s) (whole s.max_rays) e in
          absurd (n (inl (o.0, ltb-true _ _ (sym (axis-test o.0) ∙ o.1))))
      go false e = few e

  dims-are : Few → dims_in s ≡ wholes (grid_in s).c0 (grid_in s).c1 (grid_in s).c2
  dims-are f = rw (f.exact0, f.exact1, f.exact2)

  module _ (f : Few) where
    pub rays-test : lt (whole s.max_rays) (rays_of (dims_in s)) ≡ ltb s.max_rays (ray_count (grid_in s))
    unfolding ray_count
    rays-test =
        ap (λ (d : Vec3). lt (whole s.max_rays) (rays_of d)) (dims-are f)
        ∙ total-test (grid_in s).c0 (grid_in s).c1 (grid_in s).c2 s.max_rays f.some0 f.some1 f.some2
        f.few0 f.few1 f.few2 ceiling

    pub rays-exact : ray_count (grid_in s) ≤ s.max_rays → whole (ray_count (grid_in s)) ≡ rays_of (dims_in s)
    unfolding ray_count
    rays-exact h =
        sym (ap rays_of (dims-are f)
        ∙ total-exact (grid_in s).c0 (grid_in s).c1 (grid_in s).c2 s.max_rays f.some0 f.some1 f.some2
        f.few0 f.few1 f.few2 ceiling h)

    pub intervals-test : ray_count (grid_in s) ≤ s.max_rays
        → lt (whole s.max_intervals) (mul binary64 two (rays_of (dims_in s)))
        ≡ ltb s.max_intervals (2 * ray_count (grid_in s))
    unfolding ray_count
    intervals-test h =
        ap (λ (d : Vec3). lt (whole s.max_intervals) (mul binary64 two (rays_of d))) (dims-are f)
        ∙ twice-test (grid_in s).c0 (grid_in s).c1 (grid_in s).c2 s.max_rays f.some0 f.some1 f.some2
        f.few0 f.few1 f.few2 ceiling h s.max_intervals

    not-crowded : ray_count (grid_in s) ≤ s.max_rays → Crowded s (grid_in s) → ⊥
    unfolding Crowded by_digit
    not-crowded h (inr l) = omega arith
    not-crowded h (inl (a, l)) = omega (arith, each (λ (n : ℕ). n ≤ s.max_rays) _ _ _ f.few0 f.few1 f.few2 a)

-- ---- the answer

-- `grid_over` from refusal 3 on, and from the second test of 2 on
abbrev from3 : DexelStockSpec → Result DexelGrid Refusal
from3 s = cond (lt (whole s.max_intervals) (mul binary64 two (rays_of (dims_in s)))) (Err IntervalLimit) (Ok (grid_in s))

abbrev from2 : DexelStockSpec → Result DexelGrid Refusal
from2 s = cond (lt (whole s.max_rays) (rays_of (dims_in s))) (Err RayLimit) (from3 s)

module _ (s : DexelStockSpec) (units : List ℕ) where
  module _ (n1 : Misdescribed s (sizes_of s) units → ⊥) where
    module _ (ceiling : s.max_rays < 2 ^ 32) (f : Few s ceiling) where
      third : ray_count (grid_in s) ≤ s.max_rays → (b : Bool) → lt (whole s.max_intervals) (mul binary64 two (rays_of (dims_in s))) ≡ b
          → ByCauses s units (cond b (Err IntervalLimit) (Ok (grid_in s)))
      unfolding Due NoneDue grid_causes OverBudget
      third l true e = inr (n1, inr (not-crowded s ceiling f l, inl (ltb-true _ _ (sym (intervals-test s ceiling f l) ∙ e), refl)))
      third l false e =
          let k : 2 * ray_count (grid_in s) ≤ s.max_intervals = ltb-false _ _ (sym (intervals-test s ceiling f l) ∙ e) in
          ((n1, (not-crowded s ceiling f l, ((λ (o : s.max_intervals < 2 * ray_count (grid_in s)). omega arith), tt))), refl)

      second : (b : Bool) → lt (whole s.max_rays) (rays_of (dims_in s)) ≡ b
          → ByCauses s units (cond b (Err RayLimit) (from3 s))
      unfolding Due grid_causes Crowded
      second true e = inr (n1, inl (inr (ltb-true _ _ (sym (rays-test s ceiling f) ∙ e)), refl))
      second false e = third (ltb-false _ _ (sym (rays-test s ceiling f) ∙ e))
          (lt (whole s.max_intervals) (mul binary64 two (rays_of (dims_in s)))) refl

    over : s.max_rays < 2 ^ 32 → ByCauses s units (grid_over s (extents_of s) (dims_in s))
    unfolding grid_over Due grid_causes Crowded
    over ceiling = go (any_above (dims_in s) (whole s.max_rays)) refl
      where
        go : (b : Bool) → any_above (dims_in s) (whole s.max_rays) ≡ b
            → ByCauses s units (cond b (Err RayLimit) (from2 s))
        go true e = let o = above-axis (dims_in s) (whole s.max_rays) e in
            inr (n1, inl (inl (o.0, ltb-true _ _ (sym (axis-test s ceiling o.0) ∙ o.1)), refl))
        go false e = second ceiling (few s ceiling e) (lt (whole s.max_rays) (rays_of (dims_in s))) refl

  pub grid-by-causes : ByCauses s units (grid_of s units)
  unfolding grid_of Due grid_causes
  grid-by-causes = go (is_mm units) refl (misdescribed s (sizes_of s) (extents_of s)) refl
    where
      go : (b : Bool) → is_mm units ≡ b → (c : Bool) → misdescribed s (sizes_of s) (extents_of s) ≡ c
          → ByCauses s units (cond (not b) (Err Description) (cond c (Err Description) (grid_over s (extents_of s) (dims_in s))))
      go false m c e = inl (units_not_mm (not-mm units m), refl)
      go true m true e = inl (clause s (sizes_of s) units e, refl)
      go true m false e =
          let p = passes s (sizes_of s) e in
          let l = p.few_rays in
          over (no-clause s (sizes_of s) units m p) (omega arith)

  pub grid-post : (r : Result DexelGrid Refusal) → r ≡ grid_of s units → GridPost s units r
  grid-post r e = record { is = e; by = subst (ByCauses s units) (sym e) grid-by-causes }
