-- What holds of a description and the grid that `grid` accepts it with.
use Rattle.std.specs.Prelude.{◌≡◌, true, ◌*◌, ◌^◌, ◌≤◌, ◌<◌}
use Rattle.std.specs.Float.Ieee.{lt, le}
use Rattle.std.specs.Float.Ieee.Scale.{finite}
use Rattle.doubles.specs.Constants.{millionth}
use Rattle.grid.specs.Axes.{along_of, cells_along, step_along}
use Rattle.grid.specs.Grid.{whole}
use Rattle.grid.specs.FromSpec.{rays_of}
use Rattle.grid.specs.Rays.{ray_count}
use Rattle.grid.specs.declared.WorldAxis.{WorldAxis}
use Rattle.grid.specs.declared.DexelStockSpec.{DexelStockSpec}
use Rattle.grid.specs.declared.DexelGrid.{DexelGrid}
use Rattle.grid.specs.Causes.{dims_in, grid_in}

-- what holds of a description and the grid that `grid` accepts it with
pub record GridFacts (s : DexelStockSpec) (g : DexelGrid) : Type 0 where
  pub is : g ≡ grid_in s
  pub some0 : 1 ≤ g.c0
  pub some1 : 1 ≤ g.c1
  pub some2 : 1 ≤ g.c2
  pub few0 : g.c0 ≤ s.max_rays
  pub few1 : g.c1 ≤ s.max_rays
  pub few2 : g.c2 ≤ s.max_rays
  pub rays : ray_count g ≤ s.max_rays
  pub budget : 2 * ray_count g ≤ s.max_intervals
  pub ceiling : s.max_rays < 2 ^ 32
  -- the casts to whole numbers lose nothing, and the total is the one that the Rust works out in doubles
  pub exact : (a : WorldAxis) → whole (cells_along g a) ≡ along_of (dims_in s) a
  pub total : whole (ray_count g) ≡ rays_of (dims_in s)
  pub min_finite : (a : WorldAxis) → finite (along_of s.min_mm a) ≡ true
  pub max_finite : (a : WorldAxis) → finite (along_of s.max_mm a) ≡ true
  pub box : (a : WorldAxis) → lt (along_of s.min_mm a) (along_of s.max_mm a) ≡ true
  pub step_finite : (a : WorldAxis) → finite (step_along g a) ≡ true
  pub step_least : (a : WorldAxis) → le millionth (step_along g a) ≡ true
