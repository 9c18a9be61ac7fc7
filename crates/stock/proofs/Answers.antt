-- What `grid` answers, by its causes.
use mathlib.Core.Path.{◌≡◌, subst}
use mathlib.Core.List.{List}
use Prim.Native.Nat.{ℕ}
use Rattle.refusal.specs.Refusal.{Due, NoneDue, number_of}
use Rattle.grid.specs.FromSpec.{grid_of}
use Rattle.grid.specs.Causes.{grid_causes, grid_in, ByCauses}
use Rattle.grid.specs.declared.DexelStockSpec.{DexelStockSpec}
use Rattle.grid.specs.declared.DexelGrid.{DexelGrid}
use Rattle.std.specs.Prelude.{Ok, Err}
use Rattle.refusal.specs.declared.Refusal.{Refusal}
use Rattle.grid.proofs.Causes.{grid-by-causes}

-- ---- a description that `grid` accepts, and one that it refuses
module _ (spec : DexelStockSpec) (units : List ℕ) where
  pub accepted : (g : DexelGrid) → grid_of spec units ≡ Ok g → NoneDue (grid_causes spec units) × (g ≡ grid_in spec)
  accepted g h = subst (ByCauses spec units) h (grid-by-causes spec units)

  pub refused : (e : Refusal) → grid_of spec units ≡ Err e → Due (grid_causes spec units) (number_of e)
  refused e h = subst (ByCauses spec units) h (grid-by-causes spec units)
