-- What makes the change of one ray good.
use Rattle.std.specs.Prelude.{◌≡◌, true, false, ◌&&◌, List, ℕ, Float}
use Rattle.spans.specs.Spans.{holds, equal}
use Rattle.grid.specs.Rays.{bounds_of}
use Rattle.grid.specs.declared.DexelStockSpec.{DexelStockSpec}
use Rattle.grid.specs.declared.DexelGrid.{DexelGrid}
use Rattle.spans.specs.Rays.{ValidRay}
use Rattle.stock.specs.Stock.{ray_list, Possible, Certain}
use Rattle.store.specs.Store.{Cells}

-- the new lists make a valid ray, gain no point of the old ones and differ from them
pub record IsRemoval (lo hi : Float) (p q p' q' : List Float) : Type 0 where
  pub valid : ValidRay lo hi p' q'
  pub possible_loses : (x : Float) → holds p' x ≡ true → holds p x ≡ true
  pub certain_loses : (x : Float) → holds q' x ≡ true → holds q x ≡ true
  pub differs : (equal p' p && equal q' q) ≡ false

-- a change that camlib's `validate` lets pass: its old lists are the ray's, as numbers, and the new ones a removal from them
pub record ChangeAllowed (spec : DexelStockSpec) (g : DexelGrid) (c : Cells) (ray : ℕ) (p q p' q' : List Float) : Type 0 where
  pub was : (equal (ray_list spec c ray Possible) p && equal (ray_list spec c ray Certain) q) ≡ true
  pub removal : IsRemoval (bounds_of spec g ray).lo (bounds_of spec g ray).hi p q p' q'
