-- What a walk over the chords of a sweep asks.
use Rattle.grid.specs.Rays.{ray_count}
use Rattle.grid.specs.declared.DexelStockSpec.{DexelStockSpec}
use Rattle.grid.specs.declared.DexelGrid.{DexelGrid}
use Rattle.stock.specs.Stock.{ValidTo}
use Rattle.grid.specs.Facts.{GridFacts}
use Rattle.stock.specs.Steps.{ChainsInRoom}
use Rattle.store.specs.Store.{Cells}

-- a store that can be swept: an accepted grid, and sound cells
pub record Sweepable (spec : DexelStockSpec) (g : DexelGrid) (c : Cells) : Type 0 where
  pub facts : GridFacts spec g
  pub chained : ChainsInRoom spec g c
  pub valid : ValidTo spec g c (ray_count g)
