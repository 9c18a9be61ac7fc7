-- What the readers of a stock ask.
use Rattle.std.specs.Prelude.{ℕ, ◌*◌}
use Rattle.grid.specs.Rays.{ray_count}
use Rattle.grid.specs.declared.DexelStockSpec.{DexelStockSpec}
use Rattle.grid.specs.declared.DexelGrid.{DexelGrid}
use Rattle.store.specs.Steps.{Room}
use Rattle.store.specs.Store.{Cells, ChainsSound}

-- the cells have the records that the description asks for, and the heads of the grid's lists
abbrev pub StockRoom : DexelStockSpec → DexelGrid → Cells → Type 0
StockRoom spec g c = Room spec.max_intervals (2 * ray_count g) c

-- the store has room and is sound, but for the validity of its rays
pub record ChainsInRoom (spec : DexelStockSpec) (g : DexelGrid) (c : Cells) : Type 0 where
  pub room : StockRoom spec g c
  pub total : ℕ
  pub store : ChainsSound spec.max_intervals (2 * ray_count g) total c
