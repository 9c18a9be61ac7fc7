-- Steps of the functions that check the rays of a store.
use mathlib.Core.Path.{◌≡◌}
use mathlib.Core.Bool.{Bool, true, false, not}
use Prim.Native.Nat.{ℕ, ◌*◌, ◌<◌}
use lib.ListN.{get_or}
use Rattle.logic.proofs.Bools.{not-false}
use Rattle.grid.specs.Rays.{ray_count}
use Rattle.grid.specs.declared.DexelStockSpec.{DexelStockSpec}
use Rattle.grid.specs.declared.DexelGrid.{DexelGrid}
use Rattle.store_read.specs.Reading.{Readable}
use Rattle.store_read.proofs.Steps.{readable}
use Rattle.stock.specs.Stock.{SoundCells}
use Rattle.logic.specs.Logic.{Decides}
use Rattle.stock.specs.Steps.{ChainsInRoom, StockRoom}
use Rattle.store.specs.Store.{Cells, ChainsSound}

-- a test that passes
pub tells-good : (Q : Type 0) (r : Bool) → Decides Q r → not r ≡ false → Q
tells-good Q r t h = t.0 (not-false r h)

module _ (spec : DexelStockSpec) (g : DexelGrid) (c : Cells) where
  -- each list can be read off its chain
  pub list-readable : ChainsInRoom spec g c → (j : ℕ) → j < 2 * ray_count g
      → Readable spec.max_intervals c.spans c.links (get_or c.heads j 0)
  list-readable ch j h = readable ch.store ch.room.in_spans ch.room.in_links j h

  -- ---- the check of a stock
  pub chained-of : (total : ℕ) (r : Bool) → StockRoom spec g c
      → Decides (ChainsSound spec.max_intervals (2 * ray_count g) total c) r → r ≡ true → ChainsInRoom spec g c
  chained-of total r room t good =
      record {
        room = room;
        total = total;
        store = t.0 good;
      }

  pub sound-chained : (total : ℕ) → StockRoom spec g c → SoundCells spec g c total → ChainsInRoom spec g c
  sound-chained total room s = record { room = room; total = total; store = s.store }
