-- How a run reads a stock: the lent store and its small record, as crate `stock` defines them.
use Rattle.std.specs.Prelude.{◌≡◌, ◌/◌, min, length, Result, Ok, Err}
use Rattle.grid.specs.declared.DexelStockSpec.{DexelStockSpec}
use Rattle.grid.specs.declared.DexelGrid.{DexelGrid}
use Rattle.refusal.specs.declared.Refusal.{Refusal}
use Rattle.refusal.specs.Refusal.{number_of}
use Rattle.stock.specs.Stock.{Stock, SoundStock, ray_list}
use Rattle.log_model.specs.Logs.{Commit}
use Rattle.log_model.specs.Model.{LogAnswer, refused}
use Rattle.log_model.specs.Runs.{StoreView, CommitStep}

-- the reading that the log commit's contract cites
abbrev pub lent_store : DexelStockSpec → (g : DexelGrid) → StoreView g
lent_store spec g = record {
  Store = Stock;
  lists = λ s r k. ray_list spec s.cells r.0 k;
  intervals = λ s. s.intervals;
  generation = λ s. s.generation;
  lent = λ s. record { records = min (length s.cells.spans / 2) (length s.cells.links / 2); heads = length s.cells.heads };
  Sound = SoundStock spec g;
}

-- A log commit on the lent store, whatever the description is. The answer of `grid` stands first: its causes 1 to 3 come before all others.
unfoldable pub CommitOnAnyGrid : Result DexelGrid Refusal → DexelStockSpec → Stock → Commit → LogAnswer → Stock → Type 0
CommitOnAnyGrid (Err e) spec s c a t = (a ≡ refused (number_of e)) × (t ≡ s)
CommitOnAnyGrid (Ok g) spec s c a t = CommitStep spec g (lent_store spec g) s c a t
