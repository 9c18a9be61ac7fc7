-- The updates that a log asks of a store: both lists of each ray that changes.
use Rattle.std.specs.Prelude.{◌≡◌, List, [], ◌∷◌, ℕ, suc, ◌+◌, ◌-◌, ◌*◌, ◌<◌, Float}
use Rattle.spans.specs.Spans.{holds}
use Rattle.grid.specs.Rays.{ray_count, Ray}
use Rattle.grid.specs.declared.DexelStockSpec.{DexelStockSpec}
use Rattle.grid.specs.declared.DexelGrid.{DexelGrid}
use Rattle.store.specs.Updates.{Update, update, applied, pairs_freed, pairs_laid}
use Rattle.stock.specs.Stock.{Stock, Kind, Possible, Certain}
use Rattle.log_model.specs.declared.Entry.{Entry}
use Rattle.log_model.specs.Logs.{outer, inner, hits_on_ray}
use Rattle.log_model.specs.Model.{Sets, RayChanges}
use Rattle.spans.specs.Rays.{MergedExactly}

-- the sets of these lists
abbrev pub list_sets : (g : DexelGrid) → (Ray g → Kind → List Float) → Sets g
list_sets g lists r k = holds (lists r k)

-- p and c are both lists of the ray after the log, end by end. They are the sound lists of what it leaves: `exact-possible` and
-- `exact-certain` in proofs.
abbrev pub MergedByLog : (g : DexelGrid) → (Ray g → Kind → List Float) → List Entry → Ray g → (p c : List Float) → Type 0
MergedByLog g lists es r p c =
    MergedExactly (lists r Possible) (lists r Certain) (hits_on_ray g es r.0 outer) (hits_on_ray g es r.0 inner) p c

-- the updates of the rays from `ray` to the last one, in order, and how many of these rays change
pub data MergeUpdates (g : DexelGrid) (lists : Ray g → Kind → List Float) (es : List Entry) : (ray : ℕ) → List Update
    → (changed : ℕ) → Type 0 where
  none : {ray : ℕ} → ray ≡ ray_count g → MergeUpdates g lists es ray [] 0
  same : {ray m : ℕ} {us : List Update} (h : ray < ray_count g) → ¬ RayChanges g (list_sets g lists) es (ray, h)
      → MergeUpdates g lists es (suc ray) us m → MergeUpdates g lists es ray us m
  new : {ray m : ℕ} {p c : List Float} {us : List Update} (h : ray < ray_count g) → RayChanges g (list_sets g lists) es (ray, h)
      → MergedByLog g lists es (ray, h) p c → MergeUpdates g lists es (suc ray) us m
      → MergeUpdates g lists es ray (update (2 * ray) p ∷ update (2 * ray + 1) c ∷ us) (suc m)

-- the stock after an accepted log with these updates: freed first, all of them, then laid in order
abbrev pub committed_stock : DexelStockSpec → Stock → List Update → Stock
committed_stock spec s us = record {
  cells = applied spec.max_intervals s.cells us;
  generation = suc s.generation;
  intervals = s.intervals - pairs_freed spec.max_intervals s.cells us + pairs_laid us;
}
