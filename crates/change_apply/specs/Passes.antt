-- What the passes over a change list ask and leave.
use Rattle.std.specs.Prelude.{◌≡◌, List, ℕ, ◌+◌, ◌-◌, ◌≤◌, Float}
use Rattle.grid.specs.declared.DexelStockSpec.{DexelStockSpec}
use Rattle.grid.specs.declared.DexelGrid.{DexelGrid}
use Rattle.store.specs.Updates.{freed_all, pairs_freed, pairs_laid}
use Rattle.stock.specs.Stock.{SoundCells}
use Rattle.change_list.specs.Changes.{changes_of, AllGood, updates_in}
use Rattle.stock.specs.Steps.{StockRoom}
use Rattle.store.specs.Store.{Cells}

-- good changes of a sound store with that total, which stay within the budget
pub record ChangesFit (spec : DexelStockSpec) (g : DexelGrid) (c : Cells) (total : ℕ) (changes : List ℕ) (pairs : List Float) : Type 0 where
  pub room : StockRoom spec g c
  pub is_sound : SoundCells spec g c total
  pub good : AllGood spec g c pairs 0 (changes_of changes pairs)
  pub budget : total - pairs_freed spec.max_intervals c (updates_in g changes pairs)
      + pairs_laid (updates_in g changes pairs) ≤ spec.max_intervals

-- the lists of all changed rays are freed, whatever the pairs are that will be laid
abbrev pub FreeChangesPost : DexelStockSpec → DexelGrid → List ℕ → (before after : Cells) → Type 0
FreeChangesPost spec g changes before after = (total : ℕ) (pairs : List Float)
    → ChangesFit spec g before total changes pairs
    → after ≡ freed_all spec.max_intervals before (updates_in g changes pairs)

-- the lists of all changed rays were freed
pub record ChangesFreed (spec : DexelStockSpec) (g : DexelGrid) (changes : List ℕ) (pairs : List Float) (now : Cells) : Type 0 where
  pub before : Cells
  pub total : ℕ
  pub fitting : ChangesFit spec g before total changes pairs
  pub is : now ≡ freed_all spec.max_intervals before (updates_in g changes pairs)
