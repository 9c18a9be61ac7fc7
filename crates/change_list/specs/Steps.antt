-- What the functions that check a change list ask and answer.
use Rattle.std.specs.Prelude.{◌≡◌, Option, None, Some, List, ℕ, ◌+◌, ◌*◌, ◌%◌, ◌≤◌, length, Float}
use Rattle.refusal.specs.Refusal.{Due}
use Rattle.grid.specs.declared.DexelStockSpec.{DexelStockSpec}
use Rattle.grid.specs.declared.DexelGrid.{DexelGrid}
use Rattle.store.specs.Updates.{pairs_freed, pairs_laid}
use Rattle.change_list.specs.Changes.{Change, change_ray, end4, change_by, Good, AllGood, updates_of, bad_causes}
use Rattle.change_list.specs.declared.ChangeHead.{ChangeHead}
use Rattle.change_list.specs.declared.ChangeCursor.{ChangeCursor}
use Rattle.stock.specs.Stock.{SoundCells}
use Rattle.stock.specs.Steps.{StockRoom}
use Rattle.store.specs.Store.{Cells}

-- how many pairs the four lists of a change have
abbrev pub pairs_in : ChangeHead → ℕ
pairs_in h = h.before_possible + h.before_certain + h.after_possible + h.after_certain

abbrev pub cursor_of : (at from before after : ℕ) → ChangeCursor
cursor_of at from before after = record { at = at; from = from; before = before; after = after }

-- past a change: the cell past its lists, one more than its ray, and the sums of the pairs before and after
abbrev pub onward : DexelGrid → ChangeHead → ChangeCursor → ChangeCursor
onward g h cur =
    cursor_of (end4 h cur.at) (change_ray g h.axis h.index + 1)
    (cur.before + h.before_possible + h.before_certain) (cur.after + h.after_possible + h.after_certain)

-- the cursor stands within whole pairs, and its sums are of pairs before it
pub record Stands (pairs : List Float) (cur : ChangeCursor) : Type 0 where
  pub whole : length pairs % 2 ≡ 0
  pub even : cur.at % 2 ≡ 0
  pub within : cur.at ≤ length pairs
  pub sums : 2 * (cur.before + cur.after) ≤ cur.at

-- document 01's number of each answer, 0 where the check goes on: 13 for a change that camlib's `validate` turns away, or whose lists
-- reach past the lent pairs
abbrev pub check_number : Option ChangeCursor → ℕ
check_number (Some n) = 0
check_number None = 13

-- the answer on one change
abbrev pub CheckChangePost : DexelStockSpec → DexelGrid → Cells → List Float → ChangeHead → ChangeCursor → Option ChangeCursor → Type 0
CheckChangePost spec g c pairs h cur None = Due (bad_causes (Good spec g c pairs cur.from (change_by h pairs cur.at))) (check_number None)
CheckChangePost spec g c pairs h cur (Some n) = Good spec g c pairs cur.from (change_by h pairs cur.at) × (n ≡ onward g h cur)

-- the answer on all changes: where they are good, the sums are those of the pairs that the updates free and lay, which the lent pairs hold
abbrev pub CheckChangesPost : DexelStockSpec → DexelGrid → Cells → List Float → List Change → Option ChangeCursor → Type 0
CheckChangesPost spec g c pairs ds None = Due (bad_causes (AllGood spec g c pairs 0 ds)) (check_number None)
CheckChangesPost spec g c pairs ds (Some n) =
    AllGood spec g c pairs 0 ds × (n.before ≡ pairs_freed spec.max_intervals c (updates_of g ds))
    × (n.after ≡ pairs_laid (updates_of g ds)) × (2 * n.after ≤ length pairs)

-- the store has room and is sound
pub record SoundWithRoom (spec : DexelStockSpec) (g : DexelGrid) (c : Cells) : Type 0 where
  pub room : StockRoom spec g c
  pub total : ℕ
  pub is_sound : SoundCells spec g c total
