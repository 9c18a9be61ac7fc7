-- What the tests of a change list answer.
use Rattle.std.specs.Prelude.{◌≡◌, List, ℕ, Float, Result, Ok, Err}
use Rattle.refusal.specs.Refusal.{Cause, Due, NoneDue, number_of}
use Rattle.refusal.specs.declared.Refusal.{Refusal}
use Rattle.grid.specs.declared.DexelStockSpec.{DexelStockSpec}
use Rattle.grid.specs.declared.DexelGrid.{DexelGrid}
use Rattle.stock.specs.Stock.{Stock}
use Rattle.change_apply.specs.Passes.{ChangesFit}
use Rattle.commit_changes.specs.ChangeCommit.{intervals_after, change_list_causes, change_causes, ChangesPostBy}

-- a verdict by causes: the number that is due or, with no cause, the intervals after the changes
abbrev pub VerdictBy : List Cause → DexelStockSpec → DexelGrid → Stock → List ℕ → List Float → Result ℕ Refusal → Type 0
VerdictBy causes spec g s changes pairs (Err e) = Due causes (number_of e)
VerdictBy causes spec g s changes pairs (Ok t) = NoneDue causes × (t ≡ intervals_after spec g s changes pairs)
    × ChangesFit spec g s.cells s.intervals changes pairs

-- a verdict on the changes of a sound store, and one on the whole call over a grid that is accepted
abbrev pub ListVerdict : DexelStockSpec → DexelGrid → Stock → List ℕ → List Float → Result ℕ Refusal → Type 0
ListVerdict spec g s changes pairs r = VerdictBy (change_list_causes spec g s changes pairs) spec g s changes pairs r

abbrev pub GridVerdict : DexelStockSpec → DexelGrid → (base : ℕ) → Stock → List ℕ → List Float → Result ℕ Refusal → Type 0
GridVerdict spec g base s changes pairs r = VerdictBy (change_causes spec g base s changes pairs) spec g s changes pairs r

-- the commit over a grid that is accepted
abbrev pub ChangesPostOnGrid : DexelStockSpec → DexelGrid → (base : ℕ) → List ℕ → List Float → (before after : Stock)
    → Result ℕ Refusal → Type 0
ChangesPostOnGrid spec g base changes pairs before after answer =
    ChangesPostBy (change_causes spec g base before changes pairs) spec g changes pairs before after answer
