-- The commit of a change list: its causes in document 01's order, and what it leaves.
use Rattle.std.specs.Prelude.{◌≡◌, true, ◌⊎◌, ℕ, ◌+◌, ◌-◌, ◌*◌, ◌/◌, ◌%◌, ◌^◌, ◌<◌, Float, length, Result, Ok, Err}
use mathlib.Core.List.{List, [], ◌∷◌, ◌++◌, Memᴰ}
use Rattle.refusal.specs.Refusal.{Cause, cause, Due, NoneDue, number_of}
use Rattle.refusal.specs.declared.Refusal.{Refusal}
use Rattle.grid.specs.Causes.{grid_causes, grid_in}
use Rattle.grid.specs.Rays.{ray_count}
use Rattle.grid.specs.declared.DexelStockSpec.{DexelStockSpec}
use Rattle.grid.specs.declared.DexelGrid.{DexelGrid}
use Rattle.store.specs.Updates.{pairs_freed, pairs_laid, applied, CellsPastKept}
use Rattle.stock.specs.Stock.{Stock, SoundStock, is_short, ray_list, Possible, Certain}
use Rattle.change_list.specs.Changes.{Change, changes_of, change_ray, AllGood, updates_in, bad_causes}

-- the intervals after the changes
abbrev pub intervals_after : DexelStockSpec → DexelGrid → Stock → List ℕ → List Float → ℕ
intervals_after spec g s changes pairs =
    s.intervals - pairs_freed spec.max_intervals s.cells (updates_in g changes pairs)
    + pairs_laid (updates_in g changes pairs)

-- 11: the store is not sound, or part of a change or of a pair is over
abbrev pub ChangeInputBad : DexelStockSpec → DexelGrid → Stock → List ℕ → List Float → Type 0
ChangeInputBad spec g s changes pairs = (SoundStock spec g s → ⊥) ⊎ ((length changes % 6 ≡ 0 → ⊥) ⊎ (length pairs % 2 ≡ 0 → ⊥))

-- of a sound store: 13 a change that camlib's `validate` turns away, or whose lists reach past the lent pairs; 10 intervals
-- after the commit above `max_intervals`; 15 generation at its maximum
abbrev pub change_list_causes : DexelStockSpec → DexelGrid → Stock → List ℕ → List Float → List Cause
change_list_causes spec g s changes pairs =
    bad_causes (AllGood spec g s.cells pairs 0 (changes_of changes pairs))
    ++ (cause 10 (spec.max_intervals < intervals_after spec g s changes pairs) ∷ cause 15 (s.generation ≡ 2 ^ 64 - 1) ∷ [])

-- once `grid` accepts: 12 too few records or heads, 11, 14 base generation differs, then 13, 10, 15
abbrev pub change_causes : DexelStockSpec → DexelGrid → (base : ℕ) → Stock → List ℕ → List Float → List Cause
change_causes spec g base s changes pairs =
    cause 12 (is_short spec g s.cells ≡ true)
    ∷ cause 11 (ChangeInputBad spec g s changes pairs)
    ∷ cause 14 (base ≡ s.generation → ⊥)
    ∷ change_list_causes spec g s changes pairs

-- and 1, 2, 3 first
abbrev pub change_commit_causes : DexelStockSpec → (units : List ℕ) → (base : ℕ) → Stock → List ℕ → List Float → List Cause
change_commit_causes spec units base s changes pairs = grid_causes spec units ++ change_causes spec (grid_in spec) base s changes pairs

-- the stock past the changes: the lists of all changed rays are freed, then laid in ray order; the generation steps even with no change
abbrev pub changed_stock : DexelStockSpec → DexelGrid → Stock → List ℕ → List Float → Stock
changed_stock spec g s changes pairs =
    record {
      cells = applied spec.max_intervals s.cells (updates_in g changes pairs);
      generation = s.generation + 1;
      intervals = intervals_after spec g s changes pairs;
    }

-- what an accepted commit leaves: that stock, which is sound; a changed ray has the change's new lists, any other its
-- own; the cells past the records and heads are kept
pub record ChangesEffect (spec : DexelStockSpec) (g : DexelGrid) (changes : List ℕ) (pairs : List Float)
    (before after : Stock) : Type 0 where
  pub is : after ≡ changed_stock spec g before changes pairs
  pub is_sound : SoundStock spec g after
  pub changed_rays : (d : Change) → Memᴰ d (changes_of changes pairs)
      → (ray_list spec after.cells (change_ray g d.axis d.index) Possible ≡ d.possible_after)
      × (ray_list spec after.cells (change_ray g d.axis d.index) Certain ≡ d.certain_after)
  pub other_rays : (ray : ℕ) → ray < ray_count g
      → ((d : Change) → Memᴰ d (changes_of changes pairs) → ray ≡ change_ray g d.axis d.index → ⊥)
      → (ray_list spec after.cells ray Possible ≡ ray_list spec before.cells ray Possible)
      × (ray_list spec after.cells ray Certain ≡ ray_list spec before.cells ray Certain)
  pub kept : CellsPastKept spec.max_intervals (2 * ray_count g) before.cells after.cells

-- a refused call gives the number that is due and leaves the stock as it was; an accepted one, with no cause, answers how many rays changed
abbrev pub ChangesPostBy : List Cause → DexelStockSpec → DexelGrid → List ℕ → List Float → (before after : Stock)
    → Result ℕ Refusal → Type 0
ChangesPostBy causes spec g changes pairs before after (Err e) = Due causes (number_of e) × (after ≡ before)
ChangesPostBy causes spec g changes pairs before after (Ok n) = NoneDue causes × (n ≡ length changes / 6)
    × ChangesEffect spec g changes pairs before after

-- the change commit of document 01
abbrev pub ChangesPost : DexelStockSpec → (units : List ℕ) → (base : ℕ) → List ℕ → List Float → (before after : Stock)
    → Result ℕ Refusal → Type 0
ChangesPost spec units base changes pairs before after answer =
    ChangesPostBy (change_commit_causes spec units base before changes pairs) spec (grid_in spec)
    changes pairs before after answer
