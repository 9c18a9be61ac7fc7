-- Answers as C has them: the refusal's number, 0 for none, and numbers that the caller keeps.
use Rattle.std.specs.Prelude.{◌≡◌, Bool, true, false, cond, List, [], ◌∷◌, ℕ, zero, suc, Float, Result, Ok, Err}
use Rattle.refusal.specs.Refusal.{number_of}
use Rattle.refusal.specs.declared.Refusal.{Refusal}
use Rattle.grid.specs.declared.DexelGrid.{DexelGrid}
use Rattle.ray_subtract.specs.declared.MergedLists.{MergedLists}
use Rattle.stock.specs.declared.Tally.{Tally}
use Rattle.stock_volume.specs.declared.DexelVolume.{DexelVolume}
use Rattle.ray_trace.specs.declared.Reason.{Reason}
use Rattle.ray_trace.specs.declared.Reason.TheVariants.{NotPossible, RemovedBy, UncertainBy, NotCertain, StillCertain}
use Rattle.sweep.specs.declared.Totals.{Totals}

-- What a C function leaves, where `numbers` says which numbers an accepted answer is handed back as. Accepted: the
-- caller's numbers are those of an answer of which the entry's own promise holds. Refused: the promise holds of the
-- refusal with this number, and the caller's numbers are as before.
abbrev pub AnsweredBy : {A S : Type 0} → (A → S → Type 0) → (Result A Refusal → Type 0) → (number : ℕ) → (before after : S) → Type 0
AnsweredBy {A} numbers promise zero before after = (a : A) × (numbers a after × promise (Ok a))
AnsweredBy numbers promise (suc k) before after = (e : Refusal) × (number_of e ≡ suc k) × promise (Err e) × (after ≡ before)

-- how one answer is handed back, whose errors have their numbers by `gives`
abbrev pub HandedBy : {A E S : Type 0} → (E → ℕ → Type 0) → (A → S → Type 0) → Result A E → (number : ℕ) → (before after : S) → Type 0
HandedBy gives numbers (Ok a) number before after = (number ≡ 0) × numbers a after
HandedBy gives numbers (Err e) number before after = gives e number × (after ≡ before)

-- the same of an answer whose errors are refusals
abbrev pub HandedAs : {A S : Type 0} → (A → S → Type 0) → Result A Refusal → (number : ℕ) → (before after : S) → Type 0
HandedAs numbers answer number before after = HandedBy (λ (e : Refusal) (n : ℕ). n ≡ number_of e) numbers answer number before after

-- how many pairs
abbrev pub list_numbers : ℕ → ℕ → Type 0
list_numbers n pairs = pairs ≡ n

-- 1 for yes, 0 for no
abbrev pub bool_numbers : Bool → ℕ → Type 0
bool_numbers true n = n ≡ 1
bool_numbers false n = n ≡ 0

-- the cells and the steps along x, y and z
pub record GridCells : Type 0 where
  pub cells : List ℕ
  pub steps : List Float

abbrev pub grid_cells : List ℕ → List Float → GridCells
grid_cells cells steps = record { cells = cells; steps = steps }

abbrev pub grid_numbers : DexelGrid → GridCells → Type 0
grid_numbers g n = n ≡ grid_cells (g.c0 ∷ g.c1 ∷ g.c2 ∷ []) (g.s0 ∷ g.s1 ∷ g.s2 ∷ [])

-- for possible and certain: 1 where the list moved, else 0, and how many pairs it has
pub record PartCells : Type 0 where
  pub moved : List ℕ
  pub pairs : List ℕ

abbrev pub part_cells : List ℕ → List ℕ → PartCells
part_cells moved pairs = record { moved = moved; pairs = pairs }

abbrev pub digit : Bool → ℕ
digit b = cond b 1 0

abbrev pub merge_numbers : MergedLists → PartCells → Type 0
merge_numbers m n =
    n ≡ part_cells (digit m.possible.moved ∷ digit m.certain.moved ∷ []) (m.possible.pairs ∷ m.certain.pairs ∷ [])

-- the small record of the stock that is laid
abbrev pub tally : (generation intervals : ℕ) → Tally
tally generation intervals = record { generation = generation; intervals = intervals }

abbrev pub fill_numbers : Tally → Tally → Type 0
fill_numbers t n = n ≡ t

-- the ten numbers of a volume, in the order of the Rust's `DexelVolume`
abbrev pub volume_numbers : DexelVolume → List Float → Type 0
volume_numbers v n =
    n
    ≡ (v.x_certain_mm3
    ∷ v.x_possible_mm3
    ∷ v.y_certain_mm3
    ∷ v.y_possible_mm3
    ∷ v.z_certain_mm3
    ∷ v.z_possible_mm3
    ∷ v.remaining_lower_mm3
    ∷ v.remaining_upper_mm3
    ∷ v.removed_lower_mm3
    ∷ v.removed_upper_mm3
    ∷ [])

-- how many rays a commit changed
abbrev pub commit_numbers : ℕ → ℕ → Type 0
commit_numbers n changed = changed ≡ n

-- the number of entries and the visit total of a sweep
abbrev pub totals : (entries visits : ℕ) → Totals
totals entries visits = record { entries = entries; visits = visits }

abbrev pub sweep_numbers : Totals → Totals → Type 0
sweep_numbers t n = n ≡ t

-- the reason, 1 to 5 in the order of request W-201 of document 02, and the number of its entry, 0 where it names none
pub record TraceCells : Type 0 where
  pub reason : ℕ
  pub entry : ℕ

abbrev pub trace_cells : (reason entry : ℕ) → TraceCells
trace_cells reason entry = record { reason = reason; entry = entry }

abbrev pub trace_numbers : Reason → TraceCells → Type 0
trace_numbers NotPossible n = n ≡ trace_cells 1 0
trace_numbers (RemovedBy k) n = n ≡ trace_cells 2 k
trace_numbers (UncertainBy k) n = n ≡ trace_cells 3 k
trace_numbers NotCertain n = n ≡ trace_cells 4 0
trace_numbers StillCertain n = n ≡ trace_cells 5 0
