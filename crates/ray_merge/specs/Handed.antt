-- The lists of a ray after a merge.
use Rattle.std.specs.Prelude.{◌≡◌, true, false, List, ℕ, ◌+◌, ◌*◌, ◌≤◌, length, Float, Result, Ok, Err}
use Rattle.std.specs.Borrow.{Bor}
use Rattle.ray_subtract.specs.Subtract.{new_cells, handed_back}
use Rattle.ray_subtract.specs.declared.MergedList.{MergedList}
use Rattle.ray_subtract.specs.declared.MergedLists.{MergedLists}

-- The lists that are handed back, by cases on the answer, whatever the type of its error is: a refused merge leaves both as they were.
abbrev pub possible_handed : {E : Type 0} → Result MergedLists E → List Float → List Float → List Float
possible_handed (Ok l) before work = handed_back l.possible before work 0
possible_handed (Err e) before work = before

abbrev pub certain_handed : {E : Type 0} → Result MergedLists E → List Float → List Float → List Float
certain_handed (Ok l) before work = handed_back l.certain before work (new_cells l.possible)
certain_handed (Err e) before work = before

-- where the caller's own list is handed back: it did not move, or the merge was refused
abbrev pub PossibleStays : {E : Type 0} → Result MergedLists E → Type 0
PossibleStays (Ok l) = l.possible.moved ≡ false
PossibleStays (Err e) = Unit {0}

abbrev pub CertainStays : {E : Type 0} → Result MergedLists E → Type 0
CertainStays (Ok l) = l.certain.moved ≡ false
CertainStays (Err e) = Unit {0}

-- a list that moved is handed back as the part of the work buffer that begins at cell `at`, 8 bytes a cell past its start
abbrev pub ListMoved : MergedList → Bor (List Float) → ℕ → Bor (List Float) → Type 0
ListMoved part work at r = part.moved ≡ true → at + 2 * part.pairs ≤ length work.now → r.ref_ptr ≡ (work.ref_ptr.0, work.ref_ptr.1 + 8 * at)

abbrev pub PossibleMoved : {E : Type 0} → Result MergedLists E → Bor (List Float) → Bor (List Float) → Type 0
PossibleMoved (Ok l) work r = ListMoved l.possible work 0 r
PossibleMoved (Err e) work r = Unit {0}

abbrev pub CertainMoved : {E : Type 0} → Result MergedLists E → Bor (List Float) → Bor (List Float) → Type 0
CertainMoved (Ok l) work r = ListMoved l.certain work (new_cells l.possible) r
CertainMoved (Err e) work r = Unit {0}
