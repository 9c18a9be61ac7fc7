-- Steps: the test of a whole log, room in the work buffer, the kind of the hits that are asked for, and what a log leaves of one list.
use Rattle.std.specs.Prelude.{List, Float, Bool, true, false, ℕ, ◌/◌, ◌%◌, ◌≤◌, eqb, length}
use Rattle.spans.specs.Spans.{ListOf}
use Rattle.grid.specs.declared.DexelGrid.{DexelGrid}
use Rattle.log_model.specs.declared.Entry.{Entry}
use Rattle.log_model.specs.Logs.{work_needed, HitKind, outer, inner}
use Rattle.log_model.specs.Model.{sets_after}
use Rattle.log_model.specs.Updates.{list_sets}
use Rattle.grid.specs.Rays.{Ray}
use Rattle.stock.specs.Stock.{Kind}

-- l is the sound list of what the log leaves of a list of the ray
abbrev pub ListAfterLog : (g : DexelGrid) → (Ray g → Kind → List Float) → List Entry → Ray g → Kind → List Float → Type 0
ListAfterLog g lists es r k l = ListOf (sets_after g (list_sets g lists) es r k) l

-- no part of an entry is over
abbrev pub is_whole_log : List Float → Bool
is_whole_log log = eqb (length log % 6) 0

-- the kind of the hits that are asked for
abbrev pub hit_kind_of : (is_inner : Bool) → HitKind
hit_kind_of true = inner
hit_kind_of false = outer

-- the work buffer has the pairs that a log commit needs
abbrev pub WorkRoom : (intervals : ℕ) (log work : List Float) → Type 0
WorkRoom intervals log work = work_needed intervals log ≤ length work / 2
