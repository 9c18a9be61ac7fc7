use Rattle.std.proofs.Common.{◌/◌, length}
use Rattle.sweep_model.specs.SweepEntries.{setting}
use Rattle.sweep_visits.proofs.Walks.{Sweeping}
use Rattle.sweep_walk.proofs.Chords.{entries_at}
use Rattle.store.specs.Store.{cells}
use Rattle.sweep_walk.proofs.sweep_chords.Given as goal

abbrev pub invariant-loop-i : goal.invariant-loop-i
invariant-loop-i l =
    Sweeping l.budget (entries_at (setting l.spec l.g l.k l.p (cells l.spans l.links l.heads)) l.chords) 0 (length l.chords / 8)
    l.initial.c l.initial.log l.c l.log l.i
