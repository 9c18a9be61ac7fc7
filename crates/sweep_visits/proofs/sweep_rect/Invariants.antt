use Rattle.std.proofs.Common.{◌+◌}
use Rattle.sweep_model.specs.Entries.{ray_entry, row_entries}
use Rattle.sweep_visits.proofs.Walks.{Sweeping}
use Rattle.sweep_visits.proofs.sweep_rect.Given as goal

abbrev pub invariant-loop-v : goal.invariant-loop-v
invariant-loop-v l =
    Sweeping l.budget (row_entries (ray_entry l.n l.t l.p l.l l.spans l.links l.heads) l.r) l.r.v0 (l.r.v1 + 1)
    l.initial.c l.initial.log l.c l.log l.v
