use Rattle.std.proofs.Common.{ℕ, ◌+◌, [], ◌∷◌}
use Rattle.sweep_model.specs.Entries.{ray_entry}
use Rattle.sweep_visits.proofs.Walks.{Sweeping}
use Rattle.sweep_visits.proofs.sweep_row.Given as goal

abbrev pub invariant-loop-u : goal.invariant-loop-u
invariant-loop-u l =
    Sweeping l.budget (λ (w : ℕ). ray_entry l.n l.t l.p l.l l.spans l.links l.heads w l.v ∷ []) l.fn.r.u0 (l.fn.r.u1 + 1)
    l.initial.c l.initial.log l.c l.log l.u
