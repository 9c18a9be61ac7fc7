-- Before each turn the lists of the first k changes are freed.
use Rattle.std.proofs.Common.{ℕ, List}
use Rattle.std.specs.Prelude.{Float}
use Rattle.change_apply.specs.Passes.{ChangesFit}
use Rattle.change_apply.proofs.Turns.{FreedTo}
use Rattle.store.specs.Store.{cells}
use Rattle.change_apply.proofs.free_changes.Given as goal

abbrev pub invariant-loop-k : goal.invariant-loop-k
invariant-loop-k l =
    (total : ℕ) (pairs : List Float) → ChangesFit l.spec l.g (cells l.initial.spans l.initial.links l.initial.heads) total l.changes pairs
    → FreedTo l.spec l.g (cells l.initial.spans l.initial.links l.initial.heads) l.changes pairs l.k (cells l.spans l.links l.heads)
