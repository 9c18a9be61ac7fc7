-- Before each turn the lists of the first k changes are laid, and no record before the place is free, so the next list goes to the lowest
-- free records.
use Rattle.change_apply.specs.Passes.{ChangesFreed}
use Rattle.change_apply.proofs.Turns.{LaidTo}
use Rattle.store.specs.Store.{cells}
use Rattle.change_apply.proofs.lay_changes.Given as goal

abbrev pub invariant-loop-k : goal.invariant-loop-k
invariant-loop-k l =
    (b : ChangesFreed l.spec l.g l.changes l.pairs (cells l.initial.spans l.initial.links l.initial.heads))
    → LaidTo l.spec l.g b.before l.changes l.pairs b.total b.fitting l.k l.at l.from (cells l.spans l.links l.heads)
