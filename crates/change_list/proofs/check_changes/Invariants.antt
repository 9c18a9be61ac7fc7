-- `Passed` holds before each turn: all changes are good exactly when those from the cursor on are, and the sums so far are those of the
-- changes before it.
use Rattle.change_list.proofs.Sums.{Passed}
use Rattle.store.specs.Store.{cells}
use Rattle.change_list.proofs.check_changes.Given as goal

abbrev pub invariant-loop-k : goal.invariant-loop-k
invariant-loop-k l = Passed l.spec l.g (cells l.spans l.links l.heads) l.changes l.pairs l.k l.cur
