-- `log_lay::free_all` meets its contract: before each turn the lists of the first rays are freed.
use Rattle.log_lay.proofs.Loops.{FreedTo}
use Rattle.store.specs.Store.{cells}
use Rattle.log_lay.proofs.free_all.Given as goal

abbrev pub invariant-loop-ray : goal.invariant-loop-ray
invariant-loop-ray l =
    FreedTo l.n (cells l.initial.spans l.initial.links l.initial.heads) l.work l.sizes l.rays l.ray (cells l.spans l.links l.heads)
