-- `log_lay::lay_all` meets its contract: before each turn the new lists of the first rays are laid.
use Rattle.log_lay.proofs.Loops.{LaidTo}
use Rattle.store.specs.Store.{cells}
use Rattle.log_lay.proofs.lay_all.Given as goal

abbrev pub invariant-loop-ray : goal.invariant-loop-ray
invariant-loop-ray l =
    LaidTo l.n (cells l.initial.spans l.initial.links l.initial.heads) l.work l.sizes l.at l.rays l.ray
    (cells l.spans l.links l.heads) l.place
