use Rattle.stock.specs.Stock.{ValidTo}
use Rattle.store.specs.Store.{cells}
use Rattle.stock.proofs.check_rays.Given as goal

abbrev pub invariant-loop-ray : goal.invariant-loop-ray
invariant-loop-ray l = ValidTo l.spec l.g (cells l.spans l.links l.heads) l.ray
