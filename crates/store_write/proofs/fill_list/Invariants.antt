use lib.ListN.{take}
use Rattle.store.specs.Store.{free_from}
use Rattle.store_write.proofs.Filling.{Filling}
use Rattle.store_write.proofs.fill_list.Given as goal

abbrev pub invariant-loop-t : goal.invariant-loop-t
invariant-loop-t l =
    Filling l.n l.owner l.count l.pairs l.initial.spans l.initial.links
    (take l.count (free_from l.initial.spans l.initial.links 0 l.n)) l.spans l.links l.at l.t
