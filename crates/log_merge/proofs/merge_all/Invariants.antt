-- `log_merge::merge_all` meets its contract.
use Rattle.log_merge.proofs.AllRays.{Merging}
use Rattle.store.specs.Store.{cells}
use Rattle.log_merge.proofs.merge_all.Given as goal

abbrev pub invariant-loop-ray : goal.invariant-loop-ray
invariant-loop-ray l =
    Merging l.spec l.g (cells l.spans l.links l.heads) l.log l.initial.work l.work l.ray l.q l.changed
