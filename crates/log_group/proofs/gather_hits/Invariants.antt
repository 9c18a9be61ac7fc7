-- `log_group::gather_hits` meets its contract.
use Prim.Native.Nat.{◌-◌}
use lib.ListN.{length}
use Rattle.log_model.specs.Steps.{hit_kind_of}
use Rattle.log_group.proofs.Gathering.{Gathering}
use Rattle.log_group.proofs.gather_hits.Given as goal

abbrev pub invariant-loop-k : goal.invariant-loop-k
invariant-loop-k l = Gathering l.rays l.log (hit_kind_of l.inner) l.ray l.at l.initial.work l.work l.t l.k

abbrev pub decreases-loop-k : goal.decreases-loop-k
decreases-loop-k l = length l.initial.work - l.t
