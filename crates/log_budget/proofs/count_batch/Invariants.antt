use mathlib.Core.Path.{◌≡◌}
use Prim.Native.Nat.{◌-◌}
use lib.ListN.{length}
use Rattle.log_budget.proofs.Turns.{CountedBelow}
use Rattle.store.specs.Store.{cells}
use Rattle.log_budget.proofs.count_batch.Given as goal

abbrev pub invariant-loop-i : goal.invariant-loop-i
invariant-loop-i l =
    (length l.buffer ≡ length l.initial.buffer)
    × CountedBelow l.spec l.g (cells l.spans l.links l.heads) l.log l.first l.width l.keys l.m l.i l.t

abbrev pub decreases-loop-i : goal.decreases-loop-i
decreases-loop-i l = l.m - l.i
