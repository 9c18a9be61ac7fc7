-- `log_batches::make_room` meets its contract: each turn leaves a narrower batch.
use Rattle.log_batches.proofs.Batching.{Narrowing}
use Rattle.log_batches.proofs.make_room.Given as goal

abbrev pub invariant-loop-t : goal.invariant-loop-t
invariant-loop-t l = Narrowing l.n l.initial.keys l.initial.t l.keys l.t

abbrev pub decreases-loop-t : goal.decreases-loop-t
decreases-loop-t l = l.t.width
