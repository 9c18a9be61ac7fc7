-- `log_batches::make_room` meets its contract: each turn leaves a narrower batch.
use Rattle.std.proofs.Common.{rules}
use Rattle.log_batches.proofs.Batching.{narrowing-turn}
use Rattle.log_batches.proofs.make_room.Goals as goal

pub loop-t-preserved : goal.loop-t-preserved
loop-t-preserved c =
    narrowing-turn c.loop-t.invariant (search rules) (search rules) c.narrow-count.ensures
