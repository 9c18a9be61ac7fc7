-- The walk stands at the next record of the chain.
use Rattle.store_read.proofs.Steps.{step}
use Rattle.log_left.proofs.close_pair.Goals as goal

pub begin-requires : goal.begin-requires
begin-requires c = let asked = c.requires in
    rw c.record_at-present.ensures (step asked.0 asked.1).next
