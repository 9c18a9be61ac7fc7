-- What lies in front of the hit is counted, and the walk stands at the hit's end or at the next record.
use Rattle.store_read.proofs.Steps.{step}
use Rattle.log_left.proofs.cut_pair.Goals as goal
use Rattle.log_left.proofs.cut_pair.Goals.{then-r-lo, else-r-lo}

pub begin-requires : goal.begin-requires
begin-requires c = let asked = c.requires in
    rw c.record_at-present.ensures (step asked.0 asked.1).next
