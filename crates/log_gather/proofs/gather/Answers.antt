-- The loop keeps that the hits of the keys passed are gathered.
use Rattle.log_gather.proofs.Entries.{gathered_none, gathered-more}
use Rattle.log_gather.proofs.gather.Goals as goal

pub loop-key-init : goal.loop-key-init
loop-key-init c = gathered_none _ _ _ _ _ _ _

pub loop-key-preserved : goal.loop-key-preserved
loop-key-preserved c =
    let put = rw (c.entry_at-e.ensures, c.entry_count-n.ensures) at c.put_entry-h.ensures in
    gathered-more _ _ _ _ _ _ _ c.loop-key.key-index _ _ c.loop-key.h _ c.loop-key.invariant put
