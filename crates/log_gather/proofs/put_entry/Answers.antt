-- The outer pair is put first, if it counts, then the inner one.
use Rattle.log_model.specs.Logs.{hit_lo, hit_hi}
use Rattle.log_keys.specs.Keys.{with_entry}
use Rattle.log_gather.proofs.Entries.{puts-both}
use Rattle.log_gather.proofs.put_entry.Goals as goal

pub returns-then-certain : goal.returns-then-certain
unfolding with_entry hit_lo hit_hi
returns-then-certain c =
    rw c.if-certain.true (puts-both c.put-w.ensures c.put.ensures)

pub returns : goal.returns
unfolding with_entry hit_lo hit_hi
returns c = rw c.if-certain.false c.put-2.ensures
