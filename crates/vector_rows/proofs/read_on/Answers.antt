-- `vector_rows::read_on` meets its contract.
use Rattle.std.proofs.Common.{rules}
use Rattle.vector_rows.specs.RowCounts.{counted}
use Rattle.vector_rows.specs.Replays.{no_row, one_row}
use Rattle.vector_rows.proofs.read_on.Goals as goal

pub loop-left-init : goal.loop-left-init
loop-left-init g c = record { same = search rules; unread = no_row; most = search rules }

pub loop-left-preserved : goal.loop-left-preserved
unfolding counted
loop-left-preserved g c =
    record {
      same = search rules;
      unread = rw c.count-t.ensures (one_row c.loop-left.invariant.unread);
      most = search rules;
    }
