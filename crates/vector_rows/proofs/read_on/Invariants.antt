-- So far only rows that cannot be read.
use Rattle.std.proofs.Common.{◌≡◌, ◌≤◌, length}
use Rattle.vector_rows.specs.Replays.{UnreadBetween}
use Rattle.vector_rows.proofs.read_on.Given as goal

abbrev pub invariant-loop-left : goal.invariant-loop-left
invariant-loop-left g l =
    record {
      same : length l.out ≡ length l.initial.out;
      unread : UnreadBetween l.initial.t l.t;
      most : l.left ≤ l.initial.left;
    }
