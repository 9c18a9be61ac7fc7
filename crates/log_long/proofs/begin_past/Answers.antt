-- `log_long::begin_past` meets its contract.
use Rattle.std.proofs.Common.{refl}
use Rattle.log_long.specs.Long.{begin_past}
use Rattle.log_long.proofs.begin_past.Goals as goal
use Rattle.log_long.proofs.begin_past.Goals.{else-lo-hi-via-then-lo-hi+else-b-lo, else-lo-hi-via-else-lo-hi}

pub returns-then-b-lo : goal.returns-then-b-lo
unfolding begin_past
returns-then-b-lo c = rw c.if-lo-hi.true (rw c.if-b-lo.true refl)

pub returns-else-lo-hi : goal.returns-else-lo-hi
unfolding begin_past
returns-else-lo-hi c = elim c.else-lo-hi.branch [
  | else-lo-hi-via-then-lo-hi+else-b-lo w ↦ rw w.if-lo-hi.true (rw w.if-b-lo.false refl)
  | else-lo-hi-via-else-lo-hi w ↦ rw w.if-lo-hi.false refl
]
