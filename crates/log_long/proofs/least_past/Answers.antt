-- `log_long::least_past` meets its contract.
use Rattle.log_long.specs.Long.{least_past}
use Rattle.log_model.specs.Logs.{hit_lo, hit_hi}
use Rattle.log_long.proofs.least_past.Goals as goal

pub returns-then-y-x : goal.returns-then-y-x
unfolding least_past hit_lo hit_hi
returns-then-y-x c = rw (← c.begin_past-x.ensures, ← c.begin_past-y.ensures, c.if-y-x.true)

pub returns-else-y-x : goal.returns-else-y-x
unfolding least_past hit_lo hit_hi
returns-else-y-x c = rw (← c.begin_past-x.ensures, ← c.begin_past-y.ensures, c.if-y-x.false)
