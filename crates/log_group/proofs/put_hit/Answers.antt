-- `log_group::put_hit` meets its contract.
use Rattle.log_model.specs.Logs.{hit_lo, hit_hi}
use Rattle.log_group.proofs.put_hit.Goals as goal

pub returns-then-inner : goal.returns-then-inner
unfolding hit_lo hit_hi
returns-then-inner c = rw c.if-inner.true

pub returns : goal.returns
unfolding hit_lo hit_hi
returns c = rw c.if-inner.false
