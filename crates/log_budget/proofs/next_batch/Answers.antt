-- `log_budget::next_batch` meets its contract.
use Rattle.log_budget.proofs.Sorting.{sorted-batch}
use Rattle.log_budget.proofs.next_batch.Goals as goal

pub sort_keys-requires : goal.sort_keys-requires
sort_keys-requires c = c.in_ok-w.ensures.batch.room

pub returns : goal.returns
returns c = sorted-batch c.requires.2.inside c.in_ok-w.ensures c.sort_keys.ensures.same c.sort_keys.ensures.ascend
