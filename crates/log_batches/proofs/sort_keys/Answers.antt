-- `log_batches::sort_keys` meets its contract: the sort of std only puts the keys in another order.
use Rattle.log_batches.proofs.Same.{same_permuted}
use Rattle.log_batches.proofs.sort_keys.Goals as goal

pub returns-clause-same : goal.returns-clause-same
returns-clause-same c = same_permuted _ _ _ c.requires c.sort_unstable.ensures.permutation
