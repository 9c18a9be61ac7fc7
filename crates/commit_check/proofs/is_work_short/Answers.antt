-- `commit_check::is_work_short` meets its contract.
use Rattle.commit_check.proofs.is_work_short.Goals as goal

pub returns : goal.returns
returns c = rw c.entry_count.ensures
