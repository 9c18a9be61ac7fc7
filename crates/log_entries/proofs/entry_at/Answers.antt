use Rattle.std.proofs.Common.{refl}
use Rattle.log_model.specs.Logs.{entry_at}
use Rattle.log_entries.proofs.entry_at.Goals as goal

pub returns : goal.returns
unfolding entry_at
returns c = refl
