use Rattle.log_model.specs.Logs.{is_whole}
use Rattle.log_entries.proofs.is_whole.Goals as goal

pub returns : goal.returns
unfolding is_whole
returns c = rw (c.nearest_u64_to_f64.ensures, c.to_u64.ensures)
