use Rattle.std.proofs.Common.{◌≡◌, ℕ, ◌<◌, true}
use Rattle.log_model.specs.Logs.{entry_at, names_some_ray}
use Rattle.log_entries.proofs.names_all.Given as goal

abbrev pub invariant-loop-i : goal.invariant-loop-i
invariant-loop-i l = (j : ℕ) → j < l.i → names_some_ray l.g (entry_at l.log j) ≡ true
