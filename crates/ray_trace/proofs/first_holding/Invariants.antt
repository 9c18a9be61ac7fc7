use Rattle.std.proofs.Common.{◌≡◌, ℕ, ◌<◌, false}
use Rattle.log_model.specs.Logs.{entry_at}
use Rattle.log_model.specs.Steps.{hit_kind_of}
use Rattle.ray_trace.specs.Reasons.{hit_holds}
use Rattle.ray_trace.proofs.first_holding.Given as goal

abbrev pub invariant-loop-i : goal.invariant-loop-i
invariant-loop-i l = (j : ℕ) → j < l.i → hit_holds (hit_kind_of l.inner) (entry_at l.log j) l.p ≡ false
