-- `log_batches::gather_rays` meets its contract: each turn adds one entry more.
use Rattle.log_batches.specs.Batches.{RaysGathered}
use Rattle.std.specs.Prelude.{Some}
use Rattle.log_batches.proofs.gather_rays.Given as goal

abbrev pub invariant-loop-i : goal.invariant-loop-i
invariant-loop-i l = RaysGathered l.g l.log l.first l.width l.initial.keys l.i l.keys (Some l.w)
