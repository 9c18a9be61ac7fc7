-- `log_long::gather_ray` meets its contract. The loop's invariant: the ray's entries before place i are gathered.
use Rattle.std.proofs.Common.{◌≡◌, length}
use Rattle.log_long.specs.Long.{GathersTo}
use Rattle.log_long.proofs.gather_ray.Given as goal

abbrev pub invariant-loop-i : goal.invariant-loop-i
invariant-loop-i l = (length l.keys ≡ length l.initial.keys) × GathersTo l.g l.log l.ray l.b l.i l.keys l.w
