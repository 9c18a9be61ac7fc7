-- `ray_subtract::subtract_at` meets its contract.
use Rattle.std.proofs.Common.{◌*◌}
use Rattle.ray_subtract.proofs.Sweeping.{Subtracting}
use Rattle.ray_subtract.proofs.subtract_at.Given as goal

abbrev pub invariant-loop-k : goal.invariant-loop-k
invariant-loop-k l = Subtracting l.initial.w l.a l.n l.b l.m (2 * l.k) l.j l.r l.w
