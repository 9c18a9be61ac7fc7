-- `ray_subtract::cut_at` meets its contract.
use Prim.Native.Nat.{◌-◌}
use Rattle.ray_subtract.proofs.Sweeping.{CuttingAt}
use Rattle.ray_subtract.proofs.cut_at.Given as goal

abbrev pub invariant-loop-j : goal.invariant-loop-j
invariant-loop-j l = CuttingAt l.at l.m l.from l.hi l.initial.w l.n l.lo l.j l.end l.w

abbrev pub decreases-loop-j : goal.decreases-loop-j
decreases-loop-j l = l.m - l.j
