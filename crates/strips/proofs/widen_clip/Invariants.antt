-- The invariant: what is left to go in, after what went in, gives the whole extent.
use Rattle.std.proofs.Common.{◌≡◌, take, drop}
use Rattle.strips.specs.Polygon.{widen_all, edges}
use Rattle.strips.proofs.widen_clip.Given as goal

abbrev pub invariant-loop-i : goal.invariant-loop-i
invariant-loop-i l =
    widen_all l.e (edges l.above l.bound l.first (drop l.i (take l.n l.ps.at)))
    ≡ widen_all l.initial.e (edges l.above l.bound l.first (take l.n l.ps.at))
