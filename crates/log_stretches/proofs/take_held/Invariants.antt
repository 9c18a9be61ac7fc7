-- What reaches into the stretch is taken first, then the loop takes a pair a turn until one begins at or past the end.
use Prim.Native.Nat.{◌*◌}
use lib.ListN.{take}
use Rattle.log_stretches.proofs.Taking.{TakesSome}
use Rattle.log_stretches.proofs.take_held.Given as goal

abbrev pub invariant-loop-i : goal.invariant-loop-i
invariant-loop-i l = TakesSome l.n l.spans l.links l.b l.end l.front (take l.m l.cells) l.initial.t (2 * l.i) l.t
