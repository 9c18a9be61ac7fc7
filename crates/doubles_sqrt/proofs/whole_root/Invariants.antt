-- `doubles_sqrt::whole_root` meets its contract: its loop steps down from a number that is no less than the root. Assumes nothing.
use Prim.Native.Nat.{suc, ◌*◌, ◌^◌, ◌<◌}
use Rattle.doubles_sqrt.proofs.whole_root.Given as goal

abbrev pub invariant-loop-root : goal.invariant-loop-root
invariant-loop-root l = (l.m < suc l.root * suc l.root) × (l.root < 2 ^ 30)

abbrev pub decreases-loop-root : goal.decreases-loop-root
decreases-loop-root l = l.root
