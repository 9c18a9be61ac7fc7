use Prim.Native.Nat.{◌-◌}
use mathlib.Core.Path.{◌≡◌}
use Rattle.store.specs.Walks.{walk_from}
use Rattle.store.proofs.walk_chain.Given as goal

abbrev pub invariant-loop-k : goal.invariant-loop-k
invariant-loop-k l = walk_from l.links l.n l.owner (l.limit - l.from) l.from l.head ≡ walk_from l.links l.n l.owner (l.limit - l.c) l.c l.k

abbrev pub decreases-loop-k : goal.decreases-loop-k
decreases-loop-k l = l.limit - l.c
