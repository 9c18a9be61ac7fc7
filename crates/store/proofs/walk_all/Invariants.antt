use Prim.Native.Nat.{◌-◌}
use mathlib.Core.Path.{◌≡◌}
use Rattle.store.specs.Walks.{walk_all}
use Rattle.store.proofs.walk_all.Given as goal

abbrev pub invariant-loop-j : goal.invariant-loop-j
invariant-loop-j l = (walk_all l.links l.heads l.n l.limit l.m 0 0 ≡ walk_all l.links l.heads l.n l.limit (l.m - l.j) l.j l.c)
