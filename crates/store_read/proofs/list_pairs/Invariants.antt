use Prim.Native.Nat.{◌+◌}
use mathlib.Core.Path.{◌≡◌}
use lib.ListN.{length}
use Rattle.store.specs.Store.{places}
use Rattle.store_read.specs.Reading.{Linked}
use Rattle.store_read.proofs.list_pairs.Given as goal

abbrev pub invariant-loop-k : goal.invariant-loop-k
invariant-loop-k l = Linked l.n l.links l.k × (l.c + length (places l.links l.n l.k) ≡ length (places l.links l.n l.head))

abbrev pub decreases-loop-k : goal.decreases-loop-k
decreases-loop-k l = length (places l.links l.n l.k)
