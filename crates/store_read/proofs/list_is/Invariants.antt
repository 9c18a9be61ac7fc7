use Prim.Native.Nat.{◌≤◌}
use mathlib.Core.Path.{◌≡◌}
use lib.ListN.{length, drop}
use Rattle.spans.specs.Spans.{equal}
use Rattle.store.specs.Store.{places, list_from}
use Rattle.store_read.specs.Reading.{Readable}
use Rattle.store_read.proofs.list_is.Given as goal

abbrev pub invariant-loop-k : goal.invariant-loop-k
invariant-loop-k l = Readable l.n l.spans l.links l.k × (l.t ≤ length l.pairs)
    × (equal (list_from l.n l.spans l.links l.head) l.pairs ≡ equal (list_from l.n l.spans l.links l.k) (drop l.t l.pairs))

abbrev pub decreases-loop-k : goal.decreases-loop-k
decreases-loop-k l = length (places l.links l.n l.k)
