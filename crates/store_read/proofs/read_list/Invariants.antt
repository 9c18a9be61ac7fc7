use Prim.Native.Nat.{◌+◌}
use mathlib.Core.Path.{◌≡◌}
use lib.ListN.{length}
use lib.Seq.{sets}
use Rattle.store.specs.Store.{places, list_from}
use Rattle.store_read.specs.Reading.{Readable}
use Rattle.store_read.proofs.read_list.Given as goal

abbrev pub invariant-loop-k : goal.invariant-loop-k
invariant-loop-k l = Readable l.n l.spans l.links l.k × (length l.out ≡ length l.initial.out)
    × (l.t + length (list_from l.n l.spans l.links l.k) ≡ l.at + length (list_from l.n l.spans l.links l.head))
    × (sets l.initial.out l.at (list_from l.n l.spans l.links l.head) ≡ sets l.out l.t (list_from l.n l.spans l.links l.k))

abbrev pub decreases-loop-k : goal.decreases-loop-k
decreases-loop-k l = length (places l.links l.n l.k)
