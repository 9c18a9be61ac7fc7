use mathlib.Core.Path.{◌≡◌}
use lib.ListN.{length}
use Rattle.store.specs.Store.{places, list_from}
use Rattle.store_read.specs.Reading.{Readable}
use Rattle.spans.specs.Containment.{from}
use Rattle.store_read.proofs.first_reaching.Given as goal

abbrev pub invariant-loop-k : goal.invariant-loop-k
invariant-loop-k l = Readable l.n l.spans l.links l.k
    × (from l.x (list_from l.n l.spans l.links l.head) ≡ from l.x (list_from l.n l.spans l.links l.k))

abbrev pub decreases-loop-k : goal.decreases-loop-k
decreases-loop-k l = length (places l.links l.n l.k)
