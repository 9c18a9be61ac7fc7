use Rattle.std.proofs.Common.{◌≡◌, length}
use Rattle.store.specs.Store.{places, list_from}
use Rattle.store_read.specs.Reading.{Readable}
use Rattle.sweep_ray.specs.Steps.{some_above}
use Rattle.sweep_ray.proofs.some_above.Given as goal

abbrev pub invariant-loop-k : goal.invariant-loop-k
invariant-loop-k l = Readable l.n l.spans l.links l.k
    × (some_above (list_from l.n l.spans l.links l.head) l.x ≡ some_above (list_from l.n l.spans l.links l.k) l.x)

abbrev pub decreases-loop-k : goal.decreases-loop-k
decreases-loop-k l = length (places l.links l.n l.k)
