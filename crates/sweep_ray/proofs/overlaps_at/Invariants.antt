use Rattle.std.proofs.Common.{◌≡◌, length}
use Rattle.store.specs.Store.{places, list_from}
use Rattle.store_read.specs.Reading.{Readable}
use Rattle.sweep_model.specs.Meets.{overlaps_of}
use Rattle.sweep_ray.proofs.overlaps_at.Given as goal

abbrev pub invariant-loop-k : goal.invariant-loop-k
invariant-loop-k l = Readable l.n l.spans l.links l.k
    × (overlaps_of (list_from l.n l.spans l.links l.head) l.s ≡ overlaps_of (list_from l.n l.spans l.links l.k) l.s)

abbrev pub decreases-loop-k : goal.decreases-loop-k
decreases-loop-k l = length (places l.links l.n l.k)
