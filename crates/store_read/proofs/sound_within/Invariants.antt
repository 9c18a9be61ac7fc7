use mathlib.Core.Path.{◌≡◌}
use mathlib.Core.Bool.{◌&&◌}
use lib.ListN.{length}
use Rattle.spans.specs.Spans.{sound}
use Rattle.doubles.specs.Constants.{plus_zero}
use Rattle.store.specs.Store.{places, list_from}
use Rattle.store_read.specs.Reading.{Readable}
use Rattle.store_read.specs.Lengths.{length_from}
use Rattle.store_read.proofs.Bounds.{after}
use Rattle.spans.specs.Containment.{contained}
use Rattle.store_read.proofs.sound_within.Given as goal

abbrev pub invariant-loop-k : goal.invariant-loop-k
invariant-loop-k l =
    Readable l.n l.spans l.links l.o × Readable l.n l.spans l.links l.k
    × ((sound (list_from l.n l.spans l.links l.inner)
    && contained (list_from l.n l.spans l.links l.outer) (list_from l.n l.spans l.links l.inner))
    ≡ (after l.last (list_from l.n l.spans l.links l.k)
    && contained (list_from l.n l.spans l.links l.o) (list_from l.n l.spans l.links l.k)))
    × (length_from plus_zero (list_from l.n l.spans l.links l.inner) ≡ length_from l.sum (list_from l.n l.spans l.links l.k))

abbrev pub decreases-loop-k : goal.decreases-loop-k
decreases-loop-k l = length (places l.links l.n l.k)
