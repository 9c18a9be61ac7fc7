use mathlib.Core.Path.{◌≡◌}
use lib.ListN.{length}
use Rattle.doubles.specs.Constants.{plus_zero}
use Rattle.store.specs.Store.{places, list_from}
use Rattle.store_read.specs.Reading.{Readable}
use Rattle.store_read.specs.Lengths.{length_from}
use Rattle.store_read.proofs.Bounds.{after, last_end}
use Rattle.store_read.proofs.sound_between.Given as goal

abbrev pub invariant-loop-k : goal.invariant-loop-k
invariant-loop-k l =
    Readable l.n l.spans l.links l.k
    × (after l.initial.last (list_from l.n l.spans l.links l.head) ≡ after l.last (list_from l.n l.spans l.links l.k))
    × (last_end l.initial.last (list_from l.n l.spans l.links l.head) ≡ last_end l.last (list_from l.n l.spans l.links l.k))
    × (length_from plus_zero (list_from l.n l.spans l.links l.head) ≡ length_from l.sum (list_from l.n l.spans l.links l.k))

abbrev pub decreases-loop-k : goal.decreases-loop-k
decreases-loop-k l = length (places l.links l.n l.k)
