use mathlib.Core.Path.{◌≡◌}
use lib.ListN.{length}
use Rattle.store.specs.Store.{RecordChain, places, freed_spans, freed_links}
use Rattle.store_write.proofs.free_chain.Given as goal

abbrev pub invariant-loop-k : goal.invariant-loop-k
invariant-loop-k l =
    (length l.spans ≡ length l.initial.spans) × (length l.links ≡ length l.initial.links)
    × RecordChain l.links l.n l.owner l.k (places l.links l.n l.k)
    × (freed_spans l.initial.spans (places l.initial.links l.n l.head) ≡ freed_spans l.spans (places l.links l.n l.k))
    × (freed_links l.initial.links (places l.initial.links l.n l.head) ≡ freed_links l.links (places l.links l.n l.k))

abbrev pub decreases-loop-k : goal.decreases-loop-k
decreases-loop-k l = length (places l.links l.n l.k)
