-- `span_cover::covers` meets its contract.
use Prim.Native.Nat.{◌+◌, ◌-◌}
use lib.ListN.{length}
use Rattle.span_cover.proofs.Walks.{Covering}
use Rattle.span_cover.proofs.covers.Given as goal

abbrev pub invariant-loop-k : goal.invariant-loop-k
invariant-loop-k l = Covering l.outer l.inner l.k l.j

abbrev pub decreases-loop-k : goal.decreases-loop-k
decreases-loop-k l = length l.inner + length l.outer - (l.k + l.j)
