-- `span_hits::hit_from` meets its contract. The loop's invariant: what is asked of the place now is what was asked of
-- the first place. The measure is what is left. Assumes nothing.
use Prim.Native.Nat.{◌-◌}
use mathlib.Core.Path.{◌≡◌}
use lib.ListN.{length, drop}
use Rattle.span_hits.specs.Hits.{next_hit}
use Rattle.span_hits.proofs.hit_from.Given as goal

abbrev pub invariant-loop-lo : goal.invariant-loop-lo
invariant-loop-lo l = next_hit l.from (drop l.from l.hits) ≡ next_hit l.at (drop l.at l.hits)

abbrev pub decreases-loop-lo : goal.decreases-loop-lo
decreases-loop-lo l = length l.hits - l.at
