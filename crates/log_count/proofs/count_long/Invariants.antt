-- `log_count::count_long` meets its contract. The loop goes from stretch to stretch, and each but the last leaves fewer hits that begin
-- past it.
use mathlib.Core.Bool.{true}
use lib.ListN.{length}
use Rattle.log_keys.specs.Keys.{loses_of, pairs_past}
use Rattle.log_count.proofs.Onward.{TakenTo}
use Rattle.store.specs.Layout.{heads_of}
use Rattle.log_count.proofs.count_long.Given as goal

abbrev pub invariant-loop-w : goal.invariant-loop-w
invariant-loop-w l =
    TakenTo l.g l.n l.spans l.links l.log l.ray (heads_of l.heads l.ray).possible (heads_of l.heads l.ray).certain
    l.initial.keys l.keys l.initial.buffer l.buffer l.w

abbrev pub decreases-loop-w : goal.decreases-loop-w
decreases-loop-w l = length (pairs_past l.w.end (loses_of l.g l.log l.ray true))
