-- `span_join::gather` meets its contract.
use Rattle.std.proofs.Common.{◌≡◌}
use Rattle.span_join.proofs.Passes.{Gathered}
use Rattle.span_join.proofs.gather.Given as goal

abbrev pub invariant-loop-hit : goal.invariant-loop-hit
invariant-loop-hit l =
    (l.hit-iterator.hits.now ≡ l.spans) × Gathered l.spans l.initial.out l.n l.m l.hit-iterator.at l.out
