use Rattle.std.proofs.Common.{◌≡◌}
use Rattle.std.specs.Slice.Iter.{chunks_exact_rest, chunks_exact_size}
use Rattle.spans.specs.Spans.{holds}
use Rattle.ray_trace.proofs.holds_at.Given as goal

abbrev pub invariant-loop-pair : goal.invariant-loop-pair
invariant-loop-pair l = (chunks_exact_size l.pair-iterator ≡ 2) × (holds l.s l.p ≡ holds (chunks_exact_rest l.pair-iterator) l.p)
