-- `next` of the reader makes progress.
use Rattle.std.proofs.Common.{refl}
use Rattle.span_hits.proofs.Reading.{goes}
use Rattle.span_hits.proofs.HitReaderIterator.next.Goals as goal

pub returns-clause-goes : goal.returns-clause-goes
returns-clause-goes c = goes _ _ _ (refl, c.hit_from-found.ensures)
