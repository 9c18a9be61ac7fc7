-- `vector_rows::numbers_at` meets its contract.
use lib.ListN.{length}
use Rattle.vector_rows.specs.Words.{word_of}
use Rattle.vector_rows.proofs.Cells.{FilledTo}
use Rattle.vector_rows.proofs.numbers_at.Given as goal

abbrev pub invariant-loop-k : goal.invariant-loop-k
invariant-loop-k l = FilledTo 0 (word_of l.w l.from) (length l.initial.out) l.out l.k
