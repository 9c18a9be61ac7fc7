-- `vector_rows::read_words` meets its contract.
use lib.ListN.{length}
use Rattle.vector_rows.proofs.Reading.{ReadTo}
use Rattle.vector_rows.proofs.read_words.Given as goal

abbrev pub invariant-loop-i : goal.invariant-loop-i
invariant-loop-i l = ReadTo l.text l.at (length l.initial.out) l.out l.i
