-- `vector_rows::doubles_at` meets its contract.
use lib.ListN.{length}
use lib.Ieee.{nan}
use Rattle.vector_rows.specs.Words.{double_of}
use Rattle.vector_rows.proofs.Cells.{FilledTo}
use Rattle.vector_rows.proofs.doubles_at.Given as goal

abbrev pub invariant-loop-k : goal.invariant-loop-k
invariant-loop-k l = FilledTo nan (double_of l.w l.from) (length l.initial.out) l.out l.k
