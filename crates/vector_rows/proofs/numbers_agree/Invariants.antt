-- `vector_rows::numbers_agree` meets its contract.
use Rattle.vector_rows.specs.Agreement.{number_right}
use Rattle.vector_rows.proofs.Cells.{RightTo}
use Rattle.vector_rows.proofs.numbers_agree.Given as goal

abbrev pub invariant-loop-k : goal.invariant-loop-k
invariant-loop-k l = RightTo (number_right l.cells l.w l.from l.room) l.k
