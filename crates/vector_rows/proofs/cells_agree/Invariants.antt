-- `vector_rows::cells_agree` meets its contract.
use Rattle.vector_rows.specs.Agreement.{cell_right}
use Rattle.vector_rows.proofs.Cells.{RightTo}
use Rattle.vector_rows.proofs.cells_agree.Given as goal

abbrev pub invariant-loop-k : goal.invariant-loop-k
invariant-loop-k l = RightTo (cell_right l.cells l.w l.from l.ends l.room) l.k
