-- `vector_rows::cells_agree` meets its contract.
use Rattle.vector_rows.specs.Agreement.{one_wrong}
use Rattle.vector_rows.proofs.Cells.{none_right, one_right, all_right}
use borrow.Author.Tests.{not-true, not-false}
use Rattle.vector_rows.proofs.cells_agree.Goals as goal

pub loop-k-init : goal.loop-k-init
loop-k-init c = none_right

pub returns-then-not-cell_agrees : goal.returns-then-not-cell_agrees
returns-then-not-cell_agrees c = one_wrong _ c.loop-k-test.true
    (rw (← c.word_of.ensures, ← c.cell_agrees.ensures) (not-true _ c.if-not-cell_agrees.true-raw))

pub loop-k-preserved : goal.loop-k-preserved
loop-k-preserved c = one_right c.loop-k.invariant
    (rw (← c.word_of.ensures, ← c.cell_agrees.ensures) (not-false _ c.if-not-cell_agrees.false-raw))

pub returns : goal.returns
returns c = all_right c.loop-k.invariant c.loop-k-test.false
