-- `vector_rows::numbers_at` meets its contract.
use Rattle.vector_rows.proofs.Cells.{none_filled, one-filled, all-filled}
use Rattle.std.proofs.Common.{arith}
use Rattle.vector_rows.proofs.numbers_at.Goals as goal

pub loop-k-init : goal.loop-k-init
loop-k-init c = none_filled

pub loop-k-preserved : goal.loop-k-preserved
loop-k-preserved c = one-filled c.loop-k.invariant (omega arith) c.word_of.ensures

pub returns : goal.returns
returns c = all-filled c.loop-k.invariant (omega arith)
