-- `vector_rows::read_words` meets its contract.
use Rattle.std.proofs.Common.{rules, arith}
use lib.ListN.{length-set}
use Rattle.vector_rows.specs.ReadWords.{one_missing}
use Rattle.vector_rows.proofs.Reading.{none_read, one-read, read-ends}
use Rattle.vector_rows.proofs.read_words.Goals as goal

pub loop-i-init : goal.loop-i-init
loop-i-init c = none_read _ _ _

pub returns-in-None : goal.returns-in-None
returns-in-None c = one_missing c.loop-i.i (simp length-set (omega arith)) (search rules)

pub loop-i-preserved : goal.loop-i-preserved
loop-i-preserved c = one-read _ _ _ _ _ _ c.loop-i.invariant (omega arith) (search rules)

pub returns : goal.returns
returns c = read-ends _ _ _ _ _ c.loop-i.invariant (omega arith)
