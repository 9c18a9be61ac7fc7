-- `spans::copy_to` meets its contract.
use native.Mathlib.Omega.{arith}
use Rattle.spans.proofs.Loops.{copy_start, copy_step}
use Rattle.spans.proofs.copy_to.Goals as goal

pub loop-k-init : goal.loop-k-init
loop-k-init c = copy_start c.args.s.now c.args.w.now c.args.at

pub loop-k-preserved : goal.loop-k-preserved
loop-k-preserved c =
    copy_step c.args.s.now c.args.w.now c.args.at c.loop-k.k c.loop-k.w c.loop-k-test.true c.requires c.loop-k.invariant

pub returns : goal.returns
returns c = record { size = c.loop-k.invariant.size; cells = λ q h. c.loop-k.invariant.cells q (omega arith) }
