-- `spans::copy_to` meets its contract.
use Rattle.spans.proofs.Loops.{Copying}
use Rattle.spans.proofs.copy_to.Given as goal

abbrev pub invariant-loop-k : goal.invariant-loop-k
invariant-loop-k l = Copying l.s l.initial.w l.at l.k l.w
