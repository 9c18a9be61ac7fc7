-- `ray_output::put_hex` meets its contract.
use Rattle.ray_output.proofs.Printing.{Hexing}
use Rattle.ray_output.proofs.put_hex.Given as goal

abbrev pub invariant-loop-k : goal.invariant-loop-k
invariant-loop-k l = Hexing l.initial.out l.at l.v l.k l.rest l.out
