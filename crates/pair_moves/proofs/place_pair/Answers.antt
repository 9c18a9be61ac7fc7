-- `pair_moves::place_pair` meets its contract.
use native.Mathlib.Omega.{arith}
use lib.ListN.{length-set}
use Rattle.pair_moves.proofs.Laws.{aside-start, aside-step, aside-done}
use Rattle.pair_moves.proofs.place_pair.Goals as goal

pub loop-j-init : goal.loop-j-init
loop-j-init c = aside-start _ _ (omega arith)

pub bounds-s-j-in-loop-j-3 : goal.bounds-s-j-in-loop-j-3
bounds-s-j-in-loop-j-3 c = simp length-set (omega arith)

pub loop-j-preserved : goal.loop-j-preserved
loop-j-preserved c = aside-step _ _ _ _ _ _ (omega arith) (omega arith) c.loop-j.invariant

pub bounds-s-j-3 : goal.bounds-s-j-3
bounds-s-j-3 c = simp length-set (omega arith)

pub returns : goal.returns
returns c = aside-done _ _ _ _ _ _ c.loop-j.invariant
