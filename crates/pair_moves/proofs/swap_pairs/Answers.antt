-- `pair_moves::swap_pairs` meets its contract.
use native.Mathlib.Omega.{arith}
use lib.ListN.{length-set}
use Rattle.pair_moves.proofs.Laws.{swapped}
use Rattle.pair_moves.proofs.swap_pairs.Goals as goal

pub bounds-s-i-4 : goal.bounds-s-i-4
bounds-s-i-4 c = simp length-set (omega arith)

pub bounds-s-j-3 : goal.bounds-s-j-3
bounds-s-j-3 c = simp length-set (omega arith)

pub bounds-s-j-4 : goal.bounds-s-j-4
bounds-s-j-4 c = simp length-set (omega arith)

pub returns : goal.returns
returns c = swapped _ _ _ (omega arith) (omega arith)
