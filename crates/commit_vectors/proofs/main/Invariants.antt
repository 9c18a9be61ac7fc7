-- `commit_vectors::main` ends: each row leaves fewer.
use Rattle.std.proofs.Common.{◌≡◌, length}
use Rattle.commit_vectors.proofs.main.Given as goal

abbrev pub invariant-loop-r : goal.invariant-loop-r
invariant-loop-r l = length l.w ≡ 170

abbrev pub decreases-loop-r : goal.decreases-loop-r
decreases-loop-r l = l.r.left
