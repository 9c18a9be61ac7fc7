-- The first i commits are run before each turn.
use Rattle.commit_run.proofs.Turns.{RunTo}
use Rattle.stock.specs.Stock.{stock}
use Rattle.commit_run.proofs.run_logs.Given as goal

abbrev pub invariant-loop-i : goal.invariant-loop-i
invariant-loop-i l =
    RunTo l.spec l.units (stock l.initial.spans l.initial.links l.initial.heads l.initial.left.generation l.initial.left.intervals)
    l.logs l.ends l.allowances l.initial.work l.initial.answers l.i (stock l.spans l.links l.heads l.left.generation l.left.intervals)
    l.at l.work l.answers
