-- `ray_trace::first_holding` meets its contract.
use borrow.Author.Count.{below_more}
use native.Mathlib.Omega.{arith}
use mathlib.Core.Path.{◌≡◌, sym, ap, ◌∙◌}
use Rattle.log_model.specs.Logs.{entry_at}
use Rattle.log_model.specs.declared.Entry.{Entry}
use Rattle.log_model.specs.Steps.{hit_kind_of}
use Rattle.ray_trace.specs.Reasons.{hit_holds}
use Rattle.ray_trace.proofs.Searches.{entry_found, entries-passed}
use Rattle.ray_trace.proofs.first_holding.Goals as goal
use Rattle.ray_trace.proofs.first_holding.Goals.{After-hit_holds}

-- what the test says of the entry at place i
tested : (c : After-hit_holds) → hit_holds (hit_kind_of c.args.inner) (entry_at c.args.log.now c.loop-i.i) c.args.p ≡ c.hit_holds.result
tested c =
    sym (c.hit_holds.ensures ∙ ap (λ (e : Entry). hit_holds (hit_kind_of c.args.inner) e c.args.p) c.entry_at.ensures)

pub returns-then-hit_holds : goal.returns-then-hit_holds
returns-then-hit_holds c =
    entry_found (hit_kind_of c.args.inner) c.args.log.now c.args.p c.loop-i.i (omega arith) c.loop-i.invariant
    (tested (goal.at.returns-then-hit_holds c).After-hit_holds ∙ c.if-hit_holds.true)

pub loop-i-preserved : goal.loop-i-preserved
loop-i-preserved c = below_more _ _ c.loop-i.invariant (tested (goal.at.loop-i-preserved c).After-hit_holds ∙ c.if-hit_holds.false)

pub returns : goal.returns
returns c =
    entries-passed (hit_kind_of c.args.inner) c.args.log.now c.args.p (λ j h. c.loop-i.invariant j (omega arith))
