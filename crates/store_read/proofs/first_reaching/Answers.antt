use mathlib.Core.Path.{sym, ◌∙◌}
use Rattle.store_read.proofs.Steps.{step}
use Rattle.store_read.proofs.RayLoops.{reach_here, reach-later, reach-none}
use Rattle.store_read.proofs.first_reaching.Goals as goal

pub returns-then-not-r-x : goal.returns-then-not-r-x
returns-then-not-r-x c =
    let inv = c.loop-k.invariant in
    record {
      rest = reach_here _ (step inv.0 c.loop-k-test.true) (rw c.record_at-r.ensures at c.if-not-r-x.true)
          ∙ sym inv.1;
      readable = inv.0;
    }

pub loop-k-smaller : goal.loop-k-smaller
loop-k-smaller c = rw c.record_at-r.ensures (step c.loop-k.invariant.0 c.loop-k-test.true).less

pub loop-k-preserved : goal.loop-k-preserved
loop-k-preserved c =
    let inv = c.loop-k.invariant in
    let s = step inv.0 c.loop-k-test.true in
    rw c.record_at-r.ensures
    (s.next, inv.1 ∙ reach-later _ s (rw c.record_at-r.ensures at c.if-not-r-x.false))

pub returns : goal.returns
returns c = record {
  rest = reach-none _ _ _ _ _ c.loop-k-test.false ∙ sym c.loop-k.invariant.1;
  readable = c.loop-k.invariant.0;
}
