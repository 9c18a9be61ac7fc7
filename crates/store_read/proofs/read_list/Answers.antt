use mathlib.Core.Path.{◌∙◌}
use native.Mathlib.Omega.{arith}
use lib.ListN.{length-set}
use Rattle.store_read.proofs.Steps.{step}
use Rattle.store_read.proofs.ListLoops.{copy_step, list-length-step, copy-end}
use Rattle.store_read.proofs.read_list.Goals as goal

pub bounds-out-t : goal.bounds-out-t
bounds-out-t c = let l = list-length-step (step c.loop-k.invariant.0 c.loop-k-test.true) in
    omega (arith, c.loop-k.invariant.2, c.requires.1)

pub bounds-out-t-in-loop-k : goal.bounds-out-t-in-loop-k
bounds-out-t-in-loop-k c = let l = list-length-step (step c.loop-k.invariant.0 c.loop-k-test.true) in
    simp length-set (omega (arith, c.loop-k.invariant.2, c.requires.1))

pub loop-k-smaller : goal.loop-k-smaller
loop-k-smaller c = rw c.record_at-r.ensures (step c.loop-k.invariant.0 c.loop-k-test.true).less

pub loop-k-preserved : goal.loop-k-preserved
loop-k-preserved c =
    let inv = c.loop-k.invariant in
    let s = step inv.0 c.loop-k-test.true in (
      rw c.record_at-r.ensures s.next,
      simp length-set inv.1,
      rw c.record_at-r.ensures (omega (arith, inv.2, list-length-step s)),
      rw c.record_at-r.ensures (inv.3 ∙ copy_step s _ _),
    )

pub returns : goal.returns
returns c = copy-end _ _ _ _ _ _ _ _ _ c.loop-k-test.false c.requires.1
    c.loop-k.invariant.2 c.loop-k.invariant.3
