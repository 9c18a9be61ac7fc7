-- `ray_subtract::cut_at` meets its contract.
use native.Mathlib.Omega.{arith}
use Rattle.ray_subtract.proofs.Sweeping.{cutting-size, pair-in, cutting-last}
use Rattle.ray_subtract.proofs.Sweeping.{cutting-end, cutting-step}
use Rattle.ray_subtract.proofs.cut_at.Goals as goal
use Rattle.ray_subtract.proofs.cut_at.Goals.{else-loop-j-test, then-loop-j-test+then-hi-x}

pub bounds-w-at-in-loop-j : goal.bounds-w-at-in-loop-j
bounds-w-at-in-loop-j c =
    omega (
      arith,
      pair-in c.requires.0 c.requires.1 c.requires.2 c.loop-j.invariant c.loop-j-test.true,
      cutting-size c.requires.0 c.requires.1 c.requires.2 c.loop-j.invariant,
      c.requires.0,
    )

pub returns-then-hi-y : goal.returns-then-hi-y
returns-then-hi-y c =
    cutting-end c.requires.0 c.requires.1 c.requires.2 c.loop-j.invariant _ _ c.loop-j-test.true
    c.if-hi-x.false c.put_pair-end.ensures c.if-hi-y.true

pub loop-j-preserved : goal.loop-j-preserved
loop-j-preserved c =
    rw c.higher-lo.ensures
    (cutting-step c.requires.0 c.requires.1 c.requires.2 c.loop-j.invariant _ _ c.loop-j-test.true
    c.if-hi-x.false c.put_pair-end.ensures c.if-hi-y.false)

pub returns : goal.returns
returns c =
    cutting-last c.requires.0 c.requires.1 c.requires.2 c.loop-j.invariant _ _ c.put_pair-end-2.ensures
    (elim c.loop-j-test.branch [
      | else-loop-j-test w ↦ λ g. absurd (omega (arith, w.loop-j-test.false))
      | then-loop-j-test+then-hi-x w ↦ λ g. w.if-hi-x.true
    ])
