-- `span_overlay::cut_pair` meets its contract.
use native.Mathlib.Omega.{arith}
use Rattle.spans.proofs.Sets.{sound-mod}
use Rattle.span_overlay.proofs.Cutting.{cut-start, cut-last, cut-end, cut_step}
use Rattle.span_overlay.proofs.cut_pair.Goals as goal
use Rattle.span_overlay.proofs.cut_pair.Goals.{else-loop-j-test, then-loop-j-test+then-hi-x}

pub loop-j-init : goal.loop-j-init
loop-j-init c = cut-start _ _ _ _ _ c.requires

pub bounds-rest-j-in-loop-j : goal.bounds-rest-j-in-loop-j
bounds-rest-j-in-loop-j c =
    omega (arith, sound-mod c.args.rest.now c.requires.rest_sound, c.loop-j.invariant.whole)

pub returns-then-hi-y : goal.returns-then-hi-y
returns-then-hi-y c =
    cut-end _ _ _ _ _ _ _ _ _ _ _ c.requires c.loop-j.invariant
    c.loop-j-test.true
    c.if-hi-x.false c.put_pair-end.ensures
    c.if-hi-y.true

pub loop-j-preserved : goal.loop-j-preserved
loop-j-preserved c =
    rw c.higher-lo.ensures (cut_step _ _ _ _ _ _ _ _ _ _ _ c.requires c.loop-j.invariant
    c.loop-j-test.true
    c.if-hi-x.false
    c.put_pair-end.ensures c.if-hi-y.false)

pub returns : goal.returns
returns c =
    cut-last _ _ _ _ _ _ _ _ _ _ _ c.requires c.loop-j.invariant c.put_pair-end-2.ensures
    (elim c.loop-j-test.branch [
      | else-loop-j-test w ↦ λ g. absurd (omega (arith, w.loop-j-test.false))
      | then-loop-j-test+then-hi-x w ↦ λ g. w.if-hi-x.true
    ])
