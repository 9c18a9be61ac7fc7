use mathlib.Core.Path.{sym, ◌∙◌}
use native.Mathlib.Omega.{arith}
use Rattle.store_read.proofs.Steps.{step}
use Rattle.store_read.proofs.ListLoops.{is-few, is-other-lo, is-other-hi, is_same, is-end}
use Rattle.store_read.proofs.list_is.Goals as goal
use Rattle.store_read.proofs.list_is.Goals.{then-r-pairs-via-then-r-pairs, then-r-pairs-via-else-r-pairs+then-r-pairs-2}

pub returns-then-pairs-t-lt2 : goal.returns-then-pairs-t-lt2
returns-then-pairs-t-lt2 c = sym (c.loop-k.invariant.2
    ∙ is-few c.args.pairs.now c.loop-k.t
    (step c.loop-k.invariant.0 c.loop-k-test.true) c.if-pairs-t-lt2.true)

pub returns-then-r-pairs : goal.returns-then-r-pairs
returns-then-r-pairs c =
    let s = step c.loop-k.invariant.0 c.loop-k-test.true in
    sym (c.loop-k.invariant.2 ∙ (elim c.then-r-pairs.branch [
      | then-r-pairs-via-then-r-pairs w ↦ is-other-lo c.args.pairs.now c.loop-k.t s c.if-pairs-t-lt2.false
          (rw c.record_at-r.ensures at w.if-r-pairs.true)
      | then-r-pairs-via-else-r-pairs+then-r-pairs-2 w ↦ is-other-hi c.args.pairs.now c.loop-k.t s c.if-pairs-t-lt2.false
          (rw c.record_at-r.ensures at w.if-r-pairs-2.true)
    ]))

pub loop-k-smaller : goal.loop-k-smaller
loop-k-smaller c = rw c.record_at-r.ensures (step c.loop-k.invariant.0
    c.loop-k-test.true).less

pub loop-k-preserved : goal.loop-k-preserved
loop-k-preserved c =
    let inv = c.loop-k.invariant in
    let s = step inv.0 c.loop-k-test.true in
    rw c.record_at-r.ensures (
      s.next,
      omega arith,
      inv.2 ∙ is_same c.args.pairs.now c.loop-k.t s c.if-pairs-t-lt2.false
          (rw c.record_at-r.ensures at c.if-r-pairs.false) (rw c.record_at-r.ensures at c.if-r-pairs-2.false),
    )

pub returns : goal.returns
returns c = sym (c.loop-k.invariant.2 ∙ is-end _ _ _ _ _ _ c.loop-k-test.false c.loop-k.invariant.1)
