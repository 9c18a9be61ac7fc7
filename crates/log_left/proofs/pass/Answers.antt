-- The loop's invariant: the pairs that were closed end at or before lo. The measure is what is left of the chain.
use Rattle.logic.proofs.Bools.{not-false}
use Rattle.store_read.proofs.Steps.{step}
use Rattle.log_left.proofs.Walking.{walked-later, closes}
use Rattle.log_left.proofs.pass.Goals as goal

pub loop-t-init : goal.loop-t-init
loop-t-init c = (c.requires, λ l s last. walked-later last c.args.lo)

pub loop-t-smaller : goal.loop-t-smaller
loop-t-smaller c =
    rw c.close_pair-t.ensures.at_is (step c.loop-t.invariant.0 c.loop-t-test.true).less

pub loop-t-preserved : goal.loop-t-preserved
loop-t-preserved c =
    let inv = c.loop-t.invariant in
    let closed = c.close_pair-t.ensures in
    let lo = c.args.lo in
    let below = not-false _ (rw c.record_at-present.ensures at c.if-not-present-lo.false-raw) in (
      rw closed.at_is (step inv.0 c.loop-t-test.true).next,
      λ l s last h w. closes lo c.loop-t.t c.close_pair-t.result inv.0 c.loop-t-test.true below closed (inv.1 l s last h w),
    )
