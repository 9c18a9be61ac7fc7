-- The loop's invariant: of the hit's points those are taken that lie before `from`. The measure falls with each record, and where the walk
-- comes to the hit's end.
use Rattle.std.proofs.Common.{inl, inr}
use Rattle.logic.proofs.Bools.{not-true, not-false}
use Rattle.log_left.proofs.Walking.{cut-readable, cut-less, taking-starts, taking-on, taking-ends}
use Rattle.log_left.proofs.take.Goals as goal

pub loop-t-init : goal.loop-t-init
loop-t-init c = let e = c.pass-t.ensures in (e.readable, λ l s up. taking-starts _ _ _ e.readable up e.beyond)

pub loop-t-smaller : goal.loop-t-smaller
loop-t-smaller c =
    let reaches = not-false _ c.if-not-t-hi.false-raw in
    cut-less _ _ _ _ c.loop-t.invariant.0 c.loop-t-test.true reaches c.cut_pair-t.ensures

pub loop-t-preserved : goal.loop-t-preserved
loop-t-preserved c =
    let inv = c.loop-t.invariant in
    let cut = c.cut_pair-t.ensures in
    let reaches = not-false _ c.if-not-t-hi.false-raw in (
      cut-readable _ _ _ _ inv.0 c.loop-t-test.true cut,
      λ l s up w. taking-on _ _ _ _ inv.0 c.loop-t-test.true up reaches cut (inv.1 l s up w),
    )

pub returns-after-loop-t : goal.returns-after-loop-t
returns-after-loop-t c =
    let inv = c.loop-t.invariant in
    let passed = c.pass-t.ensures.walked in
    record {
      readable = inv.0;
      walked = λ l s last h up w. taking-ends _ _ _ inv.0 up (inl c.loop-t-test.false) (inv.1 l s up (passed l s last h w));
    }

pub returns-then-not-t-hi : goal.returns-then-not-t-hi
returns-then-not-t-hi c =
    let inv = c.loop-t.invariant in
    let passed = c.pass-t.ensures.walked in
    let end = inr (not-true _ c.if-not-t-hi.true-raw) in
    record {
      readable = inv.0;
      walked = λ l s last h up w. taking-ends _ _ _ inv.0 up end (inv.1 l s up (passed l s last h w));
    }
