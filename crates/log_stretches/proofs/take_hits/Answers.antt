-- The loop goes from stretch to stretch. What is gathered is made a sound list and taken, and each stretch but the last leaves fewer pairs
-- that begin past it.
use Rattle.logic.proofs.Bools.{not-true, not-false}
use Rattle.log_stretches.proofs.Stretching.{pairs-fall, roomy-front, reaches-on, reaches_end}
use Rattle.log_stretches.proofs.take_hits.Goals as goal

pub take_held-t-requires : goal.take_held-t-requires
take_held-t-requires c =
    let normal = c.normalize_front-m.ensures in
    (c.loop-h.invariant.readable, roomy-front c.gather-h.ensures.gathers.roomy normal)

pub loop-h-smaller : goal.loop-h-smaller
loop-h-smaller c =
    pairs-fall c.gather-h.ensures.gathers (not-false _ c.if-not-h-u.false-raw)

pub loop-h-preserved : goal.loop-h-preserved
loop-h-preserved c =
    let normal = c.normalize_front-m.ensures in
    reaches-on c.loop-h.invariant c.gather-h.ensures normal c.take_held-t.ensures

pub returns : goal.returns
returns c =
    let normal = c.normalize_front-m.ensures in
    reaches_end (reaches-on c.loop-h.invariant c.gather-h.ensures normal c.take_held-t.ensures)
    c.gather-h.ensures.gathers (not-true _ c.if-not-h-u.true-raw)
