-- Where the pair brings nothing all stays; else it moves the front, or is put into the cells once there is room.
use Rattle.logic.proofs.Bools.{not-true, not-false}
use Rattle.log_gather.proofs.Pairs.{puts_none, puts-below, puts-beyond, puts-front, puts-cells}
use Rattle.log_gather.proofs.put.Goals as goal
use Rattle.log_gather.proofs.put.Goals.{then-not-lo-hi-via-then-not-lo-hi, then-not-lo-hi-via-else-not-lo-hi+then-hi-h}

pub returns-then-not-lo-hi : goal.returns-then-not-lo-hi
returns-then-not-lo-hi c = elim c.then-not-lo-hi.branch [
  | then-not-lo-hi-via-then-not-lo-hi w ↦ puts_none c.requires.1 (not-true _ w.if-not-lo-hi.true-raw)
  | then-not-lo-hi-via-else-not-lo-hi+then-hi-h w ↦ puts-below c.requires.1 w.if-hi-h.true
]

pub returns-then-not-b-lo : goal.returns-then-not-b-lo
returns-then-not-b-lo c =
    let rises = not-false _ c.if-not-lo-hi.false-raw in
    puts-front c.requires.1 rises c.if-hi-h.false (not-true _ c.if-not-b-lo.true-raw)

pub returns-then-not-lo-h : goal.returns-then-not-lo-h
returns-then-not-lo-h c = puts-beyond c.requires.1 (not-true _ c.if-not-lo-h.true-raw)

pub returns : goal.returns
returns c =
    puts-cells c.make_room-w.ensures (not-false _ c.if-not-b-lo.false-raw)
