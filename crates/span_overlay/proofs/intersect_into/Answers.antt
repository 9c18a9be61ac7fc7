-- `span_overlay::intersect_into` meets its contract.
use native.Mathlib.Omega.{arith}
use mathlib.Core.Logic.{inl, inr}
use Rattle.spans.proofs.Sets.{sound-mod}
use Rattle.span_overlay.proofs.Common.{Turned, share-start, share-turn, share-done}
use Rattle.span_overlay.proofs.intersect_into.Goals as goal
use Rattle.span_overlay.proofs.intersect_into.Goals.{After-put_pair-n}

turn : (c : After-put_pair-n) → Turned c.args.a.now c.args.b.now c.args.out.now c.loop-i.i c.loop-i.j c.put_pair-n.result c.put_pair-n.new.b
turn c =
    share-turn _ _ _ _ _ _ _ _ _ c.requires.0 c.requires.1 c.loop-i.invariant c.loop-i-test.true
    c.if-j-b.true
    (rw (c.larger-lo.ensures, c.smaller.ensures) at c.put_pair-n.ensures)

pub loop-i-init : goal.loop-i-init
loop-i-init c = share-start _ _ _

pub bounds-a-i-in-loop-i : goal.bounds-a-i-in-loop-i
bounds-a-i-in-loop-i c =
    omega (arith, sound-mod c.args.a.now c.requires.0, c.loop-i.invariant.places.i_whole)

pub bounds-b-j-in-loop-i : goal.bounds-b-j-in-loop-i
bounds-b-j-in-loop-i c =
    omega (arith, sound-mod c.args.b.now c.requires.1, c.loop-i.invariant.places.j_whole)

pub loop-i-preserved-then-x-y : goal.loop-i-preserved-then-x-y
loop-i-preserved-then-x-y c = (turn (goal.at.loop-i-preserved-then-x-y c).After-put_pair-n).first c.if-x-y.true

pub loop-i-preserved : goal.loop-i-preserved
loop-i-preserved c = (turn (goal.at.loop-i-preserved c).After-put_pair-n).second c.if-x-y.false

pub returns-after-loop-i : goal.returns-after-loop-i
returns-after-loop-i c =
    share-done _ _ _ _ _ _ _ (inl c.loop-i-test.false) c.loop-i.invariant

pub returns-else-j-b : goal.returns-else-j-b
returns-else-j-b c =
    share-done _ _ _ _ _ _ _ (inr c.if-j-b.false) c.loop-i.invariant
