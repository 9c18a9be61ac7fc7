-- `span_cover::meets` meets its contract.
use native.Mathlib.Omega.{arith}
use mathlib.Core.Logic.{inl, inr}
use Rattle.spans.proofs.Sets.{sound-mod}
use Rattle.span_cover.proofs.Walks.{avoid-start, avoid-done, avoid-a, avoid-b, share-point}
use Rattle.span_cover.proofs.meets.Goals as goal

pub loop-i-init : goal.loop-i-init
loop-i-init c = avoid-start _ _

pub returns-else-j-b : goal.returns-else-j-b
returns-else-j-b c = avoid-done _ _ _ _ c.loop-i.invariant (inr c.if-j-b.false)

pub bounds-a-i : goal.bounds-a-i
bounds-a-i c =
    omega (arith, sound-mod c.args.a.now c.requires.0, c.loop-i.invariant.i_whole)

pub loop-i-preserved-then-a-i : goal.loop-i-preserved-then-a-i
loop-i-preserved-then-a-i c =
    avoid-a _ _ _ _ c.requires.0 c.requires.1 c.loop-i.invariant
    c.loop-i-test.true c.if-j-b.true
    c.if-a-i.true

pub bounds-b-j-else-a-i : goal.bounds-b-j-else-a-i
bounds-b-j-else-a-i c =
    omega (arith, sound-mod c.args.b.now c.requires.1, c.loop-i.invariant.j_whole)

pub returns-then-a-i-2 : goal.returns-then-a-i-2
returns-then-a-i-2 c =
    share-point _ _ _ _ c.requires.0 c.requires.1 c.loop-i.invariant
    c.loop-i-test.true
    c.if-j-b.true
    c.if-a-i.false c.if-a-i-2.true

pub loop-i-preserved : goal.loop-i-preserved
loop-i-preserved c =
    avoid-b _ _ _ _ c.requires.0 c.requires.1 c.loop-i.invariant
    c.loop-i-test.true
    c.if-j-b.true c.if-a-i-2.false

pub returns-after-loop-i : goal.returns-after-loop-i
returns-after-loop-i c = avoid-done _ _ _ _ c.loop-i.invariant (inl c.loop-i-test.false)
