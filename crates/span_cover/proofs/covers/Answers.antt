-- `span_cover::covers` meets its contract.
use native.Mathlib.Omega.{arith}
use Rattle.spans.proofs.Sets.{sound-mod}
use Rattle.span_cover.proofs.Walks.{cover-start, cover-done, cover_on, cover-pair, escapes}
use Rattle.span_cover.proofs.covers.Goals as goal

pub loop-k-init : goal.loop-k-init
loop-k-init c = cover-start _ _

pub returns-then-outer-j : goal.returns-then-outer-j
returns-then-outer-j c =
    escapes _ _ _ _ c.requires.0 c.requires.1 c.loop-k.invariant c.loop-k-test.true
    (λ g. absurd (omega (arith, c.if-outer-j.true)))

pub bounds-outer-j : goal.bounds-outer-j
bounds-outer-j c =
    omega (arith, sound-mod c.args.outer.now c.requires.0, c.loop-k.invariant.j_whole)

pub bounds-inner-k : goal.bounds-inner-k
bounds-inner-k c =
    omega (arith, sound-mod c.args.inner.now c.requires.1, c.loop-k.invariant.k_whole)

pub loop-k-preserved-then-outer-j-2 : goal.loop-k-preserved-then-outer-j-2
loop-k-preserved-then-outer-j-2 c =
    cover_on _ _ _ _ c.requires.0 c.requires.1 c.loop-k.invariant
    c.loop-k-test.true (omega (arith, c.if-outer-j.false))
    c.if-outer-j-2.true

pub returns-then-inner-k : goal.returns-then-inner-k
returns-then-inner-k c =
    escapes _ _ _ _ c.requires.0 c.requires.1 c.loop-k.invariant
    c.loop-k-test.true (λ g. c.if-inner-k.true)

pub returns-then-inner-k-2 : goal.returns-then-inner-k-2
returns-then-inner-k-2 c =
    cover-done _ _ _ _ (cover-pair _ _ _ _ c.requires.0 c.requires.1 c.loop-k.invariant
    c.loop-k-test.true
    (omega (arith, c.if-outer-j.false))
    c.if-outer-j-2.false c.if-inner-k.false) c.if-inner-k-2.true

pub bounds-outer-j-else-outer-j-2-2 : goal.bounds-outer-j-else-outer-j-2-2
bounds-outer-j-else-outer-j-2-2 c =
    omega (
      arith,
      sound-mod c.args.outer.now c.requires.0,
      c.loop-k.invariant.j_whole,
      c.if-outer-j.false,
    )

pub bounds-inner-k-else-outer-j-2-2 : goal.bounds-inner-k-else-outer-j-2-2
bounds-inner-k-else-outer-j-2-2 c =
    omega (arith, sound-mod c.args.inner.now c.requires.1, c.loop-k.invariant.k_whole, c.if-inner-k-2.false)

pub loop-k-preserved-then-outer-j-3 : goal.loop-k-preserved-then-outer-j-3
loop-k-preserved-then-outer-j-3 c =
    cover_on _ _ _ _ c.requires.0 c.requires.1
    (cover-pair _ _ _ _ c.requires.0 c.requires.1 c.loop-k.invariant
    c.loop-k-test.true
    (omega (arith, c.if-outer-j.false))
    c.if-outer-j-2.false c.if-inner-k.false)
    (omega (arith, c.if-inner-k-2.false)) (omega (arith, c.if-outer-j.false)) c.if-outer-j-3.true

pub loop-k-preserved : goal.loop-k-preserved
loop-k-preserved c =
    cover-pair _ _ _ _ c.requires.0 c.requires.1 c.loop-k.invariant
    c.loop-k-test.true
    (omega (arith, c.if-outer-j.false))
    c.if-outer-j-2.false c.if-inner-k.false

pub returns : goal.returns
returns c = cover-done _ _ _ _ c.loop-k.invariant c.loop-k-test.false
