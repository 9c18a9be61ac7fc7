use mathlib.Core.Path.{sym, ◌∙◌}
use borrow.Author.Tests.{lt-ltb, le-ltb, eq-eqb, ne_eqb}
use Rattle.store.proofs.Walking.{walk_end, walk-full, walk_step}
use Rattle.store.proofs.walk_chain.Goals as goal

pub returns-then-limit-c : goal.returns-then-limit-c
returns-then-limit-c c = sym (c.loop-k.invariant ∙ walk-full _ _ _ _ _ _ c.if-limit-c.true c.loop-k-test.true)

pub returns-then-n-i : goal.returns-then-n-i
returns-then-n-i c = sym (c.loop-k.invariant
    ∙ walk_step _ _ _ _ _ _ c.if-limit-c.false c.loop-k-test.true ∙ simp (le-ltb _ _ c.if-n-i.true))

pub returns-then-links-i : goal.returns-then-links-i
returns-then-links-i c = sym (c.loop-k.invariant
    ∙ walk_step _ _ _ _ _ _ c.if-limit-c.false
    c.loop-k-test.true
    ∙ simp (lt-ltb _ _ c.if-n-i.false, ne_eqb _ _ c.if-links-i.true))

pub loop-k-preserved : goal.loop-k-preserved
loop-k-preserved c = c.loop-k.invariant
    ∙ walk_step _ _ _ _ _ _ c.if-limit-c.false
    c.loop-k-test.true
    ∙ simp (lt-ltb _ _ c.if-n-i.false, eq-eqb _ _ c.if-links-i.false)

pub returns : goal.returns
returns c = sym (c.loop-k.invariant ∙ walk_end _ _ _ 0 _ _ _ c.loop-k-test.false)
