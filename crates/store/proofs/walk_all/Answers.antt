use mathlib.Core.Path.{sym, ◌∙◌}
use Rattle.store.proofs.Walking.{all-broken, all-next, all_end}
use Rattle.store.proofs.walk_all.Goals as goal

pub returns-in_err-c : goal.returns-in_err-c
returns-in_err-c c = c.from_residual.ensures ∙ sym (c.loop-j.invariant
    ∙ all-broken _ _ _ _ _ _ _ c.loop-j-test.true (sym c.walk_chain.ensures ∙ c.in_err-c.was))

pub loop-j-preserved : goal.loop-j-preserved
loop-j-preserved c = c.loop-j.invariant
    ∙ all-next _ _ _ _ _ _ _ _ c.loop-j-test.true (sym c.walk_chain.ensures ∙ c.in_ok-c.was)

pub returns : goal.returns
returns c = sym (c.loop-j.invariant ∙ all_end _ _ _ _ _ _ _ c.loop-j-test.false)
