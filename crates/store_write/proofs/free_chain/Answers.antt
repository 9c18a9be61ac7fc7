use mathlib.Core.Path.{sym, ◌∙◌}
use lib.ListN.{length-set}
use Rattle.store.proofs.Freeing.{turn, freed-end}
use Rattle.store_write.proofs.free_chain.Goals as goal

pub loop-k-smaller : goal.loop-k-smaller
loop-k-smaller c = rw c.put_record.ensures.1 (turn c.loop-k.spans _ _ _ _ c.loop-k.invariant.2 c.loop-k-test.true).less

pub loop-k-preserved : goal.loop-k-preserved
loop-k-preserved c =
    let t = turn c.loop-k.spans _ _ _ _ c.loop-k.invariant.2 c.loop-k-test.true in
    rw (c.put_record.ensures.0, c.put_record.ensures.1) (
      simp length-set c.loop-k.invariant.0,
      simp length-set c.loop-k.invariant.1,
      t.chain,
      c.loop-k.invariant.3 ∙ t.spans_left,
      c.loop-k.invariant.4 ∙ t.links_left,
    )

pub returns : goal.returns
returns c = let e = freed-end c.loop-k.spans c.loop-k.links c.args.n
    c.loop-k.k c.loop-k-test.false in
    (sym (c.loop-k.invariant.3 ∙ e.0), sym (c.loop-k.invariant.4 ∙ e.1))
