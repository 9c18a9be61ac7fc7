use mathlib.Core.Path.{ap}
use native.Mathlib.Omega.{arith}
use lib.ListN.{length}
use Rattle.store.proofs.Chains.{less-step, places-within}
use Rattle.store_read.proofs.Steps.{link-step, link-next}
use Rattle.store_read.proofs.list_pairs.Goals as goal

pub overflow_add-c : goal.overflow_add-c
overflow_add-c c = omega (
  arith,
  c.loop-k.invariant.1,
  less-step _ _ _ _ c.loop-k.invariant.0.chain c.loop-k-test.true,
  places-within c.args.links.now c.args.n
      c.args.head,
  c.loop-k.invariant.0.in_links,
)

pub loop-k-smaller : goal.loop-k-smaller
loop-k-smaller c = less-step _ _ _ _ c.loop-k.invariant.0.chain c.loop-k-test.true

pub loop-k-preserved : goal.loop-k-preserved
loop-k-preserved c = let inv = c.loop-k.invariant in let more = c.loop-k-test.true in
    (link-next inv.0 more, omega (arith, inv.1, ap length (link-step inv.0 more).read))
