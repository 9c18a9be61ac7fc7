-- `span_join::gather` meets its contract.
use Rattle.std.proofs.Common.{refl, arith}
use Rattle.span_hits.proofs.Reading.{read-hit, read-end}
use Rattle.span_join.proofs.Passes.{gather-start, gather-step, gather-done}
use Rattle.span_join.proofs.gather.Goals as goal

pub loop-hit-init : goal.loop-hit-init
loop-hit-init c =
    let e = c.into_iter-hit-iterator.ensures.into_iter_gives in
    let new = c.new-hit-items.ensures in
    rw (e, new.0, new.1) (refl, gather-start _ _ _)

pub put_pair-m-requires : goal.put_pair-m-requires
put_pair-m-requires c =
    let s = c.loop-hit.invariant.1 in
    let f = rw c.loop-hit.invariant.0 at (read-hit _ _ _ c.next.ensures.steps _ c.in-Some.is) in
    omega (arith, f.past, f.inside, s.size, s.most, s.room, c.requires)

pub loop-hit-preserved : goal.loop-hit-preserved
loop-hit-preserved c =
    let f = rw c.loop-hit.invariant.0 at (read-hit _ _ _ c.next.ensures.steps _ c.in-Some.is) in (
      rw c.next.ensures.steps.0 c.loop-hit.invariant.0,
      gather-step _ _ _ _ _ _ _ _ _ _ _ c.loop-hit.invariant.1 f c.put_pair-m.ensures,
    )

pub returns : goal.returns
returns c =
    gather-done _ _ _ _ _ _ c.requires c.loop-hit.invariant.1
    (rw c.loop-hit.invariant.0 at (read-end _ _ _ c.next.ensures.steps c.in-None.is))
