-- `log_group::gather_hits` meets its contract.
use native.Mathlib.Omega.{arith}
use mathlib.Core.Path.{ap}
use lib.ListN.{length, length-set}
use Rattle.log_model.specs.Steps.{hit_kind_of}
use Rattle.log_group.proofs.Gathering.{Turn, turn, gathers, gathered, again}
use Rattle.log_group.proofs.gather_hits.Goals as goal
use Rattle.log_group.proofs.gather_hits.Goals.{In-loop-k}

turned-at : (c : In-loop-k)
    → Turn c.total_rays-rays.result c.args.log.now
    (hit_kind_of c.args.inner) c.args.ray c.args.at c.args.work.now c.loop-k.work c.loop-k.t c.loop-k.k
turned-at c =
    turn c.total_rays-rays.result c.args.log.now (hit_kind_of c.args.inner) c.args.ray c.args.at c.args.work.now
    c.loop-k.work c.loop-k.t c.loop-k.k c.loop-k-test.true c.loop-k.invariant

pub loop-k-init : goal.loop-k-init
loop-k-init c =
    gathers c.args.g c.args.log.now c.args.work.now c.requires.0 c.args.ray c.requires.1 c.total_rays-rays.result
    c.total_rays-rays.ensures (hit_kind_of c.args.inner) c.args.at c.requires.3 c.requires.2
    c.number_at-k.result c.number_at-k.ensures

pub entry_at-requires : goal.entry_at-requires
entry_at-requires c = (turned-at c).below

pub put_hit-requires : goal.put_hit-requires
put_hit-requires c =
    omega (arith, (turned-at (goal.at.put_hit-requires c).In-loop-k).room, c.loop-k.invariant.size)

pub overflow_add-rays : goal.overflow_add-rays
overflow_add-rays c =
    let t = turned-at (goal.at.overflow_add-rays c).In-loop-k in
    omega (arith, t.below, c.loop-k.invariant.past, t.room)

pub number_at-k-requires-in-loop-k : goal.number_at-k-requires-in-loop-k
number_at-k-requires-in-loop-k c =
    let t = turned-at (goal.at.number_at-k-requires-in-loop-k c).In-loop-k in
    let inv = c.loop-k.invariant in
    omega (arith, t.below, inv.past, t.room, inv.size, simp length-set at (ap length c.put_hit.ensures))

pub overflow_add-t : goal.overflow_add-t
overflow_add-t c = omega (arith, (turned-at (goal.at.overflow_add-t c).In-loop-k).room)

pub loop-k-smaller : goal.loop-k-smaller
loop-k-smaller c = omega (arith, (turned-at (goal.at.loop-k-smaller c).In-loop-k).room)

pub loop-k-preserved : goal.loop-k-preserved
loop-k-preserved c =
    again c.total_rays-rays.result c.args.log.now (hit_kind_of c.args.inner) c.args.ray c.args.at c.args.work.now
    c.loop-k.work c.loop-k.t c.loop-k.k c.entry_at.result c.put_hit.new.work
    c.number_at-k-in-loop-k.result c.entry_at.ensures c.put_hit.ensures c.number_at-k-in-loop-k.ensures
    (turned-at (goal.at.loop-k-preserved c).In-loop-k).again

pub returns : goal.returns
returns c =
    gathered c.args.g c.args.log.now c.args.work.now c.requires.0 c.args.ray c.requires.1 c.total_rays-rays.result
    c.total_rays-rays.ensures (hit_kind_of c.args.inner) c.args.at
    c.loop-k.work c.loop-k.t c.loop-k.k c.loop-k-test.false c.loop-k.invariant
