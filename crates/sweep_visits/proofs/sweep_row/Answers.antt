use Rattle.std.proofs.Common.{arith}
use Rattle.std.proofs.lemmas.Result.{err_from_is_err_and}
use Rattle.sweep_model.specs.Entries.{row_entries}
use Rattle.sweep_visits.proofs.Walks.{sweeping-start, sweeping-next, sweeping-halt, sweeping-all, ray-ready}
use Rattle.sweep_visits.proofs.sweep_row.Goals as goal

pub loop-u-init : goal.loop-u-init
loop-u-init c = sweeping-start _ _ _ c.requires.3

pub visit_ray-requires : goal.visit_ray-requires
visit_ray-requires c = (
  ray-ready c.requires.0 _ _ (omega (arith, c.loop-u-test.true, c.requires.1)) c.requires.2,
  c.loop-u.invariant.went.room,
)

pub returns-in_err-c : goal.returns-in_err-c
unfolding row_entries
returns-in_err-c c =
    let p = err_from_is_err_and c.from_residual.result c.from_residual.ensures.1 in
    rw (p.1, p.2) (sweeping-halt _ _ _ _ c.loop-u.invariant (omega (arith, c.loop-u-test.true)) c.in_err-c.ensures)

pub loop-u-preserved : goal.loop-u-preserved
loop-u-preserved c =
    sweeping-next _ _ _ _ c.loop-u.invariant (omega (arith, c.loop-u-test.true)) c.in_ok-c.ensures

pub returns-in_ok-c : goal.returns-in_ok-c
unfolding row_entries
returns-in_ok-c c =
    sweeping-all _ _ _ _
    (sweeping-next _ _ _ _ c.loop-u.invariant (omega (arith, c.loop-u-test.true)) c.in_ok-c.ensures) (omega arith)

pub returns : goal.returns
unfolding row_entries
returns c = sweeping-all _ _ _ _ c.loop-u.invariant (omega (arith, c.loop-u-test.false))
