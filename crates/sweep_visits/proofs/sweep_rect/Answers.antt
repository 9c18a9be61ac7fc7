use Rattle.std.proofs.Common.{arith}
use Rattle.std.proofs.lemmas.Result.{err_from_is_err_and}
use Rattle.sweep_model.specs.Entries.{rect_entries}
use Rattle.sweep_visits.proofs.Walks.{sweeping-start, sweeping-next, sweeping-halt, sweeping-all}
use Rattle.sweep_visits.proofs.sweep_rect.Goals as goal

pub loop-v-init : goal.loop-v-init
loop-v-init c = sweeping-start _ _ _ c.requires.3

pub sweep_row-requires : goal.sweep_row-requires
sweep_row-requires c = (
  c.requires.0,
  c.requires.1,
  omega (arith, c.loop-v-test.true, c.requires.2),
  c.loop-v.invariant.went.room,
)

pub returns-in_err-c : goal.returns-in_err-c
unfolding rect_entries
returns-in_err-c c =
    let p = err_from_is_err_and c.from_residual.result c.from_residual.ensures.1 in
    rw (p.1, p.2) (sweeping-halt _ _ _ _ c.loop-v.invariant (omega (arith, c.loop-v-test.true)) c.in_err-c.ensures)

pub loop-v-preserved : goal.loop-v-preserved
loop-v-preserved c =
    sweeping-next _ _ _ _ c.loop-v.invariant (omega (arith, c.loop-v-test.true)) c.in_ok-c.ensures

pub returns-in_ok-c : goal.returns-in_ok-c
unfolding rect_entries
returns-in_ok-c c =
    sweeping-all _ _ _ _
    (sweeping-next _ _ _ _ c.loop-v.invariant (omega (arith, c.loop-v-test.true)) c.in_ok-c.ensures) (omega arith)

pub returns : goal.returns
unfolding rect_entries
returns c = sweeping-all _ _ _ _ c.loop-v.invariant (omega (arith, c.loop-v-test.false))
