-- `ray_trace::trace` meets its contract.
use mathlib.Core.Path.{sym}
use Rattle.logic.proofs.Bools.{clash}
use Rattle.ray_trace.specs.Trace.{TracePre}
use Rattle.ray_trace.proofs.Answers.{part-over, bad-ray, good, nan-place, no-cause-due}
use Rattle.ray_trace.proofs.trace.Goals as goal
use Rattle.ray_trace.proofs.trace.Goals.{Else-not-valid_ray, then-not-is_whole_log-via-then-not-is_whole_log}
use Rattle.ray_trace.proofs.trace.Goals.{then-not-is_whole_log-via-else-not-is_whole_log+then-not-valid_ray}

-- whole entries and a valid ray
accepted : (c : Else-not-valid_ray) → TracePre c.args.lo c.args.hi c.args.possible.now c.args.certain.now c.args.log.now
accepted c =
    good c.args.lo c.args.hi c.args.possible.now c.args.certain.now c.args.log.now c.args.place
    (sym c.if-not-is_whole_log.ensures) (c.valid_ray.ensures.0 c.if-not-valid_ray.false)

pub returns-then-not-is_whole_log : goal.returns-then-not-is_whole_log
returns-then-not-is_whole_log c = elim c.then-not-is_whole_log.branch [
  | then-not-is_whole_log-via-then-not-is_whole_log w ↦
      part-over c.args.lo c.args.hi c.args.possible.now c.args.certain.now c.args.log.now c.args.place (sym w.if-not-is_whole_log.ensures)
  | then-not-is_whole_log-via-else-not-is_whole_log+then-not-valid_ray w ↦
      bad-ray c.args.lo c.args.hi c.args.possible.now c.args.certain.now c.args.log.now c.args.place
      (λ r. clash w.valid_ray.result (w.valid_ray.ensures.1 r) w.if-not-valid_ray.true)
]

pub returns-then-is_nan : goal.returns-then-is_nan
returns-then-is_nan c =
    nan-place c.args.lo c.args.hi c.args.possible.now c.args.certain.now c.args.log.now c.args.place
    (accepted (goal.at.returns-then-is_nan c).Else-not-valid_ray) (sym c.if-is_nan.ensures.value)

pub returns : goal.returns
returns c =
    let pre = accepted (goal.at.returns c).Else-not-valid_ray in (
      no-cause-due c.args.lo c.args.hi c.args.possible.now c.args.certain.now c.args.log.now c.args.place pre
          (sym c.if-is_nan.ensures.value),
      record { ray = pre.ray; reason_true = c.reason_of.ensures },
    )
