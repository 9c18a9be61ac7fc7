use Rattle.std.proofs.Common.{◌+◌, Bool, cond, sym, ap, ◌∙◌}
use lib.Ieee.{binary64, le, of_bits}
use Rattle.log_entries.specs.Named.{before_axis}
use Rattle.log_entries.proofs.rays_before.Goals as goal
use Rattle.log_entries.proofs.rays_before.Goals.{then-axis, else-axis}

pub returns-then-axis-2 : goal.returns-then-axis-2
unfolding before_axis
returns-then-axis-2 c =
    let one = cond (le (of_bits binary64 0x3ff0_0000_0000_0000) c.args.axis) c.args.first 0 in
    sym (ap (λ (b : Bool). cond b (c.args.first + c.args.second) one) c.if-axis-2.true)

pub returns-else-axis-2 : goal.returns-else-axis-2
unfolding before_axis
returns-else-axis-2 c =
    let one = cond (le (of_bits binary64 0x3ff0_0000_0000_0000) c.args.axis) c.args.first 0 in
    elim c.if-axis.branch [
      | then-axis w ↦ w.n-is ∙ sym (ap (λ (b : Bool). cond b c.args.first 0) w.if-axis.true)
      | else-axis w ↦ w.n-is ∙ sym (ap (λ (b : Bool). cond b c.args.first 0) w.if-axis.false)
    ]
    ∙ sym (ap (λ (b : Bool). cond b (c.args.first + c.args.second) one) c.if-axis-2.false)
