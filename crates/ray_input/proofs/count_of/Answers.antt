-- `ray_input::count_of` meets its contract.
use mathlib.Core.Path.{◌≡◌, sym, ◌∙◌}
use Rattle.ray_input.proofs.Reading.{count_none, count-hit, count-miss, count_most}
use native.Mathlib.Omega.{arith}
use Rattle.ray_input.proofs.count_of.Goals as goal
use Rattle.ray_input.proofs.count_of.Goals.{then-s-k, else-s-k}

pub loop-k-init : goal.loop-k-init
loop-k-init c = sym (count_none c.args.c c.args.s.now)

pub overflow_add-m : goal.overflow_add-m
overflow_add-m c =
    omega (arith, count_most c.args.c c.args.s.now c.loop-k.k)

pub loop-k-preserved : goal.loop-k-preserved
loop-k-preserved c =
    elim c.if-s-k.branch [
      | then-s-k w ↦ w.m-is ∙ omega (arith, count-hit c.args.c c.args.s.now c.loop-k.k w.if-s-k.true)
      | else-s-k w ↦ w.m-is ∙ omega (arith, count-miss c.args.c c.args.s.now c.loop-k.k w.if-s-k.false)
    ]

pub returns : goal.returns
returns c =
    let end : c.loop-k.k ≡ c.args.n = omega arith in
    rw end at c.loop-k.invariant
