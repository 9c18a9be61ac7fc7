-- `ray_input::put_line_of` meets its contract.
use mathlib.Core.Path.{subst}
use mathlib.Core.List.{List}
use lib.Ieee.{Float}
use Rattle.ray_input.specs.Steps.{Appended}
use Rattle.ray_input.proofs.Reading.{pair-miss, pair-hit}
use Rattle.ray_input.proofs.Writing.{put-none}
use Rattle.ray_input.proofs.put_line_of.Goals as goal

pub returns-then-s-at : goal.returns-then-s-at
returns-then-s-at c =
    subst (λ (l : List Float). Appended c.args.out.now c.args.m l c.args.out.now c.args.m)
    (pair-miss c.args.s.now c.args.at c.args.c c.if-s-at.true)
    (put-none c.args.out.now c.args.m c.requires.1)

pub put_pair-requires : goal.put_pair-requires
put_pair-requires c = c.requires.2 c.if-s-at.false

pub returns : goal.returns
returns c =
    subst (λ (l : List Float). Appended c.args.out.now c.args.m l c.put_pair.new.out c.put_pair.result)
    (pair-hit c.args.s.now c.args.at c.args.c c.double_at-lo.result
    c.double_at-hi.result c.if-s-at.false
    c.double_at-lo.ensures c.double_at-hi.ensures)
    c.put_pair.ensures
