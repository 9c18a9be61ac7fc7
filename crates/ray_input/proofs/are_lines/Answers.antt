-- `ray_input::are_lines` meets its contract.
use Rattle.std.proofs.Common.{rules, arith, ◌≡◌, ◌*◌}
use mathlib.Core.Path.{sym}
use Rattle.ray_input.specs.Format.{is_line}
use Rattle.ray_input.proofs.Reading.{each_none, each_more, each-stop}
use Rattle.ray_input.proofs.are_lines.Goals as goal

pub loop-k-init : goal.loop-k-init
loop-k-init c = each_none _

pub loop-k-preserved : goal.loop-k-preserved
loop-k-preserved c = each_more (λ k. is_line c.args.s.now (36 * k)) c.loop-k.k c.loop-k.invariant (search rules)

pub returns-then-not-is_line : goal.returns-then-not-is_line
returns-then-not-is_line c = sym (each-stop (λ k. is_line c.args.s.now (36 * k)) c.loop-k.k c.args.n c.loop-k-test.true (search rules))

pub returns : goal.returns
returns c =
    let end : c.loop-k.k ≡ c.args.n = omega arith in
    rw end at (sym c.loop-k.invariant)
