-- `ray_input::are_lines` meets its contract.
use mathlib.Core.Path.{◌≡◌}
use mathlib.Core.Bool.{true}
use Rattle.ray_input.specs.Format.{lines}
use Rattle.ray_input.proofs.are_lines.Given as goal

abbrev pub invariant-loop-k : goal.invariant-loop-k
invariant-loop-k l = lines l.s l.k ≡ true
