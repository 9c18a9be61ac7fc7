-- `ray_input::count_of` meets its contract.
use mathlib.Core.Path.{◌≡◌}
use Rattle.ray_input.specs.Format.{count}
use Rattle.ray_input.proofs.count_of.Given as goal

abbrev pub invariant-loop-k : goal.invariant-loop-k
invariant-loop-k l = l.m ≡ count l.c l.s l.k
