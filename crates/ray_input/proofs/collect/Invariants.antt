-- `ray_input::collect` meets its contract.
use Rattle.ray_input.specs.Format.{text_pairs}
use Rattle.ray_input.specs.Steps.{Appended}
use Rattle.ray_input.proofs.collect.Given as goal

abbrev pub invariant-loop-k : goal.invariant-loop-k
invariant-loop-k l = Appended l.initial.out 0 (text_pairs l.c l.s l.k) l.out l.m
