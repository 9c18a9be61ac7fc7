use mathlib.Core.Path.{◌≡◌}
use Rattle.stock_fill.specs.Uncut.{uncut_heads}
use Rattle.stock_fill.proofs.fill_heads.Given as goal

abbrev pub invariant-loop-j : goal.invariant-loop-j
invariant-loop-j l = (l.heads ≡ uncut_heads l.j l.initial.heads)
