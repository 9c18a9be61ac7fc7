use mathlib.Core.Path.{◌≡◌}
use Prim.Native.Nat.{ℕ, ◌/◌, ◌≤◌, ◌<◌}
use lib.ListN.{get_or}
use Rattle.log_budget.proofs.end_of_ray.Given as goal

-- the keys from i to just before j are of one ray
abbrev pub invariant-loop-j : goal.invariant-loop-j
invariant-loop-j l = (t : ℕ) → l.i ≤ t → t < l.j → get_or l.keys t 0 / l.n ≡ get_or l.keys l.i 0 / l.n
