use Prim.Native.Nat.{◌-◌, ◌≤◌}
use mathlib.Core.Path.{◌≡◌}
use lib.ListN.{length}
use Rattle.grid.specs.Rays.{ray_count}
use Rattle.log_count.specs.Totals.{Prefixed}
use Rattle.store.specs.Store.{cells}
use Rattle.log_budget.proofs.count_all.Given as goal

abbrev pub invariant-loop-first : goal.invariant-loop-first
invariant-loop-first l =
    (l.first ≤ ray_count l.g) × (l.t.changed ≤ l.allowance) × (length l.keys ≡ length l.initial.keys)
    × (length l.buffer ≡ length l.initial.buffer)
    × Prefixed l.spec l.g (cells l.spans l.links l.heads) l.log l.first l.t

abbrev pub decreases-loop-first : goal.decreases-loop-first
decreases-loop-first l =
    ray_count l.g - l.first
