use Prim.Native.Nat.{◌≤◌, ◌<◌, ◌-◌}
use mathlib.Core.Path.{◌≡◌}
use Rattle.store.specs.Store.{free_from}
use Rattle.store_write.proofs.next_free.Given as goal

abbrev pub invariant-loop-at : goal.invariant-loop-at
invariant-loop-at l = (l.from ≤ l.at) × (l.at < l.n)
    × (free_from l.spans l.links l.from (l.n - l.from) ≡ free_from l.spans l.links l.at (l.n - l.at))

abbrev pub decreases-loop-at : goal.decreases-loop-at
decreases-loop-at l = l.n - l.at
