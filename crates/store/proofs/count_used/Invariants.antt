use Prim.Native.Nat.{◌≤◌}
use mathlib.Core.Path.{◌≡◌}
use Rattle.store.specs.Store.{used_at}
use Rattle.logic.specs.Logic.{count_to}
use Rattle.store.proofs.count_used.Given as goal

abbrev pub invariant-loop-i : goal.invariant-loop-i
invariant-loop-i l = (l.c ≤ l.i) × (l.c ≡ count_to (used_at l.spans l.links) l.i)
