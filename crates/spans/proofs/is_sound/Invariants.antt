-- `spans::is_sound` meets its contract.
use Prim.Native.Nat.{◌<◌}
use mathlib.Core.Path.{◌≡◌}
use lib.ListN.{take}
use Rattle.spans.specs.Spans.{rising}
use Rattle.spans.proofs.is_sound.Given as goal

abbrev pub invariant-loop-k : goal.invariant-loop-k
invariant-loop-k l = (0 < l.k) × (l.ok ≡ rising (take l.k l.s))
