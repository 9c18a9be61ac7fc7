-- `doubles_sqrt::normalized` meets its contract: each turn of its loop moves two digits from half's power to m. Assumes nothing.
use mathlib.Core.Path.{◌≡◌}
use Prim.Native.Nat.{◌*◌, ◌^◌, ◌-◌, ◌<◌, ◌≤◌}
use Rattle.doubles_sqrt.proofs.normalized.Given as goal

abbrev pub invariant-loop-m : goal.invariant-loop-m
invariant-loop-m l =
    (l.m * (2 ^ l.half * 2 ^ l.half) ≡ l.initial.m * (2 ^ l.initial.half * 2 ^ l.initial.half))
    × (0 < l.m) × (l.m < 2 ^ 54) × (l.half ≤ l.initial.half)

abbrev pub decreases-loop-m : goal.decreases-loop-m
decreases-loop-m l = 2 ^ 52 - l.m
