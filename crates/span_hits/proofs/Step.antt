-- Laws of `next_hit`: where two cells are left it is a test on them, and else it is the end.
use mathlib.Core.Path.{◌≡◌, refl, ap}
use mathlib.Core.Bool.{cond}
use mathlib.Core.List.{List, [], ◌∷◌}
use Prim.Native.Nat.{ℕ, ◌+◌, ◌-◌, ◌≤◌, ◌<◌}
use native.Mathlib.Omega.{arith}
use lib.ListN.{length, get_or, drop, length-drop}
use lib.Ieee.{Float, nan, lt}
use Rattle.spans.proofs.Points.{drop-pair}
use Rattle.std.specs.Prelude.{None}
use Rattle.span_hits.specs.Hits.{next_hit, found_as, pair}

-- two cells are left at place n
pub hit-step : (s : List Float) (n : ℕ) → 1 < length s - n
    → next_hit n (drop n s) ≡ cond (lt (get_or s n nan) (get_or s (n + 1) nan))
    (found_as (pair (get_or s n nan) (get_or s (n + 1) nan)) (n + 2)) (next_hit (n + 2) (drop (n + 2) s))
unfolding next_hit
hit-step s n h = ap (next_hit n) (drop-pair s n (omega arith))

short : (s : List Float) (n : ℕ) → length s ≤ 1 → next_hit n s ≡ found_as None n
unfolding next_hit
short [] n h = refl
short (x ∷ []) n h = refl
short (x ∷ y ∷ s) n h = absurd (omega arith)

pub hit-end : (s : List Float) (n : ℕ) → length s - n ≤ 1 → next_hit n (drop n s) ≡ found_as None n
hit-end s n h = short (drop n s) n (simp length-drop (omega arith))
