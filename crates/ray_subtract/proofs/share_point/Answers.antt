-- `ray_subtract::share_point` meets its contract.
use mathlib.Core.Path.{◌≡◌, ap}
use mathlib.Core.List.{List}
use Prim.Native.Nat.{ℕ, ◌+◌, ◌-◌}
use lib.ListN.{take, drop}
use lib.Ieee.{Float}
use Rattle.span_cover.specs.Cover.{Meets}
use Rattle.ray_subtract.specs.Steps.{cells_from}
use Rattle.ray_subtract.proofs.Sparing.{meets-moves}
use native.Mathlib.Omega.{arith}
use Rattle.ray_subtract.proofs.share_point.Goals as goal

one : (a n : ℕ) (w : List Float) → take (a + n - a) (drop a w) ≡ cells_from a n w
one a n w = ap (λ (k : ℕ). take k (drop a w)) (back a n)
  where
    back : (a n : ℕ) → a + n - a ≡ n
    back a n = omega arith

pub returns : goal.returns
returns c =
    let met : Meets (cells_from c.args.a c.args.n c.args.w.now) (cells_from c.args.b c.args.m c.args.w.now) c.meets.result =
    rw (one c.args.a c.args.n c.args.w.now, one c.args.b c.args.m c.args.w.now) at c.meets.ensures in
    meets-moves _ _ c.requires.0.is_sound c.requires.1.is_sound c.meets.result met
