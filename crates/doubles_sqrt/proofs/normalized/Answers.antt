-- `doubles_sqrt::normalized` meets its contract: each turn of its loop moves two digits from half's power to m. Assumes nothing.
use mathlib.Core.Path.{refl, ◌∙◌}
use Prim.Native.Nat.{◌<◌}
use native.Mathlib.Nat.{le_refl, le_trans}
use native.Mathlib.Omega.{arith}
use lib.Dec.{lit≤}
use Rattle.doubles_sqrt.proofs.Scale.{moved, left_over}
use Rattle.doubles_sqrt.proofs.normalized.Goals as goal
use Rattle.doubles_sqrt.proofs.normalized.Goals.{In-loop-m}

half-left : (c : In-loop-m) → 0 < c.loop-m.half
half-left c =
    let a = c.args.a in
    let pre = c.requires in
    left_over c.loop-m.m c.loop-m.half a.m a.half c.loop-m.invariant.0 pre.m_positive
    (le_trans (lit≤ tt) pre.half_least) c.loop-m-test.true

pub loop-m-init : goal.loop-m-init
loop-m-init c = (refl, c.requires.m_positive, c.requires.m_bound, le_refl c.args.a.half)

pub overflow_mul-m : goal.overflow_mul-m
overflow_mul-m c = omega arith

pub overflow_sub-half : goal.overflow_sub-half
overflow_sub-half c = half-left c

pub loop-m-smaller : goal.loop-m-smaller
loop-m-smaller c = omega arith

pub loop-m-preserved : goal.loop-m-preserved
loop-m-preserved c = (
  moved c.loop-m.m c.loop-m.half (half-left c) ∙ c.loop-m.invariant.0,
  omega arith,
  omega arith,
  omega arith,
)

pub returns : goal.returns
returns c =
    record { is = c.loop-m.invariant.0; large = c.loop-m-test.false; small = c.loop-m.invariant.2; most = c.loop-m.invariant.3 }
