-- `log_lay::lay_if_changed` meets its contract: the first size tells whether the ray has updates, and both sizes
-- where its lists stand.
use native.Mathlib.Omega.{arith}
use mathlib.Core.Path.{refl}
use Prim.Native.Nat.{◌+◌, ◌-◌, ◌*◌, ◌≤◌}
use lib.ListN.{length}
use Rattle.log_lay.proofs.Turns.{laid_same, lists-room, ray-layable, laid-new}
use Rattle.log_lay.proofs.lay_if_changed.Goals as goal
use Rattle.log_lay.proofs.lay_if_changed.Goals.{After-number_at-second}

-- the two lists lie in the work buffer
room : (c : After-number_at-second)
    → c.args.place.at + 2 * (c.number_at-first.result - 1) + 2 * c.number_at-second.result ≤ length c.args.work.now
room c = lists-room _ _ _ _ _ _ c.requires _
    c.number_at-first.ensures c.if-first-eq0.false _ c.number_at-second.ensures

pub returns-then-first-eq0 : goal.returns-then-first-eq0
returns-then-first-eq0 c = laid_same _ _ _ _ _ _ c.requires _ c.number_at-first.ensures c.if-first-eq0.true

pub overflow_mul-middle : goal.overflow_mul-middle
overflow_mul-middle c = omega (arith, room c)

pub overflow_add-middle : goal.overflow_add-middle
overflow_add-middle c = omega (arith, room c)

pub overflow_mul-end : goal.overflow_mul-end
overflow_mul-end c = omega (arith, room c)

pub overflow_add-end : goal.overflow_add-end
overflow_add-end c = omega (arith, room c)

pub lay_ray-from-requires : goal.lay_ray-from-requires
lay_ray-from-requires c = (
  room (goal.at.lay_ray-from-requires c).After-number_at-second,
  c.requires.cursor,
  ray-layable _ _ _ _ _ _ c.requires _
      c.number_at-first.ensures c.if-first-eq0.false _
      c.number_at-second.ensures,
)

pub returns : goal.returns
returns c = laid-new _ _ _ _ _ _
    c.requires _
    c.number_at-first.ensures c.if-first-eq0.false _
    c.number_at-second.ensures _ _
    c.lay_ray-from.ensures refl
