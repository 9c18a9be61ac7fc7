-- `change_list::check_change` meets its contract: each test that fails names a field of `Good` that does not hold;
-- past all tests all fields hold.
use Rattle.std.proofs.Common.{arith, refl, false}
use Rattle.logic.proofs.Bools.{clash}
use Rattle.grid.specs.Axes.{world_axis}
use Rattle.grid.proofs.Numbering.{number_lt}
use Rattle.change_list.proofs.ListTests.{bad-due}
use Rattle.change_list.proofs.check_change.Goals as goal

pub returns-then-not-fits : goal.returns-then-not-fits
returns-then-not-fits c = bad-due _ (λ k. clash false (c.if-not-fits.ensures.1
    (let w = k.within in omega (arith, c.requires.1.whole, c.requires.1.even))) refl)

pub returns-then-not-names_ray_from : goal.returns-then-not-names_ray_from
returns-then-not-names_ray_from c = bad-due _ (λ k. clash false (c.if-not-names_ray_from.ensures.1 k.names) refl)

pub check_removal_at-good-requires : goal.check_removal_at-good-requires
check_removal_at-good-requires c = (
  c.requires.0,
  rw c.ray_named-ray.ensures
      (number_lt c.args.g (world_axis c.args.h.axis) c.args.h.index (c.if-not-names_ray_from.ensures.0 refl).below),
  omega (arith, c.if-not-fits.ensures.0 refl, c.requires.1.whole, c.requires.1.even),
)

pub returns-then-not-good : goal.returns-then-not-good
returns-then-not-good c = bad-due _ (λ k. clash false (c.if-not-good.ensures.1 (rw c.ray_named-ray.ensures k.allowed)) refl)

pub past-requires : goal.past-requires
past-requires c =
    let below = number_lt c.args.g (world_axis c.args.h.axis) c.args.h.index (c.if-not-names_ray_from.ensures.0 refl).below in (
      omega (arith, c.if-not-fits.ensures.0 refl, c.requires.1.whole, c.requires.1.even),
      c.requires.1.sums,
      omega (arith, below, c.ray_named-ray.ensures, c.requires.0.room.in_heads),
    )
