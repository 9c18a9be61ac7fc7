-- `grid_rays::ray_number` meets its contract. Assumes nothing.
use Rattle.std.proofs.Common.{arith}
use Rattle.grid.proofs.Numbering.{offset-le}
use Rattle.grid_rays.proofs.ray_number.Goals as goal

pub overflow_add-result : goal.overflow_add-result
overflow_add-result c =
    record { fits = omega (arith, offset-le c.args.g c.args.axis, c.requires.0, c.requires.1, c.ray_offset.ensures) }
