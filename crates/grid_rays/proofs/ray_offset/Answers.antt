-- `grid_rays::ray_offset` meets its contract: what it adds up is at most the count of all rays. Assumes nothing.
use Rattle.std.proofs.Common.{arith}
use Rattle.grid.proofs.Numbering.{total-is}
use Rattle.grid_rays.proofs.ray_offset.Goals as goal

pub overflow_add-result : goal.overflow_add-result
overflow_add-result c =
    record { fits = omega (arith, total-is c.args.g, c.requires, c.rays-in_default.ensures, c.rays-in_default-2.ensures) }
