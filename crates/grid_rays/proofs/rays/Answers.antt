-- `grid_rays::rays` meets its contract: the product is at most the count of all rays, so it fits. Assumes nothing.
use Rattle.std.proofs.Common.{◌≡◌, ◌*◌, arith}
use Rattle.grid.proofs.Numbering.{along-le}
use Rattle.grid.specs.Rays.{rays_along}
use Rattle.grid_rays.proofs.rays.Goals as goal

pub overflow_mul-result : goal.overflow_mul-result
unfolding rays_along
overflow_mul-result c =
    let e : c.cells_along.result * c.cells_along-2.result ≡ rays_along c.args.g c.args.axis =
    rw (← c.cross-w.ensures, c.cells_along.ensures, c.cells_along-2.ensures) in
    record { fits = omega (arith, along-le c.args.g c.args.axis, c.requires) }
