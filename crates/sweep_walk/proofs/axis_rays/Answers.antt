use Rattle.sweep_walk.proofs.AxisRays.{axis-rays-is}
use Rattle.sweep_walk.proofs.axis_rays.Goals as goal

pub returns : goal.returns
returns c = axis-rays-is c.args.g c.args.axis
    c.cross-w.result c.ray_offset.result
    c.cells_along.result c.cells_along-2.result c.cross-w.ensures
    c.ray_offset.ensures c.cells_along.ensures c.cells_along-2.ensures
