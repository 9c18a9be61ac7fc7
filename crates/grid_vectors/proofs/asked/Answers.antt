-- `grid_vectors::asked` meets what the functions over a grid ask, by the facts of an accepted grid. Assumes nothing.
use Rattle.grid.specs.Axes.{cross_of}
use Rattle.grid.proofs.Facts.{cells-positive}
use Rattle.grid_vectors.proofs.asked.Goals as goal

pub ray_center-c-requires : goal.ray_center-c-requires
ray_center-c-requires c = cells-positive c.args.spec c.args.g c.requires (cross_of c.args.axis).u

pub cell_at-requires : goal.cell_at-requires
cell_at-requires c = cells-positive c.args.spec c.args.g c.requires c.args.axis
