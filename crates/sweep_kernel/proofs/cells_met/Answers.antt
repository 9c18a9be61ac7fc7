use Rattle.grid.proofs.Facts.{cells-positive}
use Rattle.sweep_kernel.proofs.cells_met.Goals as goal

pub cell_at-requires : goal.cell_at-requires
cell_at-requires c = cells-positive _ _ c.requires _

pub cell_at-requires-2 : goal.cell_at-requires-2
cell_at-requires-2 c = cells-positive _ _ c.requires _
