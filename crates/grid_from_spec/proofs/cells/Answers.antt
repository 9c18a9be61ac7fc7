-- `grid_from_spec::cells` meets its contract. Assumes nothing.
use Rattle.grid.specs.FromSpec.{cell_count}
use Rattle.grid_from_spec.proofs.cells.Goals as goal

pub returns : goal.returns
unfolding cell_count
returns c = simp (← c.larger.ensures, ← c.ceil.ensures)
