-- `grid_from_spec::dims` meets its contract. Assumes nothing.
use Rattle.grid_from_spec.proofs.dims.Goals as goal

pub returns : goal.returns
returns c = rw (c.cells.ensures, c.cells-2.ensures, c.cells-3.ensures)
