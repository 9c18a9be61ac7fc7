-- `grid_from_spec::grid_with` meets its contract. Assumes nothing.
use Rattle.grid_from_spec.proofs.grid_with.Goals as goal

pub returns : goal.returns
returns c =
    rw (c.to_u64-3.ensures, c.to_u64-2.ensures, c.to_u64.ensures)
