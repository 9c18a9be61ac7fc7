-- `grid_vectors::answer` asks only about an accepted grid, which has the facts of its description. Assumes nothing.
use mathlib.Core.Path.{sym}
use Rattle.grid.proofs.Facts.{grid-facts}
use Rattle.grid_vectors.proofs.answer.Goals as goal

pub asked-requires : goal.asked-requires
asked-requires c = grid-facts _ _ _ (sym c.in-Ok.ensures.is)
