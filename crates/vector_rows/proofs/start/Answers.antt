-- `vector_rows::start` meets its contract.
use Rattle.vector_rows.specs.RowCounts.{none}
use mathlib.Core.Path.{refl}
use Rattle.vector_rows.proofs.start.Goals as goal

pub returns : goal.returns
unfolding none
returns c = refl
