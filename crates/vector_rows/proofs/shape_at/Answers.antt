-- `vector_rows::shape_at` meets its contract.
use Rattle.vector_rows.proofs.shape_at.Goals as goal

pub returns : goal.returns
returns c = cc
