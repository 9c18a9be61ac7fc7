-- `vector_rows::cutter_at` meets its contract.
use Rattle.vector_rows.proofs.cutter_at.Goals as goal

pub returns : goal.returns
returns c = cc
