-- `vector_rows::spec_at` meets its contract.
use Rattle.vector_rows.proofs.spec_at.Goals as goal

pub returns : goal.returns
returns c = cc
