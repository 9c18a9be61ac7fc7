-- `inner::tridexel_inner_cut_min` meets its contract.
use Rattle.inner.proofs.tridexel_inner_cut_min.Goals as goal

pub returns : goal.returns
returns c = simp (← c.radius_numbers.ensures, ← c.cut_min.ensures, ← c.named_shape.ensures)
