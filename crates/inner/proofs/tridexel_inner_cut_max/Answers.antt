-- `inner::tridexel_inner_cut_max` meets its contract.
use Rattle.inner.proofs.tridexel_inner_cut_max.Goals as goal

pub returns : goal.returns
returns c = simp (← c.radius_numbers.ensures, ← c.cut_max.ensures, ← c.named_shape.ensures)
