-- `inner::tridexel_inner_cut_radius` meets its contract.
use Rattle.inner.proofs.tridexel_inner_cut_radius.Goals as goal

pub returns : goal.returns
returns c = simp (← c.cut_radius.ensures, ← c.named_shape.ensures)
