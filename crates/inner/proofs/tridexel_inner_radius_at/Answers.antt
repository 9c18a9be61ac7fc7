-- `inner::tridexel_inner_radius_at` meets its contract.
use Rattle.inner.proofs.tridexel_inner_radius_at.Goals as goal

pub returns : goal.returns
returns c = simp (← c.slice_numbers.ensures, ← c.radius_at.ensures, ← c.named_shape.ensures)
