-- `inner::tridexel_inner_polygon_strip` meets its contract.
use Rattle.inner.proofs.tridexel_inner_polygon_strip.Goals as goal

pub returns : goal.returns
returns c = simp (← c.strip_numbers.ensures, ← c.polygon_strip.ensures)
