-- `inner::tridexel_inner_stadium_strip` meets its contract.
use Rattle.inner.proofs.tridexel_inner_stadium_strip.Goals as goal

pub returns : goal.returns
returns c = simp (← c.strip_numbers.ensures, ← c.stadium_strip.ensures)
