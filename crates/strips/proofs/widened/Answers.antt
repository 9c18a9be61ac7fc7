use Rattle.std.specs.Float.Ieee.{div, neg, of_bits}
use Rattle.strips.specs.Polygon.{widen}
use Rattle.strips.proofs.widened.Goals as goal

pub returns : goal.returns
unfolding widen div neg of_bits
returns c = simp (c.smaller.ensures, c.larger.ensures, c.unwrap_or-before.ensures)
