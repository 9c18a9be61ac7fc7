-- `doubles::ceil` meets its contract: the ceiling is the floor of -x, negated (`ceil-is`). Assumes nothing.
use Rattle.std.proofs.Common.{ap, ◌∙◌}
use lib.Ieee.{neg}
use Rattle.doubles.proofs.Whole.{ceil-is}
use Rattle.doubles.proofs.ceil.Goals as goal

pub returns : goal.returns
returns c = ap neg c.floor.ensures ∙ ceil-is c.args.x
