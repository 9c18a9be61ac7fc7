-- `enum_codes::shape_of` meets its contract: each number gives the shape of its branch.
use Rattle.std.proofs.Common.{rules}
use Rattle.enum_codes.specs.Codes.{shape_of}
use Rattle.doubles.proofs.Order.{nan-pattern}
use Rattle.enum_codes.proofs.shape_of.Goals as goal

pub returns-then-axis-gt5 : goal.returns-then-axis-gt5
unfolding shape_of
returns-then-axis-gt5 c = rw nan-pattern (search rules)
