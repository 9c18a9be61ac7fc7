-- `enum_codes::named_shape` meets its contract: each number gives the shape of its branch.
use Rattle.std.proofs.Common.{rules}
use Rattle.enum_codes.specs.Codes.{named_shape}
use Rattle.doubles.proofs.Order.{nan-pattern}
use Rattle.enum_codes.proofs.named_shape.Goals as goal

pub returns-in_default : goal.returns-in_default
unfolding named_shape
returns-in_default c = rw nan-pattern (search rules)
