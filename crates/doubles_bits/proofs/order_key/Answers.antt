-- `doubles_bits::order_key` meets its contract: the bits of what is no NaN are a 64-bit number. Assumes nothing.
use Rattle.std.proofs.Common.{arith}
use lib.Ieee.{binary64}
use lib.Ieee.Bits.{to_bits-lt}
use Rattle.logic.proofs.Bools.{of-true}
use Rattle.doubles_bits.proofs.order_key.Goals as goal

pub overflow_sub-result : goal.overflow_sub-result
overflow_sub-result c = omega (arith, to_bits-lt binary64 c.args.x (of-true c.well_formed.0.1))
