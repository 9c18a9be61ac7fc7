use Rattle.std.proofs.Common.{arith}
use lib.Ieee.Casts.{to_unsigned-lt}
use Rattle.log_entries.proofs.Wholes.{castable}
use Rattle.log_entries.proofs.whole_number.Goals as goal

pub float_to_int-result : goal.float_to_int-result
float_to_int-result c = (castable c.args.x c.requires
    c.if-x.true c.if-x-2.true).0

pub overflow_cast-result : goal.overflow_cast-result
overflow_cast-result c = omega (arith, to_unsigned-lt 32 c.args.x)

pub returns-then-x-2 : goal.returns-then-x-2
returns-then-x-2 c = (castable c.args.x c.requires
    c.if-x.true c.if-x-2.true).1
