-- `log_numbers::put_number` meets its contract.
use mathlib.Core.Path.{ap}
use lib.ListN.{set}
use Rattle.log_numbers.proofs.put_number.Goals as goal

pub returns : goal.returns
returns c = ap (set c.args.w.now c.args.at) c.of_bits.ensures
