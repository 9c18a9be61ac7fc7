-- `doubles_bits::total_cmp` meets its contract: std's order of the two keys is that of `total_of`. Assumes nothing.
use Rattle.std.proofs.Common.{◌∙◌}
use Rattle.doubles.proofs.Total.{cmp-is}
use Rattle.doubles_bits.proofs.total_cmp.Goals as goal

pub returns : goal.returns
returns c = rw (← c.order_key.ensures, ← c.order_key-2.ensures) (c.cmp.ensures ∙ cmp-is c.order_key.result c.order_key-2.result)
