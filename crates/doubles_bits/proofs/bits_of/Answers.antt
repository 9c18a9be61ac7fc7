-- `doubles_bits::bits_of` meets its contract: what `to_bits` writes for the NaN is the code's constant. Assumes nothing.
use Rattle.std.proofs.Common.{◌≡◌, refl, sym, ap, ◌∙◌}
use lib.Ieee.{nan, binary64, to_bits}
use Rattle.doubles.proofs.Order.{nan-only}
use Rattle.doubles_bits.proofs.bits_of.Goals as goal

nan-bits : 0x7ff8_0000_0000_0000 ≡ to_bits binary64 nan
unfolding to_bits
nan-bits = refl

pub returns-then-is_nan : goal.returns-then-is_nan
returns-then-is_nan c = nan-bits ∙ ap (to_bits binary64) (nan-only c.args.x (sym c.is_nan.ensures.value ∙ c.if-is_nan.true))
