-- Doubles by their bits.
use mathlib.Core.Path.{◌≡◌, sym, ap, ◌∙◌}
use mathlib.Core.Bool.{true}
use lib.Ieee.{Float, binary64, fits, to_bits, of_bits}
use lib.Ieee.Bits.{of_bits-to_bits}
use Rattle.doubles.proofs.Whole.{of-true}

-- two doubles with the same bits are the same
pub same_bits : (x y : Float) → fits binary64 x ≡ true → fits binary64 y ≡ true → to_bits binary64 x ≡ to_bits binary64 y → x ≡ y
same_bits x y p q e = sym (of_bits-to_bits binary64 x (of-true p)) ∙ ap (of_bits binary64) e ∙ of_bits-to_bits binary64 y (of-true q)
