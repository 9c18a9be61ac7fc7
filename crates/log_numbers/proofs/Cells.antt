-- What stands in a cell after a number is written.
use mathlib.Core.Path.{◌≡◌, sym, ap, ◌∙◌}
use mathlib.Core.List.{List}
use Prim.Native.Nat.{ℕ, ◌*◌, ◌≤◌, ◌<◌}
use native.Mathlib.Nat.{mod-eq_of_lt}
use native.Mathlib.Omega.{arith}
use lib.Dec.{ltb}
use lib.ListN.{length, get_or, set}
use lib.Ieee.{Float, nan, binary64, of_bits, to_bits}
use lib.Seq.{get_or-set_same}
use lib.Ieee.Bits.{to_bits-of_bits, nan_bits_is, nan_bits_above}
use borrow.Author.Tests.{le-ltb}
use Rattle.logic.proofs.Bools.{of-false}
use Rattle.log_numbers.specs.Numbers.{number_cell, number_at, largest_number}

-- a number comes back as it was put
pub number-back : (k : ℕ) → k ≤ largest_number → to_bits binary64 (number_cell k) ≡ k
number-back k h = to_bits-of_bits binary64 k (in-range k h)
    (of-false (sym (nan_bits_is binary64 k) ∙ nan_bits_above binary64 k
    ∙ ap (ltb largest_number) (mod-eq_of_lt (no_sign k h)) ∙ le-ltb largest_number k h))
  where
    no_sign : (k : ℕ) → k ≤ 0x7ff0_0000_0000_0000 → k < 0x8000_0000_0000_0000
    no_sign k h = omega arith

    in-range : (k : ℕ) → k ≤ 0x7ff0_0000_0000_0000 → k < 2 * 0x8000_0000_0000_0000
    in-range k h = omega arith

module _ (w : List Float) (at k : ℕ) where
  -- the cell that was written
  pub number_put : at < length w → k ≤ largest_number → number_at (set w at (number_cell k)) at ≡ k
  number_put h l = ap (to_bits binary64) (get_or-set_same w at (number_cell k) nan h) ∙ number-back k l

-- a cell of plus zero holds zero
pub number-zero : to_bits binary64 (of_bits binary64 0) ≡ 0
number-zero = number-back 0 (omega arith)

-- the same cell in two buffers
pub number_same : (w v : List Float) (i : ℕ) → get_or w i nan ≡ get_or v i nan → number_at w i ≡ number_at v i
number_same w v i e = ap (to_bits binary64) e
