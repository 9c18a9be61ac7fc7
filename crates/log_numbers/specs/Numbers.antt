-- A whole number kept in a cell of a buffer of doubles.
use Rattle.std.specs.Prelude.{List, ℕ, get_or, Float}
use Rattle.std.specs.Float.{nan, binary64}
use Rattle.std.specs.Float.Ieee.{of_bits, to_bits}

-- the double that stands for k: the one whose bits are k. Zero is plus zero.
abbrev pub number_cell : ℕ → Float
number_cell k = of_bits binary64 k

-- the number in the cell at `at`
abbrev pub number_at : List Float → ℕ → ℕ
number_at w at = to_bits binary64 (get_or w at nan)

-- the largest number that a cell can hold: the bits above it are those of a NaN or have the sign
abbrev pub largest_number : ℕ
largest_number = 0x7ff0_0000_0000_0000
