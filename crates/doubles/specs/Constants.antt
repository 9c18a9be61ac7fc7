-- Doubles that definitions name: plus zero, 1, 2, 1e6 and 1e-6.
use Rattle.std.specs.Prelude.{from_bits, Float}
use Rattle.std.specs.Float.{binary64}

abbrev pub plus_zero : Float
plus_zero = from_bits binary64 0

abbrev pub one : Float
one = from_bits binary64 0x3ff0_0000_0000_0000

abbrev pub two : Float
two = from_bits binary64 0x4000_0000_0000_0000

abbrev pub million : Float
million = from_bits binary64 0x412e_8480_0000_0000

abbrev pub millionth : Float
millionth = from_bits binary64 0x3eb0_c6f7_a0b5_ed8d
