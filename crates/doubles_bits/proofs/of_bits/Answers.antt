-- `doubles_bits::of_bits` meets its contract: a pattern is a NaN's where, without its sign, it is above an infinity's
-- (`nan_bits_above`). Assumes nothing.
use mathlib.Core.Path.{sym, ◌∙◌}
use lib.Ieee.{binary64, of_bits}
use lib.Ieee.Bits.{nan_bits_is, nan_bits_above}
use borrow.Author.Tests.{lt-ltb, le-ltb}
use Rattle.logic.proofs.Bools.{of-false}
use Rattle.doubles.proofs.Order.{nan-only, nan-pattern}
use Rattle.doubles_bits.proofs.of_bits.Goals as goal

pub returns-then-bits-gt9218868437227405312 : goal.returns-then-bits-gt9218868437227405312
returns-then-bits-gt9218868437227405312 c =
    let b = c.args.bits in
    nan-pattern ∙ nan-only (of_bits binary64 b) (sym (nan_bits_is binary64 b)
    ∙ nan_bits_above binary64 b ∙ lt-ltb _ _ c.if-bits-gt9218868437227405312.true)

pub float_from_bits-result : goal.float_from_bits-result
float_from_bits-result c =
    let b = c.args.bits in
    of-false (nan_bits_above binary64 b ∙ le-ltb _ _ c.if-bits-gt9218868437227405312.false)
