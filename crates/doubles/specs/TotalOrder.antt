-- The total order of IEEE 754-2019.
use Rattle.std.specs.Prelude.{ℕ, ◌+◌, ◌-◌, ◌^◌, Bool, true, false, cond, is_nan, nat_lt, to_bits, Float}
use Rattle.std.specs.Float.{binary64}
use Rattle.std.specs.declared.cmp.Ordering.{Ordering}
use Rattle.std.specs.declared.cmp.Ordering.TheVariants.{Less, Equal, Greater}

-- The `total_cmp` order: Rust compares the bits as signed numbers, all but the sign flipped where the sign is set.
-- This is that number, counted up from the lowest. A NaN has no bits here. Every NaN counts as one, above all else,
-- where Rust has a positive one with all digits set.
unfoldable pub key_of_bits : ℕ → ℕ
key_of_bits b = cond (nat_lt b (2 ^ 63)) (b + 2 ^ 63) (2 ^ 64 - 1 - b)

unfoldable pub key_of : Float → ℕ
key_of x = cond (is_nan x) (2 ^ 64 - 1) (key_of_bits (to_bits binary64 x))

abbrev pub ordering_by : (below above : Bool) → Ordering
ordering_by true above = Less
ordering_by false true = Greater
ordering_by false false = Equal

abbrev pub total_of : Float → Float → Ordering
total_of a b = ordering_by (nat_lt (key_of a) (key_of b)) (nat_lt (key_of b) (key_of a))
