-- Rust's `cmp::Ordering` as a number.
use Rattle.std.specs.Prelude.{ℕ}
use Rattle.std.specs.declared.cmp.Ordering.{Ordering}
use Rattle.std.specs.declared.cmp.Ordering.TheVariants.{Less, Equal, Greater}

abbrev pub ordering_code : Ordering → ℕ
ordering_code Less = 0
ordering_code Equal = 1
ordering_code Greater = 2
