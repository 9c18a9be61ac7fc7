-- How the code holds the radicand of a root: the number of units n of a double, times 2 ^ 1074, is m * 2 ^ 52 * 4 ^ half. Definitions only.
use Rattle.std.specs.Prelude.{◌≡◌, ℕ, suc, ◌*◌, ◌^◌, ◌≤◌, ◌<◌}
use Rattle.std.specs.Float.{binary64}
use Rattle.std.specs.Float.Ieee.{low, of_bits}
use Rattle.doubles_sqrt.specs.Root.{whole_root, magnitude}

-- the radicand of the positive finite double whose pattern is `bits`
pub record RadicandOf (bits m half : ℕ) : Type 0 where
  pub is : magnitude binary64 (of_bits binary64 bits) * 2 ^ low binary64 ≡ m * 2 ^ 52 * (2 ^ half * 2 ^ half)
  pub positive : 0 < m
  pub small : m < 2 ^ 54
  pub least : 511 ≤ half
  pub most : half ≤ 1534

-- the same radicand with an m of 53 or 54 digits
pub record Normalized (m half m' half' : ℕ) : Type 0 where
  pub is : m' * (2 ^ half' * 2 ^ half') ≡ m * (2 ^ half * 2 ^ half)
  pub large : 2 ^ 52 ≤ m'
  pub small : m' < 2 ^ 54
  pub most : half' ≤ half

-- a guess at the whole root of m that is no less than it
pub record Guess (m r : ℕ) : Type 0 where
  pub above : m < suc r * suc r
  pub large : 2 ^ 25 ≤ r
  pub small : r < 2 ^ 30

-- the whole root of an m of 53 or 54 digits
pub record RootOf (m r : ℕ) : Type 0 where
  pub is : r ≡ whole_root m
  pub lower : r * r ≤ m
  pub upper : m < suc r * suc r
  pub large : 2 ^ 26 ≤ r
  pub small : r < 2 ^ 27
