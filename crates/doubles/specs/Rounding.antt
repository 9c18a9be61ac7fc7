-- What floor and ceiling are, said without their definitions: the nearest whole number below and above. `floor-greatest` and
-- `ceil-least` in proofs/Greatest.antt prove it for every finite double. Beside them the double nearest to a fraction.
use Rattle.std.specs.Prelude.{◌≡◌, ℕ, ◌*◌, ◌%◌, true, false, T, Float}
use Rattle.std.specs.Float.{nan, inf, fin, binary64}
use Rattle.std.specs.Float.Ieee.{up, down, le, fits, round}

-- the double nearest to n / d, as Rust reads the decimal literal of that fraction: 1e-6 is `ratio 1 1000000`
unfoldable pub ratio : ℕ → ℕ → Float
unfolding round
ratio n d = round binary64 false n d

-- x is a whole number: m * 2 ^ e, where 2 ^ e is up e / down e, leaves no fraction
abbrev pub Whole : Float → Type 0
Whole nan = ⊥
Whole (inf s) = ⊥
Whole (fin s m e) = m * up e % down e ≡ 0

-- r is the greatest whole number that is not above x, and a double
pub record FloorOf (x r : Float) : Type 0 where
  pub double : T (fits binary64 r)
  pub whole : Whole r
  pub below : le r x ≡ true
  pub greatest : (y : Float) → Whole y → le y x ≡ true → le y r ≡ true

-- r is the least whole number that is not below x, and a double
pub record CeilOf (x r : Float) : Type 0 where
  pub double : T (fits binary64 r)
  pub whole : Whole r
  pub above : le x r ≡ true
  pub least : (y : Float) → Whole y → le x y ≡ true → le r y ≡ true
