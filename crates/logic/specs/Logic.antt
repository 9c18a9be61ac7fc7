-- What it is for a test to decide a claim, and how many places pass a test.
use Rattle.std.specs.Prelude.{◌≡◌, Bool, true, false, ℕ, zero, suc, ◌+◌}

-- the answer of a test of P
abbrev pub Decides : Type 0 → Bool → Type 0
Decides P r = (r ≡ true → P) × (P → r ≡ true)

abbrev pub bit : Bool → ℕ
bit true = 1
bit false = 0

-- how many of the first n places pass the test
unfoldable pub count_to : (ℕ → Bool) → ℕ → ℕ
count_to p zero = 0
count_to p (suc n) = count_to p n + bit (p n)
