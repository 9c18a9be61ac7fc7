use Prim.Native.Nat.{ℕ, ◌*◌, ◌-◌, ◌/◌, ◌^◌, ◌≤◌, ◌<◌}
use native.Mathlib.Nat.{le-div_iff_mul-le}
use native.Mathlib.Omega.{arith}
use borrow.Author.Rules.{rules}
use Rattle.log_budget.proofs.fit_width.Goals as goal

-- what fits as a quotient fits as a product
product-fits : (w n : ℕ) → 0 < n → w ≤ (2 ^ 64 - 1) / n → w * n < 2 ^ 64
product-fits w n h l = omega (arith, (le-div_iff_mul-le h).0 l)

pub returns : goal.returns
returns c =
    let one : 1 ≤ (2 ^ 64 - 1) / c.args.n = (le-div_iff_mul-le c.requires.1).1 (omega (arith, c.ranges.n)) in
    (search rules, search rules, product-fits _ _ c.requires.1 (omega (arith, one)))
