-- The answer from the counts.
use mathlib.Core.Path.{◌≡◌, sym, ap, ap₂}
use mathlib.Core.Bool.{Bool, cond}
use Prim.Native.Nat.{ℕ, ◌≤◌, ◌<◌}
use borrow.Author.Tests.{lt-ltb, le-ltb}
use lib.Dec.{ltb}
use Rattle.log_budget.specs.Answer.{budget_of}

module _ (allowance intervals changed left : ℕ) where
  pub too_many_rays : allowance < changed → 9 ≡ budget_of allowance intervals changed left
  unfolding budget_of
  too_many_rays h = sym (ap (λ (b : Bool). cond b 9 (cond (ltb intervals left) 10 0)) (lt-ltb allowance changed h))

  pub too-many-intervals : changed ≤ allowance → intervals < left → 10 ≡ budget_of allowance intervals changed left
  unfolding budget_of
  too-many-intervals h k = sym (ap₂ (λ (a b : Bool). cond a 9 (cond b 10 0)) (le-ltb allowance changed h) (lt-ltb intervals left k))

  pub both-kept : changed ≤ allowance → left ≤ intervals → 0 ≡ budget_of allowance intervals changed left
  unfolding budget_of
  both-kept h k = sym (ap₂ (λ (a b : Bool). cond a 9 (cond b 10 0)) (le-ltb allowance changed h) (le-ltb intervals left k))
