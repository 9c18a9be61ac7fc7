use mathlib.Core.Path.{◌≡◌, ap, ◌∙◌}
use Prim.Native.Nat.{ℕ, ◌/◌}
use native.Mathlib.Omega.{arith}
use native.Mathlib.Decide.{dec_lt}
use lib.ListN.{get_or}
use Rattle.log_budget.proofs.end_of_ray.Goals as goal

pub loop-j-init : goal.loop-j-init
loop-j-init c = λ t a b. let only : t ≡ c.args.i = omega arith in ap (λ (k : ℕ). get_or c.args.keys.now k 0 / c.args.n) only

pub loop-j-preserved : goal.loop-j-preserved
loop-j-preserved c = λ t a b. elim (dec_lt t c.loop-j.j) [
  | yes l ↦ c.loop-j.invariant t a l
  | no l ↦ let last : t ≡ c.loop-j.j = omega arith in ap (λ (k : ℕ). get_or c.args.keys.now k 0 / c.args.n) last ∙ c.if-keys-j.false
]

pub returns : goal.returns
returns c =
    record {
      past = omega arith;
      most = omega arith;
      same = λ t a b. c.loop-j.invariant t a (omega arith);
      other = λ h. absurd (omega (arith, h));
    }

pub returns-then-keys-j : goal.returns-then-keys-j
returns-then-keys-j c =
    record { past = omega arith; most = omega arith; same = c.loop-j.invariant; other = λ _. c.if-keys-j.true }
