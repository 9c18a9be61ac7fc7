-- `doubles_sqrt::sqrt` meets its contract. Assumes nothing.
use mathlib.Core.Path.{◌≡◌, sym, ap, ◌∙◌, subst}
use Prim.Native.Nat.{ℕ}
use mathlib.Core.Bool.{not}
use native.Mathlib.Omega.{arith}
use lib.Dec.{T}
use lib.Ieee.{Float, binary64, fits, is_nan, of_bits, to_bits}
use lib.Ieee.Bits.{of_bits-to_bits, to_bits-lt}
use Rattle.doubles_sqrt.specs.Root.{square_root}
use Rattle.logic.proofs.Bools.{of-true, of-false}
use Rattle.doubles.proofs.Order.{nan-only, nan-pattern}
use Rattle.doubles_sqrt.proofs.Result.{root-of-nan, root-of-zero, root-of-negative-zero, root-of-infinity}
use Rattle.doubles_sqrt.proofs.Result.{root-of-negative, finite-is-no-nan, positive-under}
use Rattle.doubles_sqrt.proofs.sqrt.Goals as goal
use Rattle.doubles_sqrt.proofs.sqrt.Goals.{Start}

-- what owning an `f64` tells: the format holds it
held : (c : Start) → T (fits binary64 c.args.x)
held c = of-true c.well_formed.0.1

-- so it is read back from its pattern
read : (c : Start) → of_bits binary64 (to_bits binary64 c.args.x) ≡ c.args.x
read c = of_bits-to_bits binary64 c.args.x (held c)

-- at a pattern k whose value is its own root
own_root : (c : Start) (k : ℕ) → to_bits binary64 c.args.x ≡ k
    → square_root binary64 (of_bits binary64 k) ≡ of_bits binary64 k → c.args.x ≡ square_root binary64 c.args.x
own_root c k e h = subst (λ (v : Float). v ≡ square_root binary64 v)
    (ap (λ (n : ℕ). of_bits binary64 n) (sym e) ∙ read c) (sym h)

pub returns-then-is_nan : goal.returns-then-is_nan
returns-then-is_nan c =
    subst (λ (v : Float). v ≡ square_root binary64 v) (nan-only c.args.x (sym c.is_nan.ensures.value ∙ c.if-is_nan.true))
    (sym (root-of-nan binary64))

pub returns-then-bits-eq0 : goal.returns-then-bits-eq0
returns-then-bits-eq0 c = own_root (goal.at.returns-then-bits-eq0 c).Start 0 c.if-bits-eq0.true root-of-zero

pub returns-then-bits : goal.returns-then-bits
returns-then-bits c = own_root (goal.at.returns-then-bits c).Start 0x8000_0000_0000_0000 c.if-bits.true root-of-negative-zero

pub returns-then-bits-eq9218868437227405312 : goal.returns-then-bits-eq9218868437227405312
returns-then-bits-eq9218868437227405312 c =
    own_root (goal.at.returns-then-bits-eq9218868437227405312 c).Start 0x7ff0_0000_0000_0000
    c.if-bits-eq9218868437227405312.true root-of-infinity

pub returns-then-bits-gt9223372036854775808 : goal.returns-then-bits-gt9223372036854775808
returns-then-bits-gt9223372036854775808 c =
    nan-pattern ∙ sym (root-of-negative (to_bits binary64 c.args.x) c.if-bits-gt9223372036854775808.true
    (to_bits-lt binary64 c.args.x (held (goal.at.returns-then-bits-gt9223372036854775808 c).Start)))
    ∙ ap (λ (v : Float). square_root binary64 v) (read (goal.at.returns-then-bits-gt9223372036854775808 c).Start)

pub root_bits-requires : goal.root_bits-requires
root_bits-requires c = record {
  bits_positive = omega (arith, c.if-bits-eq0.false);
  bits_bound = positive-under (to_bits binary64 c.args.x)
      (subst (λ (v : Float). T (not (is_nan v))) (sym (read (goal.at.root_bits-requires c).Start))
      (of-false (sym c.is_nan.ensures.value ∙ c.if-is_nan.false))) c.if-bits-gt9223372036854775808.false c.if-bits.false
      c.if-bits-eq9218868437227405312.false;
}

pub float_from_bits-result : goal.float_from_bits-result
float_from_bits-result c = finite-is-no-nan c.root_bits.result c.root_bits.ensures.bound

pub returns : goal.returns
returns c = c.root_bits.ensures.root
    ∙ ap (λ (v : Float). square_root binary64 v) (read (goal.at.returns c).Start)
