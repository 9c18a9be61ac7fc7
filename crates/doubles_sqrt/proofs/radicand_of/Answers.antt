-- `doubles_sqrt::radicand_of` meets its contract. Assumes nothing.
use mathlib.Core.Path.{◌≡◌, refl, sym, ap, ◌∙◌}
use Prim.Native.Nat.{ℕ, ◌+◌, ◌-◌, ◌*◌, ◌/◌, ◌%◌, ◌^◌, ◌≤◌, ◌<◌}
use native.Mathlib.Nat.{mul-one, mul_assoc}
use native.Mathlib.Omega.{arith}
use lib.Dec.{lit≤}
use lib.Ieee.{binary64, low, of_bits}
use Rattle.doubles_sqrt.specs.Root.{magnitude}
use Rattle.doubles_sqrt.proofs.Patterns.{magnitude-at, subnormal, normal}
use Rattle.doubles_sqrt.proofs.Scale.{joined}
use Rattle.doubles_sqrt.proofs.radicand_of.Goals as goal

-- the radicand of a normal double
radicand : (b : ℕ) → 2 ^ 52 ≤ b → b < 0x7ff0_0000_0000_0000
    → magnitude binary64 (of_bits binary64 b) * 2 ^ low binary64
    ≡ (2 ^ 52 + b % 2 ^ 52) * 2 ^ ((b / 2 ^ 52 - 1) % 2) * 2 ^ 52 * (2 ^ ((b / 2 ^ 52 - 1) / 2 + 511) * 2 ^ ((b / 2 ^ 52 - 1) / 2 + 511))
radicand b h k =
    ap (λ (x : ℕ). x * 2 ^ low binary64)
    (magnitude-at binary64 (of_bits binary64 b) ((2 ^ 52 + b % 2 ^ 52) * 2 ^ (b / 2 ^ 52 - 1)) (normal b h k))
    ∙ joined (2 ^ 52 + b % 2 ^ 52) (b / 2 ^ 52 - 1) 511 (2 ^ 52) (2 ^ low binary64) refl

pub returns-then-field-eq0 : goal.returns-then-field-eq0
returns-then-field-eq0 c =
    let b = c.args.bits in
    let low_field : b < 2 ^ 52 = omega arith in
    record {
      is =
          ap (λ (x : ℕ). x * 2 ^ low binary64) (magnitude-at binary64 (of_bits binary64 b) (b * 2 ^ 0) (subnormal b low_field) ∙ mul-one b)
          ∙ sym (mul_assoc b (2 ^ 52) (2 ^ 511 * 2 ^ 511));
      positive = c.requires.bits_positive;
      small = omega arith;
      least = lit≤ tt;
      most = lit≤ tt;
    }

pub returns-then-field-eq0-2 : goal.returns-then-field-eq0-2
returns-then-field-eq0-2 c =
    let b = c.args.bits in
    let k = b / 2 ^ 52 - 1 in
    let M = 2 ^ 52 + b % 2 ^ 52 in
    let high : 2 ^ 52 ≤ b = omega (arith, c.if-field-eq0.false) in
    record {
      is = radicand b high c.requires.bits_bound
          ∙ ap (λ (r : ℕ). M * 2 ^ r * 2 ^ 52 * (2 ^ (k / 2 + 511) * 2 ^ (k / 2 + 511))) c.if-field-eq0-2.true
          ∙ ap (λ (x : ℕ). x * 2 ^ 52 * (2 ^ (k / 2 + 511) * 2 ^ (k / 2 + 511))) (mul-one M);
      positive = omega arith;
      small = omega arith;
      least = omega arith;
      most = omega arith;
    }

pub returns : goal.returns
returns c =
    let b = c.args.bits in
    let k = b / 2 ^ 52 - 1 in
    let M = 2 ^ 52 + b % 2 ^ 52 in
    let high : 2 ^ 52 ≤ b = omega (arith, c.if-field-eq0.false) in
    let odd : k % 2 ≡ 1 = omega (arith, c.if-field-eq0-2.false) in
    record {
      is = radicand b high c.requires.bits_bound ∙ ap (λ (r : ℕ). M * 2 ^ r * 2 ^ 52 * (2 ^ (k / 2 + 511) * 2 ^ (k / 2 + 511))) odd;
      positive = omega arith;
      small = omega arith;
      least = omega arith;
      most = omega arith;
    }
