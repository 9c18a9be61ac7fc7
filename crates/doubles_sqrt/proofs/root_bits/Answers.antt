-- `doubles_sqrt::root_bits` meets its contract. Assumes nothing.
use mathlib.Core.Path.{◌≡◌, sym, ap, ◌∙◌}
use Prim.Native.Nat.{ℕ, ◌+◌, ◌*◌, ◌/◌, ◌^◌, ◌≤◌, ◌<◌}
use native.Mathlib.Nat.{le_trans, mul_right_comm}
use native.Mathlib.Omega.{arith}
use lib.Ieee.{binary64, low, of_bits}
use Rattle.doubles_sqrt.specs.Root.{whole_root, magnitude}
use Rattle.doubles_sqrt.proofs.Result.{root-under, pattern, root-by-units}
use Rattle.doubles_sqrt.proofs.root_bits.Goals as goal

pub overflow_add-result : goal.overflow_add-result
overflow_add-result c = omega (arith, root-under c.normalized-a.result.m c.normalized-a.ensures.small)

pub returns : goal.returns
returns c =
    let b = c.args.bits in
    let m = c.normalized-a.result.m in
    let half = c.normalized-a.result.half in
    let top : half ≤ 1534 = le_trans c.normalized-a.ensures.most c.radicand_of.ensures.most in
    let same : magnitude binary64 (of_bits binary64 b) * 2 ^ low binary64 ≡ m * 2 ^ 52 * (2 ^ half * 2 ^ half) =
    c.radicand_of.ensures.is
    ∙ mul_right_comm c.radicand_of.result.m (2 ^ 52) (2 ^ c.radicand_of.result.half * 2 ^ c.radicand_of.result.half)
    ∙ ap (λ (x : ℕ). x * 2 ^ 52) (sym c.normalized-a.ensures.is)
    ∙ mul_right_comm m (2 ^ half * 2 ^ half) (2 ^ 52) in record {
      root = ap (λ (s : ℕ). of_bits binary64 (half * 2 ^ 52 + (s + 1) / 2)) c.wide_root-root.ensures
          ∙ sym (pattern (magnitude binary64 (of_bits binary64 b)) m half same
          c.normalized-a.ensures.large c.normalized-a.ensures.small top)
          ∙ sym (root-by-units b c.requires.bits_positive c.requires.bits_bound);
      bound = bound half c.wide_root-root.result (whole_root (m * 2 ^ 54)) top c.wide_root-root.ensures
          (root-under m c.normalized-a.ensures.small);
    }
  where
    bound : (h r s : ℕ) → h ≤ 1534 → r ≡ s → s < 2 ^ 54 → h * 2 ^ 52 + (r + 1) / 2 < 0x7ff0_0000_0000_0000
    bound h r s a e l = omega arith
