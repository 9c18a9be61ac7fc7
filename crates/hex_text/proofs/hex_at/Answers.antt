-- `hex_text::hex_at` meets its contract: each turn of its loop reads one digit more (`Read`). Assumes nothing.
use Rattle.std.proofs.Common.{arith, ◌≡◌, sym, ap, ◌∙◌, ℕ, take, drop}
use Rattle.std.specs.Prelude.{Option}
use mathlib.Core.Logic.{inl, inr}
use borrow.Author.Tests.{lt-leb}
use Rattle.hex_text.specs.Hex.{hex_number, hex_at}
use Rattle.hex_text.proofs.Digits.{read_none, read_more, read-stop, read_all, small_at, digit-lt, past, inside}
use Rattle.hex_text.proofs.hex_at.Goals as goal
use Rattle.hex_text.proofs.hex_at.Goals.{In_ok-digits}

-- the digits, past the tests
spelled : (c : In_ok-digits) → (w : Option ℕ)
    → w ≡ hex_number 0 c.in_ok-digits.digits.now → w ≡ hex_at c.args.text.now c.args.at c.args.count
spelled c w e =
    let d = c.in_ok-digits.ensures.lookup in
    let p = c.in_ok-end.ensures in
    inside _ _ _ _ w c.if-count-gt16.false (omega arith)
    (d.0.2 ∙ ap (λ (n : ℕ). take n (drop c.args.at c.args.text.now)) (omega arith)) e

pub returns-then-count-gt16 : goal.returns-then-count-gt16
unfolding hex_at
returns-then-count-gt16 c = simp (lt-leb _ _ c.if-count-gt16.true)

pub returns-in_err-end : goal.returns-in_err-end
returns-in_err-end c = c.from_residual.ensures ∙ past _ _ _ c.if-count-gt16.false (omega (arith, c.in_err-end.ensures))

pub returns-in_err-digits : goal.returns-in_err-digits
returns-in_err-digits c =
    let h = c.in_err-digits.ensures.lookup.0 in
    let p = c.in_ok-end.ensures in
    c.from_residual-in_err-digits.ensures ∙ past _ _ _ c.if-count-gt16.false (elim h [ inl q ↦ omega arith | inr q ↦ omega arith ])

pub loop-c-init : goal.loop-c-init
loop-c-init c = read_none _

pub returns-in_err-d : goal.returns-in_err-d
returns-in_err-d c =
    spelled (goal.at.returns-in_err-d c).In_ok-digits _
    (c.from_residual-in_err-d.ensures ∙ read-stop _ _ _ c.loop-c.invariant c.loop-c-test.true (sym c.in_err-d.ensures))

pub overflow_mul-value : goal.overflow_mul-value
overflow_mul-value c =
    let d = c.in_ok-digits.ensures.lookup in
    let p = c.in_ok-end.ensures in
    omega (arith, small_at _ _ c.loop-c.invariant.small (omega arith))

pub overflow_add-value : goal.overflow_add-value
overflow_add-value c =
    let d = c.in_ok-digits.ensures.lookup in
    let p = c.in_ok-end.ensures in
    omega (arith, small_at _ _ c.loop-c.invariant.small (omega arith), digit-lt _ _ (sym c.in_ok-d.ensures))

pub loop-c-preserved : goal.loop-c-preserved
loop-c-preserved c = read_more _ _ _ c.loop-c.invariant c.loop-c-test.true _ (sym c.in_ok-d.ensures)

pub returns : goal.returns
returns c = spelled (goal.at.returns c).In_ok-digits _ (read_all _ _ _ c.loop-c.invariant c.loop-c-test.false)
