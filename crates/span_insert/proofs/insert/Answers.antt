-- `span_insert::insert` meets its contract.
use native.Mathlib.Omega.{arith}
use lib.ListN.{take}
use lib.Seq.{length-take-le}
use lib.Ieee.{lt, le}
use mathlib.Core.Bool.{true}
use mathlib.Core.Path.{◌≡◌}
use Rattle.logic.proofs.Bools.{not-true, not-false, clash}
use Rattle.spans.proofs.Sets.{sound-mod}
use Rattle.spans.proofs.Points.{empty-pair}
use Rattle.span_insert.proofs.Join.{insert-last, insert-inside, insert-extends, insert-none, insert-done, places-rise}
use borrow.Author.Rules.{rules}
use Rattle.span_insert.proofs.insert.Goals as goal

pub returns-then-n-eq0 : goal.returns-then-n-eq0
returns-then-n-eq0 c =
    insert-last _ _ _ _ _ _ (omega (arith, c.requires.0)) c.requires.1
    (λ h. absurd (omega (arith, c.if-n-eq0.true))) c.put_pair.ensures

pub returns-then-last-lo : goal.returns-then-last-lo
returns-then-last-lo c =
    insert-last _ _ _ _ _ _ (omega (arith, c.requires.0)) c.requires.1
    (λ h. c.if-last-lo.true) c.put_pair-then-last-lo.ensures

pub overflow_sub-n : goal.overflow_sub-n
overflow_sub-n c =
    let b = c.args.b.now in
    let n = c.args.n in
    omega (arith, sound-mod (take n b) c.requires.1, length-take-le n b (omega (arith, c.requires.0)), c.if-n-eq0.false)

pub returns-then-last-hi : goal.returns-then-last-hi
returns-then-last-hi c =
    insert-extends c.args.b.now c.args.n c.args.lo c.args.hi (omega (arith, c.requires.0)) c.requires.1
    (omega (arith, c.if-n-eq0.false)) c.if-b-n.true c.if-last-lo.false c.requires.0 c.if-last-hi.true

pub returns-else-last-hi : goal.returns-else-last-hi
returns-else-last-hi c =
    insert-inside c.args.b.now c.args.n c.args.lo c.args.hi (omega (arith, c.requires.0)) c.requires.1
    (omega (arith, c.if-n-eq0.false)) c.if-b-n.true c.if-last-lo.false c.if-last-hi.false

pub returns-then-not-lo-hi : goal.returns-then-not-lo-hi
returns-then-not-lo-hi c =
    let b = c.args.b.now in
    let n = c.args.n in
    insert-none b n c.args.lo c.args.hi c.requires.1
    (λ p w. absurd (clash _ w (empty-pair c.args.lo c.args.hi p
    (not-true (lt c.args.lo c.args.hi) c.if-not-lo-hi.true-raw))))

pub splice-requires : goal.splice-requires
splice-requires c =
    let b = c.args.b.now in
    let n = c.args.n in
    let lo = c.args.lo in
    let hi = c.args.hi in
    let below = c.count_ends-i.ensures (λ e. lt e lo) (λ e r p. search rules) in
    let up_to = c.count_ends-j.ensures (λ e. le e hi) (λ e r p. search rules) in
    let up : lt lo hi ≡ true = not-false (lt lo hi) c.if-not-lo-hi.false-raw in
    let rise = places-rise b n lo hi c.count_ends-i.result c.count_ends-j.result (omega (arith, c.requires.0)) c.requires.1 up
    up_to below in
    (rise, up_to.most, c.requires.0)

pub returns : goal.returns
returns c =
    let lo = c.args.lo in
    let hi = c.args.hi in
    insert-done c.args.b.now c.splice.new.b c.args.n lo hi c.count_ends-i.result c.count_ends-j.result c.splice.result
    (omega (arith, c.requires.0)) c.requires.1 (not-false (lt lo hi) c.if-not-lo-hi.false-raw)
    (c.count_ends-i.ensures (λ e. lt e lo) (λ e r p. search rules))
    (c.count_ends-j.ensures (λ e. le e hi) (λ e r p. search rules)) c.splice.ensures
