-- `doubles::floor` meets its contract: each way out, and each call on the way, is a lemma of proofs/Whole.antt on the tests that
-- led there.
-- The code's constants are bit patterns, which `unfolding of_bits neg` computes. Assumes nothing.
use Rattle.std.proofs.Common.{◌≡◌, true, false, ap, ◌∙◌, subst, arith}
use lib.Ieee.{Float, of_bits, neg, eq}
use Rattle.logic.proofs.Bools.{of-true}
use Rattle.doubles.proofs.Whole.{Middle, above, under, above-in-range, under-in-range, under-lt, floor-zero, floor-large}
use Rattle.doubles.proofs.Whole.{floor-low, floor-above, floor-under-whole, floor-under-over}
use Rattle.doubles.proofs.floor.Goals as goal

-- what is known in the last part of the code: x is negative, and above -2 ^ 52
low : (c : goal.Then-x-4) → Middle true c.args.x
unfolding of_bits neg
low c = under c.args.x c.if-x.false c.if-x-2.false c.if-x-4.true

pub returns-then-x : goal.returns-then-x
unfolding of_bits
returns-then-x c = floor-zero c.args.x (of-true c.well_formed.0.1) c.if-x.true

pub truncating_f64_to_u64-requires : goal.truncating_f64_to_u64-requires
unfolding of_bits
truncating_f64_to_u64-requires c =
    let x = c.args.x in
    let r = above-in-range x (above x c.if-x-2.true c.if-x-3.true) in
    record { lower_bound = r.0; upper_bound = r.1 }

pub returns-then-x-3 : goal.returns-then-x-3
unfolding of_bits
returns-then-x-3 c =
    let x = c.args.x in
    c.nearest_u64_to_f64.ensures
    ∙ floor-above x (above x c.if-x-2.true c.if-x-3.true) c.truncating_f64_to_u64.result
    c.truncating_f64_to_u64.ensures

pub returns-then-x-2 : goal.returns-then-x-2
unfolding of_bits
returns-then-x-2 c =
    floor-large c.args.x (of-true c.well_formed.0.1) c.if-x-2.true c.if-x-3.false

pub truncating_f64_to_u64-whole-requires : goal.truncating_f64_to_u64-whole-requires
truncating_f64_to_u64-whole-requires c =
    let r = under-in-range c.args.x (low c) in
    record { lower_bound = r.0; upper_bound = r.1 }

pub returns-then-nearest_u64_to_f64-size : goal.returns-then-nearest_u64_to_f64-size
returns-then-nearest_u64_to_f64-size c =
    floor-under-whole c.args.x (of-true c.well_formed.0.1) (low c.before.before.before)
    c.truncating_f64_to_u64-whole.result c.truncating_f64_to_u64-whole.ensures
    (subst (λ (y : Float). eq y (neg c.args.x) ≡ true) c.nearest_u64_to_f64-then-x-4.ensures c.if-nearest_u64_to_f64-size.true)

pub overflow_add-whole : goal.overflow_add-whole
overflow_add-whole c =
    omega (arith, c.truncating_f64_to_u64-whole.ensures, under-lt c.args.x (low c.before.before.before))

pub returns-then-x-4 : goal.returns-then-x-4
returns-then-x-4 c =
    ap neg c.nearest_u64_to_f64-then-x-4-2.ensures
    ∙ floor-under-over c.args.x (low c.before.before.before.before)
    c.truncating_f64_to_u64-whole.result c.truncating_f64_to_u64-whole.ensures
    (subst (λ (y : Float). eq y (neg c.args.x) ≡ false) c.nearest_u64_to_f64-then-x-4.ensures c.if-nearest_u64_to_f64-size.false)

pub returns : goal.returns
unfolding of_bits neg
returns c =
    floor-low c.args.x (of-true c.well_formed.0.1) c.if-x-2.false c.if-x-4.false
