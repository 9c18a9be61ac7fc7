-- `span_normalize::normalize_into` meets its contract.
use native.Mathlib.Omega.{arith}
use mathlib.Core.Path.{◌≡◌, sym}
use Prim.Native.Nat.{◌-◌}
use lib.ListN.{length, take, drop, length-drop}
use lib.Seq.{length-take-le, take_all}
use Rattle.span_normalize.proofs.Join.{begun_all, begun_more, back-all, back_more}
use Rattle.span_join.proofs.Passes.{filled-even}
use Rattle.span_normalize.proofs.normalize_into.Goals as goal

pub returns-then-spans-k : goal.returns-then-spans-k
returns-then-spans-k c = begun_all _ _ _ _ _ c.if-spans-k.true c.join_rising-up.ensures

pub join_more-requires : goal.join_more-requires
join_more-requires c =
    let i = c.join_rising-up.ensures in
    let k = c.join_rising-up.result.passed in
    let rest : length (take (length c.args.spans.now - k) (drop k c.args.spans.now)) ≡ length c.args.spans.now - k =
    length-take-le (length c.args.spans.now - k) (drop k c.args.spans.now)
    (omega (arith, length-drop k c.args.spans.now)) in (
      omega (arith, rest, c.requires.0, i.passed_most, i.passed_even),
      filled-even _ _ _ _ _ (omega (arith, i.passed_most, c.requires.1)) i.filled,
      omega (arith, rest, i.filled.size, i.filled.most, i.passed_most, c.requires.1),
    )

pub returns-then-up-gt2 : goal.returns-then-up-gt2
returns-then-up-gt2 c =
    let k = c.join_rising-up.result.passed in
    begun_more _ _ _ _ _ _ _ _ (take_all (length c.args.spans.now - k) (drop k c.args.spans.now)
    (omega (arith, length-drop k c.args.spans.now)))
    c.join_rising-up.ensures
    c.join_more.ensures

pub returns-then-j-eq0 : goal.returns-then-j-eq0
returns-then-j-eq0 c =
    back-all _ _ _ _ _ _ c.join_rising-up.ensures.filled.size c.if-j-eq0.true c.join_falling-down.ensures

pub slice_bounds-join_more-end-2 : goal.slice_bounds-join_more-end-2
slice_bounds-join_more-end-2 c = sym (length-take-le _ _ c.join_falling-down.ensures.passed_most)

pub join_more-requires-2 : goal.join_more-requires-2
join_more-requires-2 c =
    let u = c.join_rising-up.ensures in
    let i = c.join_falling-down.ensures in
    let part = length-take-le c.join_falling-down.result.passed
    c.args.spans.now i.passed_most in (
      omega (arith, part, i.passed_even),
      filled-even _ _ _ _ _ (omega (arith, u.filled.size, c.requires.1)) i.filled,
      omega (arith, part, u.filled.size, i.filled.size, i.filled.most, i.passed_most, c.requires.1),
    )

pub returns : goal.returns
returns c =
    back_more _ _ _ _ _ _ _ _ c.requires.0 c.join_rising-up.ensures.filled.size
    c.join_falling-down.ensures c.join_more-2.ensures
