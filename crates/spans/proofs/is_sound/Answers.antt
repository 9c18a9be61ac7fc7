-- `spans::is_sound` meets its contract.
use native.Mathlib.Omega.{arith}
use Prim.Native.Nat.{◌-◌}
use mathlib.Core.Path.{sym, ◌∙◌}
use lib.ListN.{get_or, take}
use lib.Ieee.{nan, lt}
use Rattle.spans.specs.Spans.{rising}
use Rattle.spans.proofs.Sets.{rising-more, rising-one, sound-if-rising, unsound-odd, and-passed, and-failed}
use Rattle.spans.proofs.is_sound.Goals as goal
use Rattle.spans.proofs.is_sound.Goals.{then-not-s-k, else-not-s-k}

pub returns-then-s-ne0 : goal.returns-then-s-ne0
returns-then-s-ne0 c = unsound-odd c.args.s.now c.if-s-ne0.true

pub loop-k-init : goal.loop-k-init
loop-k-init c = (omega arith, sym (rising-one c.args.s.now))

pub loop-k-preserved : goal.loop-k-preserved
loop-k-preserved c =
    let s = c.args.s.now in
    let k = c.loop-k.k in
    let more = rising-more s k c.loop-k.invariant.0 c.loop-k-test.true in
    let r = rising (take k s) in
    let t = lt (get_or s (k - 1) nan) (get_or s k nan) in
    elim c.if-not-s-k.branch [
      | then-not-s-k w ↦ (omega arith, w.ok-is ∙ and-failed r t w.if-not-s-k.true-raw ∙ sym more)
      | else-not-s-k w ↦ (omega arith, w.ok-is ∙ c.loop-k.invariant.1 ∙ and-passed r t w.if-not-s-k.false-raw ∙ sym more)
    ]

pub returns : goal.returns
returns c = c.loop-k.invariant.1 ∙ sound-if-rising c.args.s.now c.loop-k.k
    c.if-s-ne0.false c.loop-k-test.false
