-- `span_normalize::normalize` meets its contract.
use native.Mathlib.Omega.{arith}
use mathlib.Core.Path.{◌≡◌}
use Prim.Native.Nat.{◌/◌, ◌%◌, ◌<◌}
use lib.ListN.{length}
use Rattle.spans.specs.Spans.{NormalOf}
use Rattle.spans.proofs.Answers.{refuse-short, refuse-bad, accept, laid}
use Rattle.span_normalize.proofs.normalize.Goals as goal
use Rattle.span_normalize.proofs.normalize.Goals.{Start}

abbrev Short : Start → Type 0
Short s = length s.args.out.now / 2 < length s.args.spans.now / 2

abbrev Bad : Start → Type 0
Bad s = length s.args.spans.now % 2 ≡ 1

pub returns-then-out-spans : goal.returns-then-out-spans
returns-then-out-spans c =
    refuse-short (NormalOf c.args.spans.now) (Short (goal.at.returns-then-out-spans c).Start) (Bad (goal.at.returns-then-out-spans c).Start) c.args.out.now c.if-out-spans.true

pub returns-then-spans-ne0 : goal.returns-then-spans-ne0
returns-then-spans-ne0 c =
    refuse-bad (NormalOf c.args.spans.now) (Short (goal.at.returns-then-spans-ne0 c).Start) (Bad (goal.at.returns-then-spans-ne0 c).Start) c.args.out.now
    (λ h. omega (arith, c.if-out-spans.false)) (omega (arith, c.if-spans-ne0.true))

pub returns : goal.returns
returns c =
    accept (NormalOf c.args.spans.now) (Short (goal.at.returns c).Start) (Bad (goal.at.returns c).Start) c.args.out.now c.clear_from.new.b (c.normalize_into-n.result / 2)
    (λ h. omega (arith, c.if-out-spans.false)) (λ h. omega (arith, c.if-spans-ne0.false))
    (laid (NormalOf c.args.spans.now) c.normalize_into-n.new.out c.clear_from.new.b c.normalize_into-n.result
    (omega (arith, c.normalize_into-n.ensures.most, c.normalize_into-n.ensures.size, c.if-spans-ne0.false, c.if-out-spans.false)) c.normalize_into-n.ensures.list.list.is_sound
    c.normalize_into-n.ensures.list c.clear_from.ensures)
