-- `span_combine::checked` meets its contract.
use native.Mathlib.Omega.{arith}
use mathlib.Core.Path.{◌≡◌}
use mathlib.Core.Bool.{false, ◌&&◌}
use Prim.Native.Nat.{◌+◌, ◌/◌, ◌<◌}
use lib.ListN.{length}
use Rattle.spans.specs.Spans.{sound}
use Rattle.span_combine.proofs.Answers.{checked-short, checked-bad, checked-none}
use Rattle.logic.proofs.Bools.{found, found-not, clash}
use Rattle.span_combine.proofs.checked.Goals as goal
use Rattle.span_combine.proofs.checked.Goals.{Start}

abbrev Short : Start → Type 0
Short s = s.args.room / 2 < length s.args.a.now / 2 + length s.args.b.now / 2

abbrev Bad : Start → Type 0
Bad s = (sound s.args.a.now && sound s.args.b.now) ≡ false

pub returns-then-room-a : goal.returns-then-room-a
returns-then-room-a c =
    checked-short (Short (goal.at.returns-then-room-a c).Start) (Bad (goal.at.returns-then-room-a c).Start) c.if-room-a.true

pub returns-then-not-both_sound : goal.returns-then-not-both_sound
returns-then-not-both_sound c =
    checked-bad (Short (goal.at.returns-then-not-both_sound c).Start) (Bad (goal.at.returns-then-not-both_sound c).Start) (λ h. omega (arith, c.if-room-a.false))
    (found-not _ _ c.both_sound.ensures c.if-not-both_sound.true-raw)

pub returns : goal.returns
returns c =
    checked-none (Short (goal.at.returns c).Start) (Bad (goal.at.returns c).Start) (λ h. omega (arith, c.if-room-a.false))
    (clash _ (found _ _ c.both_sound.ensures c.if-not-both_sound.false-raw))
