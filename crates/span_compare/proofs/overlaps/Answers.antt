-- `span_compare::overlaps` meets its contract.
use Rattle.span_compare.specs.Verdicts.{Overlaps}
use Rattle.spans.proofs.Answers.{found-both}
use Rattle.span_compare.proofs.Answers.{refuse-unsound, say, overlaps-by}
use Rattle.span_compare.proofs.overlaps.Goals as goal

pub returns-then-not-both_sound : goal.returns-then-not-both_sound
returns-then-not-both_sound c =
    refuse-unsound c.args.a.now c.args.b.now (Overlaps c.args.a.now c.args.b.now) _ c.both_sound.ensures c.if-not-both_sound.true-raw

pub meets-requires : goal.meets-requires
meets-requires c =
    found-both c.args.a.now c.args.b.now _ c.both_sound.ensures c.if-not-both_sound.false-raw

pub returns : goal.returns
returns c =
    say c.args.a.now c.args.b.now (Overlaps c.args.a.now c.args.b.now) _ c.both_sound.ensures c.if-not-both_sound.false-raw c.meets.result
    (overlaps-by c.args.a.now c.args.b.now c.shared_slice_known-1.given
    c.shared_slice_known-2-1.given c.meets.result c.meets.ensures)
