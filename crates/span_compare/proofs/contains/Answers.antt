-- `span_compare::contains` meets its contract.
use Rattle.span_compare.specs.Verdicts.{Contains}
use Rattle.spans.proofs.Answers.{found-both}
use Rattle.span_compare.proofs.Answers.{refuse-unsound, say, contains_by}
use Rattle.span_compare.proofs.contains.Goals as goal

pub returns-then-not-both_sound : goal.returns-then-not-both_sound
returns-then-not-both_sound c =
    refuse-unsound c.args.outer.now c.args.inner.now (Contains c.args.outer.now c.args.inner.now) _ c.both_sound.ensures
    c.if-not-both_sound.true-raw

pub covers-requires : goal.covers-requires
covers-requires c =
    found-both c.args.outer.now c.args.inner.now _ c.both_sound.ensures c.if-not-both_sound.false-raw

pub returns : goal.returns
returns c =
    say c.args.outer.now c.args.inner.now (Contains c.args.outer.now c.args.inner.now) _ c.both_sound.ensures
    c.if-not-both_sound.false-raw c.covers.result
    (contains_by c.args.outer.now c.args.inner.now c.shared_slice_known-1.given
    c.shared_slice_known-2-1.given c.covers.result c.covers.ensures)
