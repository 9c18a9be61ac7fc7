use Rattle.std.proofs.Common.{arith}
use Rattle.std.proofs.lemmas.Result.{err_from_is_err_and}
use Rattle.sweep_model.specs.SweepEntries.{Setting, setting}
use Rattle.sweep_visits.proofs.Walks.{sweeping-start}
use Rattle.sweep_walk.proofs.Chords.{chord-next, chord-halts, chords-done}
use Rattle.store.specs.Store.{cells}
use Rattle.sweep_walk.proofs.sweep_chords.Goals as goal
use Rattle.sweep_walk.proofs.sweep_chords.Goals.{Start}

-- the setting of a call
abbrev here : Start → Setting
here a = setting a.args.spec a.args.g a.args.k a.args.p
    (cells a.args.spans.now a.args.links.now a.args.heads.now)

pub loop-i-init : goal.loop-i-init
loop-i-init c = sweeping-start _ _ _ (omega arith)

pub sweep_chord-requires : goal.sweep_chord-requires
sweep_chord-requires c = (c.requires, c.loop-i.invariant.went.room)

pub returns-in_err-c : goal.returns-in_err-c
returns-in_err-c c =
    let p = err_from_is_err_and c.from_residual.result c.from_residual.ensures.1 in
    rw (p.1, p.2)
    (chord-halts (here (goal.at.returns-in_err-c c).Start) c.args.chords.now c.loop-i.i c.loop-i.invariant
    c.chord_at-chord.result c.loop-i-test.true c.chord_at-chord.ensures c.in_err-c.ensures)

pub loop-i-preserved : goal.loop-i-preserved
loop-i-preserved c =
    chord-next (here (goal.at.loop-i-preserved c).Start) c.args.chords.now c.loop-i.i c.loop-i.invariant
    c.chord_at-chord.result c.loop-i-test.true c.chord_at-chord.ensures c.in_ok-c.ensures

pub returns : goal.returns
returns c = chords-done (here (goal.at.returns c).Start) c.args.chords.now c.loop-i.i c.loop-i.invariant c.loop-i-test.false
