use Rattle.std.proofs.lemmas.Result.{err_from_is_err_and}
use Rattle.sweep_model.specs.SweepEntries.{Setting, setting}
use Rattle.sweep_walk.proofs.Chords.{first-halts, both-walked}
use Rattle.store.specs.Store.{cells}
use Rattle.sweep_walk.proofs.sweep_chord.Goals as goal
use Rattle.sweep_walk.proofs.sweep_chord.Goals.{Start}

-- the setting of a call
abbrev here : Start → Setting
here a = setting a.args.spec a.args.g a.args.k a.args.p
    (cells a.args.spans.now a.args.links.now a.args.heads.now)

pub sweep_axis-requires : goal.sweep_axis-requires
sweep_axis-requires c = c.requires

pub returns-in_err-c : goal.returns-in_err-c
returns-in_err-c c =
    let s = here (goal.at.returns-in_err-c c).Start in
    let p = err_from_is_err_and c.from_residual.result c.from_residual.ensures.1 in
    rw (p.1, p.2) (first-halts s c.args.chord c.first_axis-first.result c.first_axis-first.ensures c.in_err-c.ensures)

pub sweep_axis-requires-2 : goal.sweep_axis-requires-2
sweep_axis-requires-2 c = (c.requires.0, c.in_ok-c.ensures.room)

pub returns : goal.returns
returns c =
    let s = here (goal.at.returns c).Start in
    both-walked s c.args.chord _ c.sweep_axis-2.result
    c.first_axis-first.result c.second_axis-second.result c.first_axis-first.ensures
    c.second_axis-second.ensures c.in_ok-c.ensures c.sweep_axis-2.ensures
