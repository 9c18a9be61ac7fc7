use Rattle.std.proofs.lemmas.Result.{err_from_is_err_and}
use Rattle.sweep_model.specs.SweepEntries.{Setting, setting}
use Rattle.sweep.proofs.Answers.{logged-room, grid-declined, grid-swept}
use Rattle.store.specs.Store.{cells}
use Rattle.sweep.proofs.sweep_grid.Goals as goal
use Rattle.sweep.proofs.sweep_grid.Goals.{Start}

-- the setting of a call
abbrev here : Start → Setting
here a = setting a.args.spec a.args.g a.args.k a.args.p
    (cells a.args.spans.now a.args.links.now a.args.heads.now)

pub returns-in_err-check_sweep : goal.returns-in_err-check_sweep
returns-in_err-check_sweep c =
    let s = here (goal.at.returns-in_err-check_sweep c).Start in
    let p = err_from_is_err_and c.from_residual.result c.from_residual.ensures.1 in
    rw (p.1, p.2)
    (grid-declined s c.args.intervals c.args.chords.now c.args.budget c.args.log.now _ c.in_err-check_sweep.ensures)

pub sweep_chords-x-requires : goal.sweep_chords-x-requires
sweep_chords-x-requires c = c.in_ok-check_sweep.ensures.1

pub end_log-requires : goal.end_log-requires
end_log-requires c = logged-room _ _ _ _ _ c.sweep_chords-x.result c.sweep_chords-x.ensures

pub returns : goal.returns
returns c =
    let s = here (goal.at.returns c).Start in
    grid-swept s c.args.intervals c.args.chords.now c.args.budget c.args.log.now
    c.sweep_chords-x.result _ _ _ c.in_ok-check_sweep.ensures c.sweep_chords-x.ensures c.end_log.ensures
