use Rattle.std.proofs.Common.{sym, ◌∙◌, true, false}
use Rattle.std.proofs.lemmas.Result.{err_from_is_err_and}
use Rattle.logic.proofs.Bools.{clash}
use Rattle.store.specs.Store.{cells}
use Rattle.stock.proofs.Causes.{room_of}
use Rattle.sweep_model.specs.SweepEntries.{Setting, setting}
use Rattle.sweep.proofs.Answers.{StockPassed, check-short, check-odd, check-bad, check-tool-bad, check-chords}
use Rattle.sweep.proofs.check_sweep.Goals as goal
use Rattle.sweep.proofs.check_sweep.Goals.{Start, Else-not-check_stock}

-- the setting of a call
abbrev here : Start → Setting
here a = setting a.args.spec a.args.g a.args.k a.args.p
    (cells a.args.spans.now a.args.links.now a.args.heads.now)

passed : (c : Else-not-check_stock)
    → StockPassed (setting c.args.spec c.args.g c.args.k c.args.p (cells c.args.spans.now c.args.links.now c.args.heads.now))
    c.args.intervals c.args.chords.now
passed c = record {
  long = sym c.is_short.ensures ∙ c.if-is_short.false;
  input = (c.if-chords-ne0.false, c.check_stock.ensures.0 c.if-not-check_stock.false);
}

pub returns-then-is_short : goal.returns-then-is_short
returns-then-is_short c = check-short (here (goal.at.returns-then-is_short c).Start) c.args.intervals c.args.chords.now
    (sym c.is_short.ensures ∙ c.if-is_short.true)

pub returns-then-chords-ne0 : goal.returns-then-chords-ne0
returns-then-chords-ne0 c = check-odd (here (goal.at.returns-then-chords-ne0 c).Start) c.args.intervals c.args.chords.now
    (sym c.is_short.ensures ∙ c.if-is_short.false) c.if-chords-ne0.true

pub check_stock-requires : goal.check_stock-requires
check_stock-requires c = room_of c.args.spec c.args.g (cells c.args.spans.now c.args.links.now c.args.heads.now)
    (sym c.is_short.ensures ∙ c.if-is_short.false)

pub returns-then-not-check_stock : goal.returns-then-not-check_stock
returns-then-not-check_stock c =
    check-bad (here (goal.at.returns-then-not-check_stock c).Start) c.args.intervals c.args.chords.now
    (sym c.is_short.ensures ∙ c.if-is_short.false)
    (λ is_sound. clash _ (c.check_stock.ensures.1 is_sound) c.if-not-check_stock.true)

pub returns-in_err-check_tool : goal.returns-in_err-check_tool
returns-in_err-check_tool c =
    let p = err_from_is_err_and c.from_residual.result c.from_residual.ensures.1 in
    rw (p.1, p.2)
    (check-tool-bad (here (goal.at.returns-in_err-check_tool c).Start) c.args.intervals c.args.chords.now
    (passed (goal.at.returns-in_err-check_tool c).Else-not-check_stock) _ c.in_err-check_tool.ensures)

pub returns-then-not-check_chords : goal.returns-then-not-check_chords
returns-then-not-check_chords c =
    check-chords (here (goal.at.returns-then-not-check_chords c).Start) c.args.intervals c.args.chords.now
    (passed (goal.at.returns-then-not-check_chords c).Else-not-check_stock) c.requires c.in_ok-check_tool.ensures
    c.check_chords.result false c.check_chords.ensures c.if-not-check_chords.true

pub returns : goal.returns
returns c =
    check-chords (here (goal.at.returns c).Start) c.args.intervals c.args.chords.now
    (passed (goal.at.returns c).Else-not-check_stock) c.requires c.in_ok-check_tool.ensures
    c.check_chords.result true c.check_chords.ensures c.if-not-check_chords.false
