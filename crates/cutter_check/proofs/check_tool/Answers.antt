-- Each answer is the first cause that is present, or that none is.
use mathlib.Core.Path.{sym, ◌∙◌}
use Rattle.refusal.specs.Refusal.{NoneDue}
use Rattle.refusal.proofs.Laws.{first, later}
use Rattle.logic.proofs.Bools.{clash}
use Rattle.cutter.proofs.Limits.{is_beam→beam, beam→is_beam, unfit-tool, fit-tool}
use Rattle.cutter_check.proofs.check_tool.Goals as goal

pub returns-then-is_beam : goal.returns-then-is_beam
returns-then-is_beam c = first _ _ (is_beam→beam _ (sym c.is_beam.ensures ∙ c.if-is_beam.true))

pub returns-then-not-within_limits : goal.returns-then-not-within_limits
returns-then-not-within_limits c =
    later _ _ _
    (λ beam. clash _ (beam→is_beam _ beam) (sym c.is_beam.ensures ∙ c.if-is_beam.false))
    (first _ _ (unfit-tool _ _ (sym c.within_limits.ensures ∙ c.if-not-within_limits.true)))

pub returns : goal.returns
unfolding NoneDue
returns c = (
  λ beam. clash _ (beam→is_beam _ beam) (sym c.is_beam.ensures ∙ c.if-is_beam.false),
  (fit-tool _ _ (sym c.within_limits.ensures ∙ c.if-not-within_limits.false), tt),
)
