-- `grid_from_spec::grid` meets its contract. Assumes nothing.
use Rattle.grid.specs.FromSpec.{grid_of}
use Rattle.grid.proofs.Causes.{grid-post}
use Rattle.grid_from_spec.proofs.grid.Goals as goal

pub returns-then-not-is_mm : goal.returns-then-not-is_mm
unfolding grid_of
returns-then-not-is_mm c = grid-post _ _ _ (rw (← c.is_mm.ensures, c.if-not-is_mm.true-raw))

pub returns-then-is_misdescribed : goal.returns-then-is_misdescribed
unfolding grid_of
returns-then-is_misdescribed c =
    grid-post _ _ _ (rw (← c.is_mm.ensures, c.if-not-is_mm.false-raw, ← c.is_misdescribed.ensures, c.if-is_misdescribed.true))

pub returns : goal.returns
unfolding grid_of
returns c =
    grid-post _ _ _
    (rw (
      ← c.is_mm.ensures,
      c.if-not-is_mm.false-raw,
      ← c.is_misdescribed.ensures,
      c.if-is_misdescribed.false,
      ← c.dims.ensures,
      ← c.grid_over.ensures,
    ))
