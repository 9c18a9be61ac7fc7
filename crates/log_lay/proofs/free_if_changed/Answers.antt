-- `log_lay::free_if_changed` meets its contract: the first size tells whether the ray has updates.
use Rattle.log_lay.proofs.Turns.{freed-same, freed-new}
use Rattle.log_lay.proofs.free_if_changed.Goals as goal

pub returns-then-number_at-eq0 : goal.returns-then-number_at-eq0
returns-then-number_at-eq0 c = freed-same _ _ _ _ _ _ c.number_at.ensures c.if-number_at-eq0.true

pub returns : goal.returns
returns c = freed-new _ _ _ _ _ _
    c.number_at.ensures
    c.if-number_at-eq0.false _
    c.free_ray.ensures
