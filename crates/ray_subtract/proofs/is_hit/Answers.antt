-- `ray_subtract::is_hit` meets its contract.
use Rattle.ray_subtract.proofs.Sparing.{both-outer, both-inner}
use Rattle.ray_subtract.proofs.is_hit.Goals as goal

pub returns-then-share_point : goal.returns-then-share_point
returns-then-share_point c =
    rw c.if-share_point.true
    (both-outer _ _ _ c.requires.0.is_sound c.requires.1.is_sound c.requires.2.is_sound c.share_point.result c.share_point.ensures
    c.if-share_point.true)

pub returns-else-share_point : goal.returns-else-share_point
returns-else-share_point c =
    both-inner _ _ _ c.requires.0.is_sound c.requires.1.is_sound c.requires.2.is_sound c.share_point.result c.share_point.ensures
    c.if-share_point.false
    c.share_point-else-share_point.result c.share_point-else-share_point.ensures
