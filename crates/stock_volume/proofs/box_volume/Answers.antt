use Rattle.stock_volume.specs.Volume.{box_volume}
use mathlib.Core.Path.{refl}
use Rattle.stock_volume.proofs.box_volume.Goals as goal

pub returns : goal.returns
unfolding box_volume
returns c = refl
