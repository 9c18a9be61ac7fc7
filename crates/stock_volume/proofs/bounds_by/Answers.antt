use Rattle.stock_volume.specs.Volume.{bounds_by}
use Rattle.stock_volume.proofs.Lengths.{infinity-is}
use Rattle.stock_volume.proofs.bounds_by.Goals as goal

pub returns : goal.returns
unfolding bounds_by
returns c = rw (
  ← infinity-is,
  ← c.larger.ensures,
  ← c.larger-2.ensures,
  ← c.larger-lower.ensures,
  ← c.smaller.ensures,
  ← c.smaller-2.ensures,
  ← c.smaller-upper.ensures,
  ← c.larger-3.ensures,
  ← c.larger-4.ensures,
)
