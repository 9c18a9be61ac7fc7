use Prim.Native.Nat.{◌+◌, ◌≤◌}
use mathlib.Core.Path.{◌≡◌}
use Rattle.grid.specs.Rays.{ray_count}
use Rattle.stock.specs.Stock.{ValidTo}
use Rattle.stock_volume.specs.Volume.{volume_to}
use Rattle.store.specs.Store.{cells}
use Rattle.stock_volume.proofs.axis_volume.Given as goal

abbrev pub invariant-loop-k : goal.invariant-loop-k
invariant-loop-k l = (l.first + l.count ≤ ray_count l.g)
    × (l.v ≡ volume_to l.spec (cells l.spans l.links l.heads) l.area l.first l.k)
    × ValidTo l.spec l.g (cells l.spans l.links l.heads) (l.first + l.k)
