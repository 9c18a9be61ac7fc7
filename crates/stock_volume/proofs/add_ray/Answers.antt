use Rattle.stock_volume.proofs.Lengths.{ray-added}
use Rattle.store.specs.Store.{cells}
use Rattle.stock_volume.proofs.add_ray.Goals as goal

pub returns : goal.returns
returns c = let s = cells c.args.spans.now c.args.links.now c.args.heads.now in
    ray-added c.args.spec c.args.g s c.args.area c.args.ray c.args.v c.ray_bounds-bounds.result c.in-Some.r
    c.ray_bounds-bounds.ensures (rw c.ray_heads-head.ensures at c.in-Some.ensures)
