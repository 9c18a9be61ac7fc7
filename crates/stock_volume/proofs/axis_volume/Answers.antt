use borrow.Author.Count.{below_more}
use native.Mathlib.Omega.{arith}
use Rattle.grid.proofs.Numbering.{offset-le}
use Rattle.stock.specs.Stock.{ValidAt}
use Rattle.stock_volume.proofs.Lengths.{area-is, volume-first, volume-next, along-good}
use Rattle.store.specs.Store.{cells}
use Rattle.stock_volume.proofs.axis_volume.Goals as goal

pub loop-k-init : goal.loop-k-init
loop-k-init c = (
  omega (arith, offset-le c.args.g c.args.axis, c.ray_offset-first.ensures, c.rays-count.ensures),
  volume-first _ _ _ _,
  λ ray l. c.requires.1 ray (omega (arith, c.ray_offset-first.ensures)),
)

pub loop-k-preserved : goal.loop-k-preserved
loop-k-preserved c =
    let inv = c.loop-k.invariant in
    let s = cells c.args.spans.now c.args.links.now c.args.heads.now in (
      inv.0,
      volume-next _ _ _ _ _ _ _ inv.1 c.in_ok-v.ensures.1,
      λ ray l. below_more (ValidAt c.args.spec c.args.g s) _ inv.2 c.in_ok-v.ensures.0 ray (omega arith),
    )

pub returns : goal.returns
returns c =
    let inv = c.loop-k.invariant in
    let s = cells c.args.spans.now c.args.links.now c.args.heads.now in
    along-good c.args.spec c.args.g s c.args.axis _ c.ray_offset-first.result
    c.rays-count.result c.loop-k.k _
    (area-is c.args.g c.args.axis c.cross-across.result c.step_along.result c.step_along-2.result
    c.cross-across.ensures c.step_along.ensures c.step_along-2.ensures) c.ray_offset-first.ensures
    c.rays-count.ensures (omega arith) inv.1 inv.2
