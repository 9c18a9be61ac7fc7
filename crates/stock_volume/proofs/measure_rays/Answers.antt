use mathlib.Core.Path.{refl}
use Rattle.stock_volume.proofs.Lengths.{before-x, before-y, before-z}
use Rattle.stock_volume.proofs.Answers.{axes-good}
use Rattle.store.specs.Store.{cells}
use Rattle.stock_volume.proofs.measure_rays.Goals as goal

pub axis_volume-requires : goal.axis_volume-requires
axis_volume-requires c = let s = cells c.args.spans.now c.args.links.now c.args.heads.now in
    (c.requires, before-x c.args.spec c.args.g s _ refl)

pub axis_volume-requires-2 : goal.axis_volume-requires-2
axis_volume-requires-2 c = let s = cells c.args.spans.now c.args.links.now c.args.heads.now in
    (c.requires, before-y c.args.spec c.args.g s (rw c.in_ok-x.ensures.ok_part at c.axis_volume.ensures).0)

pub axis_volume-requires-3 : goal.axis_volume-requires-3
axis_volume-requires-3 c = let s = cells c.args.spans.now c.args.links.now c.args.heads.now in
    (c.requires, before-z c.args.spec c.args.g s (rw c.in_ok-y.ensures.ok_part at c.axis_volume-2.ensures).0)

pub returns : goal.returns
returns c =
    let s = cells c.args.spans.now c.args.links.now c.args.heads.now in
    axes-good c.args.spec c.args.g s c.box_volume.result c.in_ok-x.x c.in_ok-y.y c.in_ok-z.z
    c.bounds_by.result c.bounds_by.ensures c.box_volume.ensures
    (rw c.in_ok-x.ensures.ok_part at c.axis_volume.ensures)
    (rw c.in_ok-y.ensures.ok_part at c.axis_volume-2.ensures)
    (rw c.in_ok-z.ensures.ok_part at c.axis_volume-3.ensures)
