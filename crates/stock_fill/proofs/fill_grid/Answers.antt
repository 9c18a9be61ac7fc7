use native.Mathlib.Omega.{arith}
use Prim.Native.Nat.{◌*◌}
use mathlib.Core.Path.{sym, ap, ◌∙◌}
use Rattle.stock.proofs.Causes.{room_of}
use Rattle.stock_fill.proofs.Answers.{fill-short, fill_done}
use Rattle.store.specs.Store.{cells}
use Rattle.stock_fill.proofs.fill_grid.Goals as goal

pub returns-then-is_short : goal.returns-then-is_short
returns-then-is_short c = let s = cells c.args.spans.now c.args.links.now c.args.heads.now in
    fill-short c.args.spec c.args.g s c.is_short.result c.is_short.ensures c.if-is_short.true

pub fill_records-requires : goal.fill_records-requires
fill_records-requires c = let s = cells c.args.spans.now c.args.links.now c.args.heads.now in
    let r = room_of c.args.spec c.args.g s
    (sym c.is_short.ensures ∙ c.if-is_short.false) in
    (ap (λ k. 2 * k) c.total_rays.ensures, r.in_spans, r.in_links)

pub fill_heads-requires : goal.fill_heads-requires
fill_heads-requires c =
    let s = cells c.args.spans.now c.args.links.now c.args.heads.now in
    let r = room_of c.args.spec c.args.g s
    (sym c.is_short.ensures
    ∙ c.if-is_short.false) in
    omega (arith, r.in_heads, c.total_rays.ensures)

pub returns : goal.returns
returns c =
    let s = cells c.args.spans.now c.args.links.now c.args.heads.now in
    fill_done c.args.spec c.args.g s
    c.total_rays.result _ _ _ (sym c.is_short.ensures
    ∙ c.if-is_short.false) c.total_rays.ensures c.fill_records.ensures.0
    c.fill_records.ensures.1
    c.fill_heads.ensures
