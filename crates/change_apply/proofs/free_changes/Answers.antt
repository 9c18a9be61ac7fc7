-- `change_apply::free_changes` meets its contract: before each turn the lists of the first k changes are freed.
use native.Mathlib.Omega.{arith}
use mathlib.Core.Path.{ap, ◌∙◌}
use lib.ListN.{length}
use Rattle.change_apply.proofs.Turns.{freed-none, freed-names, ray-freeable, freed-next, freed-end, all-freed}
use Rattle.store.specs.Store.{Cells}
use Rattle.change_apply.proofs.free_changes.Goals as goal

pub loop-k-init : goal.loop-k-init
loop-k-init c = λ total pairs f. freed-none _ _ _ _ _ total f

pub head-h-requires : goal.head-h-requires
head-h-requires c = omega (arith, c.loop-k-test.true)

pub ray_named-ray-requires : goal.ray_named-ray-requires
ray_named-ray-requires c = let f = c.requires in
    let m = freed-names _ _ _ _ _ f.0 f.2 _ _ (c.loop-k.invariant f.0 f.1 f.2)
    c.loop-k-test.true c.head-h.result c.head-h.ensures in
    (omega (arith, f.2.room.in_heads), m.digit, m.below)

pub free_ray-requires : goal.free_ray-requires
free_ray-requires c =
    let inv = c.loop-k.invariant in
    let f = c.requires in
    ray-freeable _ _ _ _ _ f.0 f.2 _ _ (inv f.0 f.1 f.2) c.loop-k-test.true
    c.head-h.result c.head-h.ensures _
    c.ray_named-ray.ensures

pub loop-k-preserved : goal.loop-k-preserved
loop-k-preserved c = λ total pairs f. freed-next _ _ _ _ _ total f _ _ (c.loop-k.invariant total pairs f)
    c.loop-k-test.true c.head-h.result c.head-h.ensures _ c.ray_named-ray.ensures _ c.free_ray.ensures

pub shape_of-spans : goal.shape_of-spans
shape_of-spans c = let f = c.requires in
    ap (λ (x : Cells). length x.spans)
    (freed-end _ _ _ _ _ f.0 f.2 _ _ (c.loop-k.invariant f.0 f.1 f.2)
    c.loop-k-test.false) ∙ (all-freed _ _ _ _ _ f.0 f.2).kept.spans_size

pub shape_of-links : goal.shape_of-links
shape_of-links c = let f = c.requires in
    ap (λ (x : Cells). length x.links)
    (freed-end _ _ _ _ _ f.0 f.2 _ _ (c.loop-k.invariant f.0 f.1 f.2)
    c.loop-k-test.false) ∙ (all-freed _ _ _ _ _ f.0 f.2).kept.links_size

pub shape_of-heads : goal.shape_of-heads
shape_of-heads c = let f = c.requires in
    ap (λ (x : Cells). length x.heads)
    (freed-end _ _ _ _ _ f.0 f.2 _ _ (c.loop-k.invariant f.0 f.1 f.2)
    c.loop-k-test.false) ∙ (all-freed _ _ _ _ _ f.0 f.2).kept.heads_size

pub returns : goal.returns
returns c = λ total pairs f. freed-end _ _ _ _ _ total f _ _ (c.loop-k.invariant total pairs f)
    c.loop-k-test.false
