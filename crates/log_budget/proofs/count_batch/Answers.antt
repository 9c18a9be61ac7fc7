use mathlib.Core.Path.{refl, ◌∙◌}
use native.Mathlib.Omega.{arith}
use borrow.Author.Rules.{rules}
use Rattle.log_budget.proofs.Turns.{ray-fits, reached-start, ray-asked, keys-of-ray, reached-turn, reached-end}
use Rattle.log_budget.proofs.count_batch.Goals as goal
use Rattle.log_budget.proofs.count_batch.Goals.{After-count_ray-arg-in-loop-i-1, At-loop-i}

pub loop-i-init : goal.loop-i-init
loop-i-init c =
    let pre = c.requires in
    (refl, reached-start pre.0 pre.1)

pub offset_bounds-keys-i : goal.offset_bounds-keys-i
offset_bounds-keys-i c =
    let room = c.requires.1.room in
    let keys = c.well_formed.1.1.1.1.1.1.1.1.0 in
    search rules

pub bounds-keys-i : goal.bounds-keys-i
bounds-keys-i c = omega (arith, c.requires.1.room)

pub nonzero_div-ray : goal.nonzero_div-ray
nonzero_div-ray c =
    omega (arith, c.entry_count-n.ensures, c.requires.0.some)

pub overflow_add-ray : goal.overflow_add-ray
overflow_add-ray c =
    let pre = c.requires in
    rw c.entry_count-n.ensures (omega (arith, ray-fits pre.0 pre.1 c.loop-i.i c.loop-i-test.true))

pub end_of_ray-j-requires : goal.end_of_ray-j-requires
end_of_ray-j-requires c =
    let pre = c.requires in
    (c.loop-i-test.true, pre.1.room, omega (arith, c.entry_count-n.ensures, pre.0.some))

pub offset_bounds-keys-i-in-loop-i : goal.offset_bounds-keys-i-in-loop-i
offset_bounds-keys-i-in-loop-i c =
    let room = c.requires.1.room in
    let keys = c.well_formed.1.1.1.1.1.1.1.1.0 in
    let fit = c.loop-i-test.true in
    search rules

pub slice_bounds-count_ray-start : goal.slice_bounds-count_ray-start
slice_bounds-count_ray-start c = let e = c.end_of_ray-j.ensures.past in omega arith

pub slice_bounds-count_ray-end : goal.slice_bounds-count_ray-end
slice_bounds-count_ray-end c =
    let pre = c.requires in
    omega (arith, c.end_of_ray-j.ensures.most, pre.1.room)

pub count_ray-t-requires : goal.count_ray-t-requires
count_ray-t-requires c =
    let e = c.entry_count-n.ensures in
    let pre = c.requires in
    let s = c.loop-i.invariant.1 in
    let fit = c.loop-i-test.true in
    let run = rw e at c.end_of_ray-j.ensures in
    rw e (ray-asked pre.0 pre.1 s fit _ c.loop-i.invariant.0, keys-of-ray pre.0 pre.1 s fit run)

pub loop-i-preserved : goal.loop-i-preserved
loop-i-preserved c =
    let e = c.entry_count-n.ensures in
    let pre = c.requires in
    let counted = rw e at c.count_ray-t.ensures in
    let fit = c.loop-i-test.true in
    let run = rw e at c.end_of_ray-j.ensures in
    (counted.size ∙ c.loop-i.invariant.0, reached-turn pre.0 pre.1 c.loop-i.invariant.1 fit run counted.prefixed)

pub returns : goal.returns
returns c =
    let pre = c.requires in
    record { size = c.loop-i.invariant.0; prefixed = reached-end pre.0 pre.1 c.loop-i-test.false c.loop-i.invariant.1 }
