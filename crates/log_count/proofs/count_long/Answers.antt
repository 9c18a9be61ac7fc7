-- `log_count::count_long` meets its contract. The loop goes from stretch to stretch, and each but the last leaves fewer hits that begin
-- past it.
use mathlib.Core.Path.{◌∙◌}
use mathlib.Core.Bool.{true, false}
use native.Mathlib.Omega.{arith}
use Rattle.logic.proofs.Bools.{not-true, not-false}
use Rattle.log_gather.proofs.Entries.{same_shape}
use Rattle.log_count.proofs.Bounds.{few_rays}
use Rattle.log_count.proofs.Asking.{list-readable, list-sound}
use Rattle.log_count.proofs.Prefixes.{ray-addable, ray-added}
use Rattle.log_count.proofs.Onward.{onward-start, onward-next, onward-falls, onward-counted}
use Rattle.log_count.proofs.count_long.Goals as goal

pub ray_heads-head-requires : goal.ray_heads-head-requires
ray_heads-head-requires c =
    let asked = c.requires.0 in
    omega (arith, asked.counting.countable.room.in_heads, asked.inside)

pub start-p-requires : goal.start-p-requires
start-p-requires c =
    let asked = c.requires.0 in
    rw c.ray_heads-head.ensures (list-readable asked false)

pub start-c-requires : goal.start-c-requires
start-c-requires c =
    let asked = c.requires.0 in
    rw c.ray_heads-head.ensures (list-readable asked true)

pub loop-w-init : goal.loop-w-init
loop-w-init c =
    let asked = c.requires.0 in
    let e = c.ray_heads-head.ensures in
    onward-start (list-sound asked false) (list-sound asked true) (rw e at c.start-p.ensures) (rw e at c.start-c.ensures)

pub take_part-w-requires : goal.take_part-w-requires
take_part-w-requires c =
    let inv = c.loop-w.invariant in
    let asked = c.requires.0 in
    record {
      few = few_rays asked.counting.countable;
      named = asked.counting.countable.named;
      some = asked.some;
      keys_some = omega (arith, c.requires.1, inv.keys_size);
      shaped = same_shape _ _ inv.size asked.shaped;
      readable = inv.readable;
    }

pub loop-w-smaller : goal.loop-w-smaller
loop-w-smaller c =
    onward-falls c.loop-w.invariant c.take_part-w.ensures (not-false _ c.if-not-w-top.false-raw)

pub loop-w-preserved : goal.loop-w-preserved
loop-w-preserved c =
    onward-next c.loop-w.invariant c.take_part-w.ensures

pub end_list-requires : goal.end_list-requires
end_list-requires c =
    let asked = c.requires.0 in
    (rw c.ray_heads-head.ensures (list-readable asked false), c.take_part-w.ensures.readable false)

pub end_list-requires-2 : goal.end_list-requires-2
end_list-requires-2 c =
    let asked = c.requires.0 in
    (rw c.ray_heads-head.ensures (list-readable asked true), c.take_part-w.ensures.readable true)

pub add_ray-requires : goal.add_ray-requires
add_ray-requires c =
    let asked = c.requires.0 in
    let e = c.ray_heads-head.ensures in
    let inv = c.loop-w.invariant in
    let counted = onward-counted inv c.take_part-w.ensures (not-true _ c.if-not-w-top.true-raw) in
    ray-addable asked (omega (arith, asked.counting.countable.room.in_spans, c.well_formed, c.ranges))
    (counted false _ (list-sound asked false) (rw e at c.end_list.ensures))
    (counted true _ (list-sound asked true) (rw e at c.end_list-2.ensures))

pub shape_of-keys : goal.shape_of-keys
shape_of-keys c =
    c.take_part-w.ensures.keys_size ∙ c.loop-w.invariant.keys_size

pub shape_of-buffer : goal.shape_of-buffer
shape_of-buffer c =
    c.take_part-w.ensures.size ∙ c.loop-w.invariant.size

pub returns : goal.returns
returns c =
    let asked = c.requires.0 in
    let e = c.ray_heads-head.ensures in
    let inv = c.loop-w.invariant in
    let counted = onward-counted inv c.take_part-w.ensures (not-true _ c.if-not-w-top.true-raw) in (
      shape_of-keys c,
      record {
        size = shape_of-buffer c;
        prefixed = ray-added asked (omega (arith, asked.counting.countable.room.in_spans, c.well_formed, c.ranges))
            (counted false _ (list-sound asked false) (rw e at c.end_list.ensures))
            (counted true _ (list-sound asked true) (rw e at c.end_list-2.ensures)) _ c.add_ray.ensures;
      },
    )
