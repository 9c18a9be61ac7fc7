-- `log_count::count_ray` meets its contract.
use mathlib.Core.Bool.{true, false}
use borrow.Author.Rules.{rules}
use native.Mathlib.Omega.{arith}
use Rattle.log_gather.proofs.Entries.{same_shape}
use Rattle.log_count.proofs.Asking.{list-readable, keyed}
use Rattle.log_count.proofs.Prefixes.{ray-addable, ray-added}
use Rattle.log_count.proofs.count_ray.Goals as goal

pub ray_heads-head-requires : goal.ray_heads-head-requires
ray_heads-head-requires c =
    let asked = c.requires.0 in
    omega (arith, asked.counting.countable.room.in_heads, asked.inside)

pub count_list-p-requires : goal.count_list-p-requires
count_list-p-requires c =
    let asked = c.requires.0 in
    (rw c.ray_heads-head.ensures (list-readable asked false), asked.shaped, asked.some)

pub count_list-c-requires : goal.count_list-c-requires
count_list-c-requires c =
    let asked = c.requires.0 in
    let shaped = same_shape _ _ c.count_list-p.ensures.size asked.shaped in
    (rw c.ray_heads-head.ensures (list-readable asked true), shaped, asked.some)

pub add_ray-requires : goal.add_ray-requires
add_ray-requires c =
    let e = c.ray_heads-head.ensures in
    let asked = c.requires.0 in
    ray-addable asked (omega (arith, asked.counting.countable.room.in_spans, c.well_formed, c.ranges))
    (keyed asked false c.requires.1 (rw e at c.count_list-p.ensures))
    (keyed asked true c.requires.1 (rw e at c.count_list-c.ensures))

pub returns : goal.returns
returns c =
    let e = c.ray_heads-head.ensures in
    let asked = c.requires.0 in
    record {
      size = search rules;
      prefixed = ray-added asked (omega (arith, asked.counting.countable.room.in_spans, c.well_formed, c.ranges))
          (keyed asked false c.requires.1 (rw e at c.count_list-p.ensures))
          (keyed asked true c.requires.1 (rw e at c.count_list-c.ensures)) _ c.add_ray.ensures;
    }
