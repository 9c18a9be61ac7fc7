-- `log_merge::merge_all` meets its contract.
use native.Mathlib.Omega.{arith}
use mathlib.Core.Path.{ap}
use Rattle.std.specs.Prelude.{Option, None, Some}
use Prim.Native.Nat.{◌+◌, ◌^◌, ◌≤◌, ◌<◌}
use lib.ListN.{length}
use Rattle.log_merge.specs.All.{first_size_of, one_if_changed}
use Rattle.log_merge.specs.declared.RayUpdate.{RayUpdate}
use Rattle.log_merge.proofs.Cutting.{new_cells_of, cells-most}
use Rattle.log_merge.proofs.AllRays.{Fits, starts, fits, ray-ready, steps, done}
use Rattle.log_merge.proofs.merge_all.Goals as goal
use Rattle.log_merge.proofs.merge_all.Goals.{After-merge_ray-m, At-loop-ray, in-Some, in_default}

count_most : (o : Option RayUpdate) → one_if_changed o ≤ 1
count_most None = omega arith
count_most (Some u) = omega arith

first-most : (o : Option RayUpdate) → first_size_of o ≤ new_cells_of o + 1
first-most None = omega arith
first-most (Some u) = omega arith

-- the work buffer's length is one of the machine's numbers
long : (l : At-loop-ray) → length l.args.work.now < 2 ^ 64
long l = omega (arith, l.well_formed.1.1.1.1.1.1.0.1)

-- there is room for one more ray
fits-at : (l : At-loop-ray) → Fits l.requires l.total_rays-rays.ensures l.loop-ray.invariant
fits-at l = fits l.requires l.total_rays-rays.ensures l.loop-ray.invariant

-- the ray's new lists end below the end of the buffer
ends_at : (m : After-merge_ray-m) → m.loop-ray.q + new_cells_of m.merge_ray-m.result < 2 ^ 64
ends_at m =
    let f = fits m.requires m.total_rays-rays.ensures m.loop-ray.invariant in
    let below : length m.args.work.now < 2 ^ 64 = omega (arith, m.well_formed.1.1.1.1.1.1.0.1) in
    omega (arith, f.high, f.all, cells-most m.merge_ray-m.ensures.cut, below)

pub loop-ray-init : goal.loop-ray-init
loop-ray-init c =
    rw c.entry_count-e.ensures (starts c.requires c.total_rays-rays.ensures)

pub merge_ray-m-requires : goal.merge_ray-m-requires
merge_ray-m-requires c =
    rw c.entry_count-e.ensures
    (ray-ready c.requires c.total_rays-rays.ensures c.loop-ray.invariant c.loop-ray-test.true)

pub overflow_add-sizes-in-loop-ray : goal.overflow_add-sizes-in-loop-ray
overflow_add-sizes-in-loop-ray c =
    let f = fits-at (goal.at.overflow_add-sizes-in-loop-ray c).At-loop-ray in
    let below = c.loop-ray-test.true in
    omega (arith, c.entry_count-e.ensures, below, f.low, f.high, f.all, long (goal.at.overflow_add-sizes-in-loop-ray c).At-loop-ray)

pub put_sizes-requires : goal.put_sizes-requires
put_sizes-requires c =
    let f = fits-at (goal.at.put_sizes-requires c).At-loop-ray in (
      omega (
        arith,
        c.entry_count-e.ensures,
        c.loop-ray-test.true,
        f.low,
        f.high,
        f.all,
        f.long,
        c.merge_ray-m.ensures.cut.size,
      ),
      omega (arith, ends_at (goal.at.put_sizes-requires c).After-merge_ray-m, first-most c.merge_ray-m.result, f.low),
    )

pub overflow_add-q-in-Some-2 : goal.overflow_add-q-in-Some-2
overflow_add-q-in-Some-2 c =
    omega (arith, ends_at (goal.at.overflow_add-q-in-Some-2 c).After-merge_ray-m, ap new_cells_of c.in-Some.is)

pub loop-ray-preserved : goal.loop-ray-preserved
loop-ray-preserved c =
    steps c.requires c.total_rays-rays.ensures c.loop-ray.invariant
    c.type_inv.spans c.type_inv.log
    c.loop-ray-test.true (long (goal.at.loop-ray-preserved c).At-loop-ray) c.merge_ray-m.ensures
    (rw c.entry_count-e.ensures at c.put_sizes.ensures) (elim c.match-m.branch [
      | in-Some w ↦ omega (arith, w.q-is, ap new_cells_of w.in-Some.is)
      | in_default w ↦ omega (arith, w.q-is, ap new_cells_of w.in_default.is)
    ]) (elim c.match-m.branch [
      | in-Some w ↦ omega (arith, w.changed-is, ap one_if_changed w.in-Some.is)
      | in_default w ↦ omega (arith, w.changed-is, ap one_if_changed w.in_default.is)
    ])

pub returns : goal.returns
returns c =
    done c.requires c.total_rays-rays.ensures c.loop-ray.invariant c.loop-ray-test.false
