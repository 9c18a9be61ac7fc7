-- `commit_apply::apply_log` meets its contract: each call finds in the work buffer what the one before it left.
use borrow.Author.Rules.{rules}
use native.Mathlib.Omega.{arith}
use Prim.Native.Nat.{ℕ, ◌+◌, ◌*◌, ◌^◌, ◌≤◌, ◌<◌}
use mir.Val.{Fits}
use mir.Syntax.{w64}
use lib.ListN.{length}
use Rattle.commit_apply.proofs.Apply.{group-room, mergeable, sizes-fit, freeable, layable, done, cleared-size}
use Rattle.commit_apply.proofs.apply_log.Goals as goal
use Rattle.commit_apply.proofs.apply_log.Goals.{After-entry_count}

-- the sizes lie in the work buffer
room : (c : After-entry_count) → let rays = c.total_rays-rays.result in rays + c.entry_count.result + 2 * rays ≤ length c.args.work.now
room c = sizes-fit _ _ _ _ _ c.requires _ _ _ c.group.ensures c.merge_all-changed.ensures _
    c.total_rays-rays.ensures _ c.entry_count.ensures

bound : (c : After-entry_count) → length c.args.work.now < 2 ^ 64
bound c = omega (arith, c.well_formed.1.1.1.1.1.1.0)

sum_fits : (r e w : ℕ) → r + e + 2 * r ≤ w → w < 2 ^ 64 → Fits w64 (r + e)
sum_fits r e w h b = omega arith

twice-fits : (r e w : ℕ) → r + e + 2 * r ≤ w → w < 2 ^ 64 → Fits w64 (2 * r)
twice-fits r e w h b = omega arith

past_fits : (r e w : ℕ) → r + e + 2 * r ≤ w → w < 2 ^ 64 → Fits w64 (r + e + 2 * r)
past_fits r e w h b = omega arith

-- the cells and the work buffer at the end
finished : goal.returns
finished c =
    done _ _ _ _ _ c.requires _ _ _ c.group.ensures c.merge_all-changed.ensures _
    c.total_rays-rays.ensures _ c.entry_count.ensures _ c.free_all.ensures _ _ c.lay_all.ensures
    c.clear_from.ensures

pub group-requires : goal.group-requires
group-requires c =
    let asked = c.requires in
    (asked.named, group-room _ _ _ _ _ asked)

pub merge_all-changed-requires : goal.merge_all-changed-requires
merge_all-changed-requires c =
    mergeable _ _ _ _ _ c.requires _ c.group.ensures

pub overflow_add-sizes : goal.overflow_add-sizes
overflow_add-sizes c = sum_fits c.total_rays-rays.result c.entry_count.result (length c.args.work.now) (room c) (bound c)

pub free_all-requires : goal.free_all-requires
free_all-requires c =
    freeable _ _ _ _ _ c.requires _ _ _ c.group.ensures c.merge_all-changed.ensures _
    c.total_rays-rays.ensures _ c.entry_count.ensures

pub overflow_mul-rays : goal.overflow_mul-rays
overflow_mul-rays c =
    twice-fits c.total_rays-rays.result c.entry_count.result (length c.args.work.now) (room (goal.at.overflow_mul-rays c).After-entry_count)
    (bound (goal.at.overflow_mul-rays c).After-entry_count)

pub overflow_add-sizes-2 : goal.overflow_add-sizes-2
overflow_add-sizes-2 c =
    past_fits c.total_rays-rays.result c.entry_count.result (length c.args.work.now) (room (goal.at.overflow_add-sizes-2 c).After-entry_count)
    (bound (goal.at.overflow_add-sizes-2 c).After-entry_count)

pub lay_all-requires : goal.lay_all-requires
lay_all-requires c =
    layable _ _ _ _ _ c.requires _ _ _ c.group.ensures c.merge_all-changed.ensures _
    c.total_rays-rays.ensures _ c.entry_count.ensures _ c.free_all.ensures
    c.slice_known-1.given
    c.shared_slice_known-1.given

pub shape_of-work : goal.shape_of-work
shape_of-work c = cleared-size _ _ _ _ _ _ _ _ (finished c)

pub returns : goal.returns
returns c = finished c
