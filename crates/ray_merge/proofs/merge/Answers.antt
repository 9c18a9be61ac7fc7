-- `ray_merge::merge` meets its contract.
use mathlib.Core.Path.{ap₂}
use Prim.Native.Nat.{ℕ, ◌+◌, ◌/◌, ◌<◌}
use lib.ListN.{length}
use Rattle.logic.proofs.Bools.{clash}
use Rattle.spans.proofs.Sets.{sound-mod}
use Rattle.ray_merge.specs.Merge.{work_pairs, MergePre}
use Rattle.ray_merge.proofs.Answers.{refuse-short, refuse-bad, accept}
use native.Mathlib.Omega.{arith}
use Rattle.ray_merge.proofs.merge.Goals as goal
use Rattle.ray_merge.proofs.merge.Goals.{Else-not-valid_ray, Else-work-possible}
use Rattle.ray_merge.proofs.merge.Goals.{then-outer-ne0-via-then-outer-ne0, then-outer-ne0-via-else-outer-ne0+then-inner-ne0}
use Rattle.ray_merge.proofs.merge.Goals.{then-outer-ne0-via-else-outer-ne0+else-inner-ne0+then-not-valid_ray}

not_short : (c : Else-work-possible)
    → ¬ (length c.args.work.now / 2 < work_pairs c.args.possible.now c.args.certain.now c.args.outer.now c.args.inner.now)
not_short c h = omega (arith, c.if-work-possible.false)

good : (c : Else-not-valid_ray) → MergePre c.args.lo c.args.hi c.args.possible.now c.args.certain.now c.args.outer.now c.args.inner.now
good c = record {
  outer_whole = c.if-outer-ne0.false;
  inner_whole = c.if-inner-ne0.false;
  ray = c.valid_ray.ensures.0 c.if-not-valid_ray.false;
}

pub returns-then-work-possible : goal.returns-then-work-possible
returns-then-work-possible c =
    refuse-short c.args.lo c.args.hi c.args.possible.now c.args.certain.now c.args.outer.now c.args.inner.now c.args.work.now
    c.if-work-possible.true

pub returns-then-outer-ne0 : goal.returns-then-outer-ne0
returns-then-outer-ne0 c =
    refuse-bad c.args.lo c.args.hi c.args.possible.now c.args.certain.now c.args.outer.now c.args.inner.now c.args.work.now
    (not_short (goal.at.returns-then-outer-ne0 c).Else-work-possible) (elim c.then-outer-ne0.branch [
      | then-outer-ne0-via-then-outer-ne0 w ↦ λ m. w.if-outer-ne0.true m.outer_whole
      | then-outer-ne0-via-else-outer-ne0+then-inner-ne0 w ↦ λ m. w.if-inner-ne0.true m.inner_whole
      | then-outer-ne0-via-else-outer-ne0+else-inner-ne0+then-not-valid_ray w ↦
          λ m. clash w.valid_ray.result (w.valid_ray.ensures.1 m.ray) w.if-not-valid_ray.true
    ])

pub merge_lists-lists-requires : goal.merge_lists-lists-requires
merge_lists-lists-requires c =
    let m = good (goal.at.merge_lists-lists-requires c).Else-not-valid_ray in
    record {
      possible_sound = m.ray.possible_sound;
      certain_sound = m.ray.certain_sound;
      outer_whole = m.outer_whole;
      inner_whole = m.inner_whole;
      room = omega (
        arith,
        sound-mod c.args.possible.now m.ray.possible_sound,
        sound-mod c.args.certain.now m.ray.certain_sound,
        m.outer_whole,
        m.inner_whole,
        c.if-work-possible.false,
      );
    }

pub returns : goal.returns
returns c =
    accept c.args.lo c.args.hi c.args.possible.now c.args.certain.now c.args.outer.now c.args.inner.now c.args.work.now
    c.merge_lists-lists.new.work c.clear_from.new.b c.merge_lists-lists.result (c.cells.result + c.cells-2.result)
    (not_short (goal.at.returns c).Else-work-possible) (good (goal.at.returns c).Else-not-valid_ray) c.merge_lists-lists.ensures
    (ap₂ (λ (x y : ℕ). x + y) c.cells.ensures c.cells-2.ensures) c.clear_from.ensures
