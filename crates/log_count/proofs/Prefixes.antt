-- The totals with one ray more: they fit, and they are those of one ray more.
use mathlib.Core.Path.{◌≡◌, sym, ap₂, ◌∙◌}
use mathlib.Core.Bool.{Bool, true, false, cond, ◌||◌}
use mathlib.Core.List.{List}
use Prim.Native.Nat.{ℕ, ◌+◌, ◌*◌, ◌^◌, ◌≤◌, ◌<◌}
use native.Mathlib.Nat.{mod-eq_of_lt}
use native.Mathlib.Omega.{arith}
use lib.Ieee.{Float}
use Rattle.grid.specs.Rays.{ray_count}
use Rattle.grid.specs.declared.DexelStockSpec.{DexelStockSpec}
use Rattle.grid.specs.declared.DexelGrid.{DexelGrid}
use Rattle.log_model.specs.Logs.{entry_count}
use Rattle.log_keys.specs.Keys.{loses_of}
use Rattle.log_count.specs.Totals.{Countable, Prefixed, sum_below, pairs_of, left_of, is_changed_ray}
use Rattle.log_count.specs.Steps.{ListCounted, CountPre, AddRayPre, AddRayPost}
use Rattle.log_count.specs.declared.ListCount.{ListCount}
use Rattle.log_count.specs.declared.RayTotals.{RayTotals}
use Rattle.log_count.proofs.Sums.{sum-le, sum-prefix, sum-next, sum-plus, sum-times}
use Rattle.log_count.proofs.Bounds.{at-most-all, total-is, total-fits, few_rays, entries_of, all-entries, left_le, left-fits}
use Rattle.stock.specs.Stock.{ray_list, Possible, Certain}
use Rattle.store.specs.Store.{Cells}

module _ {spec : DexelStockSpec} {g : DexelGrid} {c : Cells} {log : List Float} {ray : ℕ} {t : RayTotals} {buffer : List Float}
    {p q : ListCount}
    (a : CountPre spec g c log ray t buffer) (fit : spec.max_intervals + 3 * entry_count log < 2 ^ 64)
    (possible : ListCounted (ray_list spec c ray Possible) (loses_of g log ray false) p)
    (certain : ListCounted (ray_list spec c ray Certain) (loses_of g log ray true) q) where
  ok : Countable spec g c a.counting.intervals log
  ok = a.counting.countable

  -- ---- the ray

  before-is : p.before + q.before ≡ pairs_of spec c ray
  unfolding pairs_of
  before-is = ap₂ ◌+◌ possible.before certain.before

  after_is : p.after + q.after ≡ left_of spec g c log ray
  unfolding left_of
  after_is =
      let most = left-fits ok ray a.inside in
      ap₂ ◌+◌ (possible.after ∙ mod-eq_of_lt (omega arith)) (certain.after ∙ mod-eq_of_lt (omega arith))

  changes-is : (p.changes || q.changes) ≡ is_changed_ray spec g c log ray
  unfolding is_changed_ray
  changes-is = ap₂ ◌||◌ possible.changes certain.changes

  -- ---- sums up to it

  -- all together have at most three pairs more for each entry
  left-most : sum_below (left_of spec g c log) (ray + 1) ≤ sum_below (pairs_of spec c) (ray + 1) + 3 * entry_count log
  left-most = omega (
    arith,
    sum-le (left_of spec g c log) (λ r. pairs_of spec c r + 3 * entries_of ok r) (ray + 1) (λ r _. left_le ok r),
    sum-plus (pairs_of spec c) (λ r. 3 * entries_of ok r) (ray + 1),
    sum-times 3 (entries_of ok) (ray + 1),
    sum-prefix (entries_of ok) (ray_count g) (ray + 1) (omega (arith, a.inside)),
    all-entries ok,
  )

  -- ---- THE LAWS

  pub ray-addable : AddRayPre t p q
  ray-addable =
      let total = total-is ok in
      let most = total-fits ok in
      let few = few_rays ok in
      let counted = at-most-all (is_changed_ray spec g c log) ray in
      let pairs = sum-next (pairs_of spec c) ray in
      let left = sum-next (left_of spec g c log) ray in
      let x = before-is in
      let y = after_is in
      let d = left-most in
      let e = sum-prefix (pairs_of spec c) (ray_count g) (ray + 1) (omega (arith, a.inside)) in
      record {
        before = omega (arith, a.prefixed.pairs);
        after = omega (arith, left-fits ok ray a.inside);
        pairs = omega (arith, a.prefixed.pairs);
        changed = omega (arith, a.inside, a.prefixed.changed);
      }

  pub ray-added : (r : RayTotals) → AddRayPost t p q r → Prefixed spec g c log (ray + 1) r
  ray-added r n = record {
    changed = n.changed ∙ ap₂ (λ (k : ℕ) (b : Bool). k + cond b 1 0) a.prefixed.changed changes-is
        ∙ sym (sum-next (λ k. cond (is_changed_ray spec g c log k) 1 0) ray);
    pairs = omega (
      arith,
      n.pairs,
      a.prefixed.pairs,
      before-is,
      after_is,
      sum-next (pairs_of spec c) ray,
      sum-next (left_of spec g c log) ray,
    );
  }
