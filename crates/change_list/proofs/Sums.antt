-- What good changes free and lay, and one turn of the check of all changes. A good change says the lists that its ray
-- has, so the pairs that it names before are those that it frees.
use mathlib.Core.Path.{◌≡◌, refl, sym, ap, ◌∙◌, subst}
use mathlib.Core.List.{List, [], ◌∷◌}
use Prim.Native.Nat.{ℕ, suc, ◌+◌, ◌-◌, ◌*◌, ◌%◌, ◌/◌, ◌≤◌, ◌<◌}
use native.Mathlib.Numerals.{add-one}
use native.Mathlib.Omega.{arith}
use lib.Ieee.{Float}
use lib.ListN.{length, drop, length-drop}
use lib.Seq.{length-take-le}
use Rattle.logic.proofs.Bools.{and_left, and_right}
use Rattle.spans.specs.Spans.{equal}
use Rattle.grid.specs.declared.DexelStockSpec.{DexelStockSpec}
use Rattle.grid.specs.declared.DexelGrid.{DexelGrid}
use Rattle.store.specs.Store.{places_of, Cells}
use Rattle.store.specs.Updates.{pairs_from, pairs_freed, pairs_laid}
use Rattle.store_read.proofs.Steps.{ends-length}
use Rattle.change_list.specs.Changes.{head_at, end1, end2, end3, end4, Change, change_by, changes_from, changes_of, change_ray}
use Rattle.change_list.specs.Changes.{Good, AllGood, updates_of}
use Rattle.change_list.specs.Steps.{onward, cursor_of, Stands, CheckChangePost, CheckChangesPost}
use Rattle.change_list.specs.declared.ChangeHead.{ChangeHead}
use Rattle.change_list.specs.declared.ChangeCursor.{ChangeCursor}
use Rattle.std.specs.Prelude.{None, Some}
use Rattle.spans.proofs.Sets.{equal-length}
use Rattle.change_list.proofs.ListTests.{bad-due, due-bad}
use Rattle.stock.specs.Stock.{ray_list, Possible, Certain}

pub part_length : (pairs : List Float) (at n : ℕ) → at + 2 * n ≤ length pairs → length (pairs_from pairs at n) ≡ 2 * n
part_length pairs at n h = length-take-le (2 * n) (drop at pairs) (omega (arith, length-drop at pairs))

module _ (spec : DexelStockSpec) (g : DexelGrid) (c : Cells) (changes : List ℕ) (pairs : List Float) where
  -- how many pairs a good change frees and lays
  pub freed-by : (from at : ℕ) (h : ChangeHead) (ds : List Change) → Good spec g c pairs from (change_by h pairs at)
      → pairs_freed spec.max_intervals c (updates_of g (change_by h pairs at ∷ ds)) ≡ h.before_possible
      + h.before_certain + pairs_freed spec.max_intervals c (updates_of g ds)
  unfolding pairs_freed updates_of
  freed-by from at h ds good =
      let ray : ℕ = change_ray g h.axis h.index in
      let w = good.within in
      let p : length (ray_list spec c ray Possible) ≡ length (pairs_from pairs at h.before_possible) =
      equal-length (ray_list spec c ray Possible) (pairs_from pairs at h.before_possible)
      (and_left _ _ good.allowed.was) in
      let q : length (ray_list spec c ray Certain) ≡ length (pairs_from pairs (end1 h at) h.before_certain) =
      equal-length (ray_list spec c ray Certain) (pairs_from pairs (end1 h at) h.before_certain)
      (and_right (equal (ray_list spec c ray Possible) (pairs_from pairs at h.before_possible)) _ good.allowed.was) in
      let pe : length (ray_list spec c ray Possible) ≡ 2
      * length (places_of spec.max_intervals c.links c.heads (2 * ray)) =
      ends-length c.spans (places_of spec.max_intervals c.links c.heads (2 * ray)) in
      let qe : length (ray_list spec c ray Certain) ≡ 2
      * length (places_of spec.max_intervals c.links c.heads (2 * ray + 1)) =
      ends-length c.spans (places_of spec.max_intervals c.links c.heads (2 * ray + 1)) in
      omega (
        arith,
        part_length pairs at h.before_possible (omega arith),
        part_length pairs (end1 h at) h.before_certain (omega arith),
      )

  pub laid_by : (from at : ℕ) (h : ChangeHead) (ds : List Change) → Good spec g c pairs from (change_by h pairs at)
      → pairs_laid (updates_of g (change_by h pairs at ∷ ds)) ≡ h.after_possible + h.after_certain + pairs_laid (updates_of g ds)
  unfolding pairs_laid updates_of
  laid_by from at h ds good = let w = good.within in
      omega (
        arith,
        part_length pairs (end2 h at) h.after_possible (omega arith),
        part_length pairs (end3 h at) h.after_certain (omega arith),
      )

  -- past the first k of all changes
  pub record Passed (k : ℕ) (cur : ChangeCursor) : Type 0 where
    pub most : k ≤ length changes / 6
    pub stands : Stands pairs cur
    pub back : AllGood spec g c pairs 0 (changes_of changes pairs)
        → AllGood spec g c pairs cur.from (changes_from changes pairs (length changes / 6 - k) k cur.at)
    pub forth : AllGood spec g c pairs cur.from (changes_from changes pairs (length changes / 6 - k) k cur.at)
        → AllGood spec g c pairs 0 (changes_of changes pairs)
    pub freed : cur.before + pairs_freed spec.max_intervals c
        (updates_of g (changes_from changes pairs (length changes / 6 - k) k cur.at))
        ≡ pairs_freed spec.max_intervals c (updates_of g (changes_of changes pairs))
    pub laid : cur.after + pairs_laid (updates_of g (changes_from changes pairs (length changes / 6 - k) k cur.at))
        ≡ pairs_laid (updates_of g (changes_of changes pairs))

  pub none_passed : length pairs % 2 ≡ 0 → Passed 0 (cursor_of 0 0 0 0)
  none_passed even =
      let z : length changes / 6 - 0 ≡ length changes / 6 = omega arith in
      let is : changes_from changes pairs (length changes / 6 - 0) 0 0 ≡ changes_of changes pairs =
      ap (λ (r : ℕ). changes_from changes pairs r 0 0) z in
      record {
        most = omega arith;
        stands = record { whole = even; even = refl; within = omega arith; sums = omega arith };
        back = λ a. subst (AllGood spec g c pairs 0) (sym is) a;
        forth = λ a. subst (AllGood spec g c pairs 0) is a;
        freed = omega (arith, ap (λ (ds : List Change). pairs_freed spec.max_intervals c (updates_of g ds)) is);
        laid = omega (arith, ap (λ (ds : List Change). pairs_laid (updates_of g ds)) is);
      }

  pub rest-is : (k at : ℕ) → k < length changes / 6
      → changes_from changes pairs (length changes / 6 - k) k at ≡ change_by (head_at changes k) pairs at
      ∷ changes_from changes pairs (length changes / 6 - (k + 1)) (k + 1) (end4 (head_at changes k) at)
  unfolding changes_from
  rest-is k at l =
      let e : length changes / 6 - k ≡ suc (length changes / 6 - (k + 1)) = omega arith in
      ap (λ (r : ℕ). changes_from changes pairs r k at) e
      ∙ ap (λ (i : ℕ). change_by (head_at changes k) pairs at ∷ changes_from changes pairs (length changes / 6 - (k + 1))
      i (end4 (head_at changes k) at)) (sym (add-one k))

  pub bad-change : (k : ℕ) (cur : ChangeCursor) (h : ChangeHead) → Passed k cur → k < length changes / 6
      → h ≡ head_at changes k → CheckChangePost spec g c pairs h cur None
      → CheckChangesPost spec g c pairs (changes_of changes pairs) None
  unfolding AllGood
  bad-change k cur h p l e n = bad-due _ λ all.
      due-bad _ n (subst (λ (x : ChangeHead). Good spec g c pairs cur.from (change_by x pairs cur.at)) (sym e)
      (subst (AllGood spec g c pairs cur.from) (rest-is k cur.at l) (p.back all)).0)

  pub next-change : (k : ℕ) (cur next : ChangeCursor) (h : ChangeHead) → Passed k cur → k < length changes / 6
      → h ≡ head_at changes k → CheckChangePost spec g c pairs h cur (Some next) → Passed (k + 1) next
  unfolding AllGood
  next-change k cur next h p l e n =
      subst (Passed (k + 1)) (sym (n.1 ∙ ap (λ (x : ChangeHead). onward g x cur) e))
      (made (subst (λ (x : ChangeHead). Good spec g c pairs cur.from (change_by x pairs cur.at)) e n.0))
    where
      made : Good spec g c pairs cur.from (change_by (head_at changes k) pairs cur.at)
          → Passed (k + 1) (onward g (head_at changes k) cur)
      made good =
          let r : List Change = changes_from changes pairs (length changes / 6 - (k + 1)) (k + 1) (end4 (head_at changes k) cur.at) in
          let w = good.within in
          let s = p.stands in
          let is = rest-is k cur.at l in
          let f = ap (λ (ds : List Change). pairs_freed spec.max_intervals c (updates_of g ds)) is
          ∙ freed-by cur.from cur.at (head_at changes k) r good in
          let d = ap (λ (ds : List Change). pairs_laid (updates_of g ds)) is ∙ laid_by cur.from cur.at (head_at changes k) r good in
          record {
            most = omega arith;
            stands = record { whole = s.whole; even = omega (arith, s.even); within = w; sums = omega (arith, s.sums) };
            back = λ all. subst (λ (i : ℕ). AllGood spec g c pairs i r)
                (sym (add-one (change_ray g (head_at changes k).axis (head_at changes k).index)))
                (subst (AllGood spec g c pairs cur.from) is (p.back all)).1;
            forth = λ rest. p.forth (subst (AllGood spec g c pairs cur.from) (sym is) (
              good,
              subst (λ (i : ℕ). AllGood spec g c pairs i r)
                  (add-one (change_ray g (head_at changes k).axis (head_at changes k).index)) rest,
            ));
            freed = omega (arith, f, p.freed);
            laid = omega (arith, d, p.laid);
          }

  pub all-passed : (k : ℕ) (cur : ChangeCursor) → Passed k cur → length changes / 6 ≤ k
      → CheckChangesPost spec g c pairs (changes_of changes pairs) (Some cur)
  unfolding AllGood changes_from pairs_freed pairs_laid updates_of
  all-passed k cur p l =
      let none : length changes / 6 - k ≡ 0 = omega arith in
      let is : changes_from changes pairs (length changes / 6 - k) k cur.at ≡ [] =
      ap (λ (r : ℕ). changes_from changes pairs r k cur.at) none in
      let f = ap (λ (ds : List Change). pairs_freed spec.max_intervals c (updates_of g ds)) is in
      let d = ap (λ (ds : List Change). pairs_laid (updates_of g ds)) is in (
        p.forth (subst (AllGood spec g c pairs cur.from) (sym is) tt),
        omega (arith, f, p.freed),
        omega (arith, d, p.laid),
        omega (arith, p.stands.sums, p.stands.within),
      )
