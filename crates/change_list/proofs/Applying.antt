-- The law of a change list: what its updates leave of a sound stock. The rays ascend, so each list is updated once at
-- most: a changed ray gets the new lists of its change, which are valid, and every other ray keeps its own.
use mathlib.Core.Path.{◌≡◌, refl, sym, ap, ◌∙◌, subst}
use mathlib.Core.List.Memᴰ
use mathlib.Core.List.{List, [], ◌∷◌, Memᴰ}
use mathlib.Core.Logic.{⊎_elim}
use Prim.Native.Nat.{ℕ, suc, ◌+◌, ◌-◌, ◌*◌, ◌≤◌, ◌<◌}
use native.Mathlib.Decide.{ℕ_discrete}
use native.Mathlib.Omega.{arith}
use lib.Ieee.{Float}
use Rattle.spans.proofs.Sets.{sound-mod}
use Rattle.grid.specs.Axes.{world_axis}
use Rattle.grid.specs.Rays.{ray_count, bounds_of}
use Rattle.grid.specs.declared.DexelStockSpec.{DexelStockSpec}
use Rattle.grid.specs.declared.DexelGrid.{DexelGrid}
use Rattle.grid.proofs.Numbering.{number_lt}
use Rattle.store.specs.Updates.{Update, update, pairs_freed, pairs_laid, applied}
use Rattle.store.proofs.Updating.{after-here, after-other, updated}
use Rattle.spans.specs.Rays.{ValidRay}
use Rattle.stock.specs.Stock.{SoundCells, ray_list, Possible, Certain}
use Rattle.change_list.specs.Changes.{Change, change_ray, Good, AllGood, updates_of}
use Rattle.store.specs.Steps.{Room, Ascending, none, next, list_after, UpdatedStore}
use Rattle.store.specs.Store.{Cells}

module _ (spec : DexelStockSpec) (g : DexelGrid) (c : Cells) (pairs : List Float) where
  ray-below : (from : ℕ) (d : Change) → Good spec g c pairs from d → change_ray g d.axis d.index < ray_count g
  ray-below from d good = number_lt g (world_axis d.axis) d.index good.names.below

  -- the updates of good changes ascend
  pub good-ascend : (ds : List Change) (from k : ℕ) → k ≤ 2 * from → AllGood spec g c pairs from ds
      → Ascending (2 * ray_count g) k (updates_of g ds)
  unfolding AllGood updates_of
  good-ascend [] from k h all = none
  good-ascend (d ∷ ds) from k h all =
      let ray : ℕ = change_ray g d.axis d.index in
      let good = all.0 in
      let v = good.allowed.removal.valid in
      let below : ray < ray_count g = ray-below from d good in
      let up : from ≤ ray = good.names.ascends in
      let lo₁ : k ≤ 2 * ray = omega arith in
      let hi₁ : 2 * ray < 2 * ray_count g = omega arith in
      let lo₂ : suc (2 * ray) ≤ 2 * ray + 1 = omega arith in
      let hi₂ : 2 * ray + 1 < 2 * ray_count g = omega arith in
      let lo₃ : suc (2 * ray + 1) ≤ 2 * suc ray = omega arith in
      next {u = update (2 * ray) d.possible_after} lo₁ hi₁ (sound-mod d.possible_after v.possible_sound)
      (next {u = update (2 * ray + 1) d.certain_after} lo₂ hi₂ (sound-mod d.certain_after v.certain_sound)
      (good-ascend ds (suc ray) (suc (2 * ray + 1)) lo₃ all.1))

  -- a ray's lists after the updates, where they were p and q before, are valid
  pub good-valid : (ds : List Change) (from ray : ℕ) (p q : List Float) → AllGood spec g c pairs from ds
      → ValidRay (bounds_of spec g ray).lo (bounds_of spec g ray).hi p q
      → ValidRay (bounds_of spec g ray).lo (bounds_of spec g ray).hi (list_after (updates_of g ds) (2 * ray) p)
      (list_after (updates_of g ds) (2 * ray + 1) q)
  unfolding AllGood updates_of list_after
  good-valid [] from ray p q all v = v
  good-valid (d ∷ ds) from ray p q all v =
      at (ℕ_discrete ray (change_ray g d.axis d.index))
      (good-valid ds (suc (change_ray g d.axis d.index)) ray p q all.1 v)
    where
      first : Update
      first = update (2 * change_ray g d.axis d.index) d.possible_after

      second : Update
      second = update (2 * change_ray g d.axis d.index + 1) d.certain_after

      at : Dec (ray ≡ change_ray g d.axis d.index)
          → ValidRay (bounds_of spec g ray).lo (bounds_of spec g ray).hi (list_after (updates_of g ds) (2 * ray) p)
          (list_after (updates_of g ds) (2 * ray + 1) q)
          → ValidRay (bounds_of spec g ray).lo (bounds_of spec g ray).hi
          (list_after (updates_of g (d ∷ ds)) (2 * ray) p) (list_after (updates_of g (d ∷ ds)) (2 * ray + 1) q)
      at (yes e) rest =
          let pe : list_after (updates_of g (d ∷ ds)) (2 * ray) p ≡ d.possible_after =
          after-here first (second ∷ updates_of g ds) (2 * ray) p (ap (λ (r : ℕ). 2 * r) e) in
          let qe : list_after (updates_of g (d ∷ ds)) (2 * ray + 1) q ≡ d.certain_after
          = after-other first (second ∷ updates_of g ds) (2 * ray + 1) q
          (λ (z : 2 * ray + 1 ≡ 2 * change_ray g d.axis d.index). omega arith)
          ∙ after-here second (updates_of g ds) (2 * ray + 1) q (ap (λ (r : ℕ). 2 * r + 1) e) in
          subst (λ (x : List Float). ValidRay (bounds_of spec g ray).lo (bounds_of spec g ray).hi
          (list_after (updates_of g (d ∷ ds)) (2 * ray) p) x) (sym qe)
          (subst (λ (x : List Float). ValidRay (bounds_of spec g ray).lo (bounds_of spec g ray).hi x d.certain_after) (sym pe)
          (subst (λ (r : ℕ). ValidRay (bounds_of spec g r).lo (bounds_of spec g r).hi d.possible_after
          d.certain_after) (sym e) all.0.allowed.removal.valid))
      at (no ne) rest =
          let pe : list_after (updates_of g (d ∷ ds)) (2 * ray) p ≡ list_after (updates_of g ds) (2 * ray) p
          = after-other first (second ∷ updates_of g ds) (2 * ray) p
          (λ (z : 2 * ray ≡ 2 * change_ray g d.axis d.index). ne (omega arith))
          ∙ after-other second (updates_of g ds) (2 * ray) p (λ (z : 2 * ray ≡ 2 * change_ray g d.axis d.index + 1). omega arith) in
          let qe : list_after (updates_of g (d ∷ ds)) (2 * ray + 1) q ≡ list_after (updates_of g ds) (2 * ray + 1) q
          = after-other first (second ∷ updates_of g ds) (2 * ray + 1) q
          (λ (z : 2 * ray + 1 ≡ 2 * change_ray g d.axis d.index). omega arith)
          ∙ after-other second (updates_of g ds) (2 * ray + 1) q
          (λ (z : 2 * ray + 1 ≡ 2 * change_ray g d.axis d.index + 1). ne (omega arith)) in
          subst (λ (x : List Float). ValidRay (bounds_of spec g ray).lo (bounds_of spec g ray).hi
          (list_after (updates_of g (d ∷ ds)) (2 * ray) p) x) (sym qe)
          (subst (λ (x : List Float). ValidRay (bounds_of spec g ray).lo (bounds_of spec g ray).hi x
          (list_after (updates_of g ds) (2 * ray + 1) q)) (sym pe) rest)

  -- what a good change does to its ray's lists, which were p and q before
  pub record Has (ds : List Change) (from : ℕ) (d : Change) (p q : List Float) : Type 0 where
    pub below : change_ray g d.axis d.index < ray_count g
    pub after : from ≤ change_ray g d.axis d.index
    pub possible : list_after (updates_of g ds) (2 * change_ray g d.axis d.index) p ≡ d.possible_after
    pub certain : list_after (updates_of g ds) (2 * change_ray g d.axis d.index + 1) q ≡ d.certain_after

  -- a changed ray has the change's new lists
  pub changed-has : (ds : List Change) (from : ℕ) → AllGood spec g c pairs from ds → (d : Change) → Memᴰ d ds
      → (p q : List Float) → Has ds from d p q
  unfolding AllGood updates_of
  changed-has [] from all d m p q = absurd (Memᴰ.not-nil m)
  changed-has (e ∷ ds) from all d m p q = ⊎_elim
      (λ (s : d ≡ e). subst (λ (x : Change). Has (e ∷ ds) from x p q) (sym s) here)
      (λ (t : Memᴰ d ds). there (changed-has ds (suc (change_ray g e.axis e.index)) all.1 d t p q))
      (Memᴰ.cases_cons m)
    where
      first : Update
      first = update (2 * change_ray g e.axis e.index) e.possible_after

      second : Update
      second = update (2 * change_ray g e.axis e.index + 1) e.certain_after

      here : Has (e ∷ ds) from e p q
      here = record {
        below = ray-below from e all.0;
        after = all.0.names.ascends;
        possible = after-here first (second ∷ updates_of g ds) (2 * change_ray g e.axis e.index) p refl;
        certain = after-other first (second ∷ updates_of g ds) (2 * change_ray g e.axis e.index + 1) q
            (λ (z : 2 * change_ray g e.axis e.index + 1 ≡ 2 * change_ray g e.axis e.index). omega arith)
            ∙ after-here second (updates_of g ds) (2 * change_ray g e.axis e.index + 1) q refl;
      }

      there : Has ds (suc (change_ray g e.axis e.index)) d p q → Has (e ∷ ds) from d p q
      there h =
          let up : suc (change_ray g e.axis e.index) ≤ change_ray g d.axis d.index = h.after in
          let lo : from ≤ change_ray g e.axis e.index = all.0.names.ascends in
          record {
            below = h.below;
            after = omega arith;
            possible = after-other first (second ∷ updates_of g ds) (2 * change_ray g d.axis d.index) p
                (λ (z : 2 * change_ray g d.axis d.index ≡ 2 * change_ray g e.axis e.index). omega arith)
                ∙ after-other second (updates_of g ds) (2 * change_ray g d.axis d.index) p
                (λ (z : 2 * change_ray g d.axis d.index ≡ 2 * change_ray g e.axis e.index + 1). omega
                arith) ∙ h.possible;
            certain = after-other first (second ∷ updates_of g ds) (2 * change_ray g d.axis d.index + 1) q
                (λ (z : 2 * change_ray g d.axis d.index + 1 ≡ 2 * change_ray g e.axis e.index). omega arith)
                ∙ after-other second (updates_of g ds) (2 * change_ray g d.axis d.index + 1) q
                (λ (z : 2 * change_ray g d.axis d.index + 1 ≡ 2 * change_ray g e.axis e.index + 1).
                omega arith) ∙ h.certain;
          }

  -- a ray that no change names keeps its lists
  pub other-keeps : (ds : List Change) (ray : ℕ)
      → ((d : Change) → Memᴰ d ds → ray ≡ change_ray g d.axis d.index → ⊥) → (p q : List Float)
      → (list_after (updates_of g ds) (2 * ray) p ≡ p) × (list_after (updates_of g ds) (2 * ray + 1) q ≡ q)
  unfolding updates_of list_after
  other-keeps [] ray apart p q = (refl, refl)
  other-keeps (e ∷ ds) ray apart p q =
      let ne : ray ≡ change_ray g e.axis e.index → ⊥ = apart e (Memᴰ.head refl) in
      let rest = other-keeps ds ray (λ d m. apart d (Memᴰ.tail m)) p q in
      let first : Update = update (2 * change_ray g e.axis e.index) e.possible_after in
      let second : Update = update (2 * change_ray g e.axis e.index + 1) e.certain_after in (
        after-other first (second ∷ updates_of g ds) (2 * ray) p (λ (z : 2 * ray ≡ 2 * change_ray g e.axis e.index). ne (omega arith))
            ∙ after-other second (updates_of g ds) (2 * ray) p
            (λ (z : 2 * ray ≡ 2 * change_ray g e.axis e.index + 1). omega arith) ∙ rest.0,
        after-other first (second ∷ updates_of g ds) (2 * ray + 1) q
            (λ (z : 2 * ray + 1 ≡ 2 * change_ray g e.axis e.index). omega arith)
            ∙ after-other second (updates_of g ds) (2 * ray + 1) q
            (λ (z : 2 * ray + 1 ≡ 2 * change_ray g e.axis e.index + 1). ne (omega arith)) ∙ rest.1,
      )

  -- the stock stays sound, with the intervals that are left and laid, and each list is the one that the changes say
  module _ (total : ℕ) (sound : SoundCells spec g c total) (room : Room spec.max_intervals (2 * ray_count g) c)
      (ds : List Change) (all : AllGood spec g c pairs 0 ds)
      (budget : total - pairs_freed spec.max_intervals c (updates_of g ds) + pairs_laid (updates_of g ds) ≤ spec.max_intervals) where
    pub changes-update : UpdatedStore spec.max_intervals (2 * ray_count g) total c (updates_of g ds)
        (applied spec.max_intervals c (updates_of g ds))
    changes-update = updated sound.store room (good-ascend ds 0 0 (omega arith) all) budget

    pub changes-sound : SoundCells spec g (applied spec.max_intervals c (updates_of g ds))
        (total - pairs_freed spec.max_intervals c (updates_of g ds) + pairs_laid (updates_of g ds))
    changes-sound =
        let u = changes-update in
        record {
          store = u.is_sound;
          valid = λ ray h.
              subst (λ (x : List Float). ValidRay (bounds_of spec g ray).lo (bounds_of spec g ray).hi
              (ray_list spec (applied spec.max_intervals c (updates_of g ds)) ray Possible) x)
              (sym (u.lists (2 * ray + 1) (omega arith)))
              (subst (λ (x : List Float). ValidRay (bounds_of spec g ray).lo (bounds_of spec g ray).hi x
              (list_after (updates_of g ds) (2 * ray + 1) (ray_list spec c ray Certain)))
              (sym (u.lists (2 * ray) (omega arith)))
              (good-valid ds 0 ray (ray_list spec c ray Possible) (ray_list spec c ray Certain) all (sound.valid ray h)));
        }
