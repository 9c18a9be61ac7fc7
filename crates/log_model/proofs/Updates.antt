-- The updates that a log asks: in order, as many as rays change, and the lists that they leave. By induction over the
-- rays: the two updates of one ray are of its own two lists, so they say nothing about any other ray.
use mathlib.Core.Path.{◌≡◌, refl, sym, ap, ap₂, ◌∙◌, subst}
use mathlib.Core.Bool.{Bool, true, false, not, ◌&&◌, ◌||◌}
use mathlib.Core.Logic.{inl, inr}
use Rattle.logic.proofs.Bools.{by_cases}
use mathlib.Core.List.{List, ◌∷◌}
use Prim.Native.Nat.{ℕ, suc, ◌+◌, ◌*◌, ◌≤◌, ◌<◌}
use native.Mathlib.Bridge.{le_prop}
use native.Mathlib.Decide.{ℕ_discrete}
use native.Mathlib.Omega.{arith}
use lib.Ieee.{Float}
use Rattle.spans.specs.Spans.{holds, sound, equal, ListOf, set_minus}
use Rattle.spans.proofs.Sets.{sound-mod}
use Rattle.grid.specs.Rays.{ray_count, Ray}
use Rattle.grid.specs.declared.DexelGrid.{DexelGrid}
use Rattle.store.specs.Updates.{Update, update}
use Rattle.store.proofs.Updating.{after-below, after-here, after-other}
use Rattle.spans.specs.Overlay.{less_of}
use Rattle.span_overlay.proofs.Less.{less-list}
use Rattle.ray_subtract.specs.Subtract.{either_hit}
use Rattle.ray_subtract.proofs.Sparing.{less-both-list}
use Rattle.log_model.specs.declared.Entry.{Entry}
use Rattle.log_model.specs.Logs.{removed}
use Rattle.log_model.proofs.Doubles.{Doubles}
use Rattle.log_model.specs.Model.{sets_after, RayChanges, Count, counted, skipped}
use Rattle.log_model.specs.Counts.{is_hit_by, hits_on_list, is_ray_changed}
use Rattle.log_model.proofs.Meets.{moves-hit}
use Rattle.log_model.proofs.Decided.{sets-after-hits, changes-by, stays, not_left, not_right}
use Rattle.log_model.specs.Updates.{list_sets, MergedByLog, MergeUpdates, none, same, new}
use Rattle.log_model.specs.Steps.{ListAfterLog}
use Rattle.store.specs.Steps.{Ascending, list_after, none as no_more, next}
use Rattle.stock.specs.Stock.{Kind, Possible, Certain, list_number}

-- a ray is its number
pub moved : (g : DexelGrid) (P : Ray g → Type 0) (i j : ℕ) (h : i < ray_count g) → i ≡ j → (k : j < ray_count g) → P (i, h) → P (j, k)
moved g P i j h e k x = subst (λ (n : ℕ). (k : n < ray_count g) → P (n, k)) e
    (λ k. subst (λ (z : i < ray_count g). P (i, z)) (le_prop h k) x) k

above : (i j : ℕ) → i ≤ j → (i ≡ j → ⊥) → suc i ≤ j
above i j h ne = omega arith

-- ---- the numbers of a ray's lists
pub number-possible : (r : ℕ) → list_number r Possible ≡ 2 * r
number-possible r = refl

pub number-certain : (r : ℕ) → list_number r Certain ≡ 2 * r + 1
number-certain r = refl

two-numbers : (r : ℕ) → list_number r Certain ≡ 2 * r → ⊥
two-numbers r e = omega (arith, number-certain r)

number-below : (r : ℕ) (k : Kind) → list_number r k < 2 * suc r
number-below r Possible = omega (arith, number-possible r)
number-below r Certain = omega (arith, number-certain r)

-- another ray has other numbers
other-possible : (i r : ℕ) (k : Kind) → suc i ≤ r → list_number r k ≡ 2 * i → ⊥
other-possible i r Possible h e = omega (arith, number-possible r)
other-possible i r Certain h e = omega (arith, number-certain r)

other-certain : (i r : ℕ) (k : Kind) → suc i ≤ r → list_number r k ≡ 2 * i + 1 → ⊥
other-certain i r Possible h e = omega (arith, number-possible r)
other-certain i r Certain h e = omega (arith, number-certain r)

-- ---- the lists after the log are the sound lists of what it leaves
list-of-same : (s t : Float → Bool) (m : List Float) → ((p : Float) → t p ≡ s p) → ListOf t m → ListOf s m
list-of-same s t m e x = record { is_sound = x.is_sound; points = λ p. x.points p ∙ e p }

module _ (g : DexelGrid) (lists : Ray g → Kind → List Float) (es : List Entry) (r : Ray g) (p c : List Float)
    (x : MergedByLog g lists es r p c) where
  pub exact-possible : sound (lists r Possible) ≡ true → ListAfterLog g lists es r Possible p
  unfolding sets_after removed
  exact-possible s = rw x.possible_is
      (list-of-same (sets_after g (list_sets g lists) es r Possible) (set_minus (holds (lists r Possible)) (holds x.inner_normal))
      (less_of (lists r Possible) x.inner_normal)
      (λ q. ap (λ (b : Bool). holds (lists r Possible) q && not b) (x.inner_is.list.points q))
      (less-list (lists r Possible) x.inner_normal s x.inner_is.list.is_sound))

  pub exact-certain : sound (lists r Certain) ≡ true → ListAfterLog g lists es r Certain c
  unfolding sets_after removed
  exact-certain s = rw x.certain_is
      (list-of-same (sets_after g (list_sets g lists) es r Certain)
      (set_minus (holds (lists r Certain)) (either_hit x.outer_normal x.inner_normal))
      (less_of (less_of (lists r Certain) x.outer_normal) x.inner_normal)
      (λ q. ap₂ (λ (a b : Bool). holds (lists r Certain) q && not (a || b)) (x.outer_is.list.points q) (x.inner_is.list.points q))
      (less-both-list (lists r Certain) x.outer_normal x.inner_normal s x.outer_is.list.is_sound x.inner_is.list.is_sound))

  -- a boundary of the list moves exactly when a hit has a point of it
  moves-by : (k : Kind) (l : List Float) → sound (lists r k) ≡ true → ListAfterLog g lists es r k l
      → not (equal (lists r k) l) ≡ is_hit_by (lists r k) (hits_on_list g es r k)
  moves-by k l s y = moves-hit (lists r k) (hits_on_list g es r k) l s
      (list-of-same (λ q. holds (lists r k) q && not (holds (hits_on_list g es r k) q)) (sets_after g (list_sets g lists) es r k) l
      (λ q. sets-after-hits g r (list_sets g lists) es k q) y)

  -- so the ray changes exactly when a boundary of one of its lists moves
  pub exact-changes : sound (lists r Possible) ≡ true → sound (lists r Certain) ≡ true
      → not (equal (lists r Possible) p && equal (lists r Certain) c) ≡ is_ray_changed g lists es r
  unfolding is_ray_changed
  exact-changes sp sc =
      either-not (equal (lists r Possible) p) (equal (lists r Certain) c)
      ∙ ap₂ ◌||◌ (moves-by Possible p sp (exact-possible sp)) (moves-by Certain c sc (exact-certain sc))
    where
      either-not : (a b : Bool) → not (a && b) ≡ (not a || not b)
      either-not true b = refl
      either-not false b = refl

module _ (g : DexelGrid) (lists : Ray g → Kind → List Float) (es : List Entry)
    (each : (r : Ray g) (k : Kind) → ListOf (holds (lists r k)) (lists r k)) where
  -- the updates are of whole pairs and in the order of the lists
  pub updates-ascend : {ray m : ℕ} {us : List Update} → MergeUpdates g lists es ray us m → Ascending (2 * ray_count g) (2 * ray) us
  updates-ascend (none e) = no_more
  updates-ascend (same {ray = ray} h e t) = lower (updates-ascend t)
    where
      lower : {us : List Update} → Ascending (2 * ray_count g) (2 * suc ray) us → Ascending (2 * ray_count g) (2 * ray) us
      lower no_more = no_more
      lower (next {u = u} lo hi whole a) = next {k = 2 * ray} {u = u} (omega arith) hi whole a
  updates-ascend (new {ray = ray} {p = p} {c = c} {us = us} h e x t) =
      let a = exact-possible g lists es (ray, h) p c x (each (ray, h) Possible).is_sound in
      let b = exact-certain g lists es (ray, h) p c x (each (ray, h) Certain).is_sound in
      next {k = 2 * ray} {u = update (2 * ray) p} (omega arith) (omega arith) (sound-mod p a.is_sound)
      (next {k = suc (2 * ray)} {u = update (2 * ray + 1) c} (omega arith) (omega arith)
      (sound-mod c b.is_sound) (subst (λ (k : ℕ). Ascending (2 * ray_count g) k us) (numbers ray) (updates-ascend t)))
    where
      numbers : (ray : ℕ) → 2 * suc ray ≡ suc (2 * ray + 1)
      numbers ray = omega arith

  -- the rays that change are counted
  pub updates-count : {ray m a : ℕ} {us : List Update} → MergeUpdates g lists es ray us m
      → Count g (RayChanges g (λ r k. holds (lists r k)) es) ray a
      → Count g (RayChanges g (λ r k. holds (lists r k)) es) (ray_count g) (a + m)
  updates-count {m = m} {a = a} (none {ray = ray} e) t =
      subst (λ (x : ℕ). Count g (RayChanges g (λ r k. holds (lists r k)) es) (ray_count g) x) (sum a)
      (subst (λ (x : ℕ). Count g (RayChanges g (λ r k. holds (lists r k)) es) x a) e t)
    where
      sum : (a : ℕ) → a ≡ a + 0
      sum a = omega arith
  updates-count (same {ray = ray} h e u) t = updates-count u (skipped h e t)
  updates-count {a = a} (new {ray = ray} {m = m} h e x u) t = subst
      (λ (x : ℕ). Count g (RayChanges g (λ r k. holds (lists r k)) es) (ray_count g) x) (sum a m) (updates-count u (counted h e t))
    where
      sum : (a m : ℕ) → suc a + m ≡ a + suc m
      sum a m = omega arith

  -- where the ends of the lists and of the hits are doubles
  module _ (d : Doubles g lists es) where
    -- a ray that does not change keeps the sound lists of its sets
    pub list-after-same : (r : Ray g) → ¬ RayChanges g (λ r k. holds (lists r k)) es r → (k : Kind)
        → ListAfterLog g lists es r k (lists r k)
    unfolding is_ray_changed
    list-after-same r n k = record {
      is_sound = (each r k).is_sound;
      points = λ p. sym ((stays g (λ r k. holds (lists r k)) lists each es r k).1 (unhit k) p);
    }
      where
        e : is_ray_changed g lists es r ≡ false
        e = elim (by_cases (is_ray_changed g lists es r)) [
          | inl y ↦ absurd (n ((changes-by g (λ r k. holds (lists r k)) lists each es d r).0 y))
          | inr y ↦ y
        ]

        unhit : (k : Kind) → is_hit_by (lists r k) (hits_on_list g es r k) ≡ false
        unhit Possible = not_left (is_hit_by (lists r Possible) (hits_on_list g es r Possible))
            (is_hit_by (lists r Certain) (hits_on_list g es r Certain)) e
        unhit Certain = not_right (is_hit_by (lists r Possible) (hits_on_list g es r Possible))
            (is_hit_by (lists r Certain) (hits_on_list g es r Certain)) e

    -- each list after the updates is the sound list of what the log leaves
    pub updates-leave : {ray m : ℕ} {us : List Update} → MergeUpdates g lists es ray us m
        → (r : ℕ) (l : r < ray_count g) → ray ≤ r → (k : Kind)
        → ListAfterLog g lists es (r, l) k (list_after us (list_number r k) (lists (r, l) k))
    updates-leave (none e) r l h k = absurd (omega arith)
    updates-leave (same {ray = ray} {us = us} i e t) r l h k = at (ℕ_discrete ray r) (λ (h : suc ray ≤ r). updates-leave t r l h k)
      where
        at : Dec (ray ≡ r) → (suc ray ≤ r
            → ListAfterLog g lists es (r, l) k (list_after us (list_number r k) (lists (r, l) k)))
            → ListAfterLog g lists es (r, l) k (list_after us (list_number r k) (lists (r, l) k))
        at (yes d) rec = moved g (λ x. ListAfterLog g lists es x k (list_after us (list_number x.0 k) (lists x k))) ray r i d l
            (subst (ListAfterLog g lists es (ray, i) k)
            (sym (after-below (updates-ascend t) (list_number ray k) (lists (ray, i) k) (number-below ray k)))
            (list-after-same (ray, i) e k))
        at (no d) rec = rec (above ray r h d)
    updates-leave (new {ray = ray} {p = p} {c = c} {us = us} i e x t) r l h k = at (ℕ_discrete ray r)
        (λ (h : suc ray ≤ r). updates-leave t r l h k)
      where
        here : (k : Kind) → ListAfterLog g lists es (ray, i) k
            (list_after (update (2 * ray) p ∷ update (2 * ray + 1) c ∷ us) (list_number ray k) (lists (ray, i) k))
        here Possible = subst (ListAfterLog g lists es (ray, i) Possible)
            (sym (after-here (update (2 * ray) p) (update (2 * ray + 1) c ∷ us) (list_number ray Possible) (lists (ray, i) Possible)
            (number-possible ray)))
            (exact-possible g lists es (ray, i) p c x (each (ray, i) Possible).is_sound)
        here Certain = subst (ListAfterLog g lists es (ray, i) Certain)
            (sym (after-other (update (2 * ray) p) (update (2 * ray + 1) c ∷ us) (list_number ray Certain)
            (lists (ray, i) Certain) (λ z. two-numbers ray z)
            ∙ after-here (update (2 * ray + 1) c) us (list_number ray Certain) (lists (ray, i) Certain) (number-certain ray)))
            (exact-certain g lists es (ray, i) p c x (each (ray, i) Certain).is_sound)

        at : Dec (ray ≡ r) → (suc ray ≤ r
            → ListAfterLog g lists es (r, l) k (list_after us (list_number r k) (lists (r, l) k)))
            → ListAfterLog g lists es (r, l) k
            (list_after (update (2 * ray) p ∷ update (2 * ray + 1) c ∷ us) (list_number r k) (lists (r, l) k))
        at (yes d) rec = moved g (λ x. ListAfterLog g lists es x k
            (list_after (update (2 * ray) p ∷ update (2 * ray + 1) c ∷ us) (list_number x.0 k) (lists x k)))
            ray r i d l (here k)
        at (no d) rec = subst (ListAfterLog g lists es (r, l) k)
            (sym (after-other (update (2 * ray) p) (update (2 * ray + 1) c ∷ us) (list_number r k) (lists (r, l) k)
            (λ z. other-possible ray r k (above ray r h d) z)
            ∙ after-other (update (2 * ray + 1) c) us (list_number r k) (lists (r, l) k) (λ z. other-certain ray r k (above ray r h d) z)))
            (rec (above ray r h d))
