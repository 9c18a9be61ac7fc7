-- The interval total after the updates is the number of pairs that the log leaves: a changed ray frees its old pairs
-- and lays its new ones, and any other ray keeps as many as it has.
use mathlib.Core.Path.{◌≡◌, refl, sym, ap, ap₂, ◌∙◌, subst}
use mathlib.Core.Bool.{not, ◌&&◌}
use mathlib.Core.List.{List, [], ◌∷◌}
use Prim.Native.Nat.{ℕ, suc, ◌+◌, ◌-◌, ◌*◌, ◌/◌, ◌≤◌, ◌<◌}
use native.Mathlib.Bridge.{le_prop}
use native.Mathlib.Nat.{le_refl, le_of_lt}
use native.Mathlib.Omega.{arith}
use lib.ListN.{length}
use lib.Ieee.{Float}
use Rattle.spans.specs.Spans.{holds, ListOf}
use Rattle.grid.specs.Rays.{ray_count, Ray}
use Rattle.grid.specs.declared.DexelStockSpec.{DexelStockSpec}
use Rattle.grid.specs.declared.DexelGrid.{DexelGrid}
use Rattle.store.specs.Store.{places_of}
use Rattle.store.specs.Updates.{Update, update, pairs_freed, pairs_laid}
use Rattle.stock.specs.Stock.{Stock, SoundStock, Kind, Possible, Certain, ray_list}
use Rattle.log_model.specs.declared.Entry.{Entry}
use Rattle.log_model.specs.Model.{sets_after, sum_to, sum_over, pair_total}
use Rattle.log_model.specs.Counts.{starts_left, hits_on_list, pairs_after}
use Rattle.log_model.proofs.Decided.{sets-after-hits}
use Rattle.log_model.proofs.Doubles.{Doubles}
use Rattle.log_model.proofs.Less.{same-list}
use Rattle.log_model.proofs.Starts.{pairs-left}
use Rattle.log_model.proofs.View.{list-places, lent-laws}
use Rattle.log_model.specs.Updates.{MergeUpdates, none, same, new}
use Rattle.log_model.proofs.Updates.{number-possible, number-certain, exact-possible, exact-certain, list-after-same}
use Rattle.log_model.specs.Steps.{ListAfterLog}

-- a sum over rays goes by their number
pub sum-at : (g : DexelGrid) (f : Ray g → ℕ) (i j : ℕ) (h : i ≤ ray_count g) → i ≡ j → (k : j ≤ ray_count g) → sum_to g f i h ≡ sum_to g f j k
sum-at g f i j h e k = subst (λ (n : ℕ). (k : n ≤ ray_count g) → sum_to g f i h ≡ sum_to g f n k) e (λ k. ap (sum_to g f i) (le_prop h k)) k

pub sum-next : (g : DexelGrid) (f : Ray g → ℕ) (i : ℕ) (h : i ≤ ray_count g) (k : i < ray_count g)
    → sum_to g f (suc i) k ≡ sum_to g f i h + f (i, k)
unfolding sum_to
sum-next g f i h k = ap (λ (n : ℕ). n + f (i, k)) (sum-at g f i i (le_of_lt k) refl h)

freed-next-two : (n : ℕ) (s : Stock) (u v : Update) (us : List Update) → pairs_freed n s.cells (u ∷ v ∷ us)
    ≡ length (places_of n s.cells.links s.cells.heads u.list)
    + (length (places_of n s.cells.links s.cells.heads v.list) + pairs_freed n s.cells us)
unfolding pairs_freed
freed-next-two n s u v us = refl

laid-next-two : (u v : Update) (us : List Update) → pairs_laid (u ∷ v ∷ us) ≡ length u.ends / 2 + (length v.ends / 2 + pairs_laid us)
unfolding pairs_laid
laid-next-two u v us = refl

freed-nothing : (n : ℕ) (s : Stock) → pairs_freed n s.cells [] ≡ 0
unfolding pairs_freed
freed-nothing n s = refl

laid-nothing : pairs_laid [] ≡ 0
unfolding pairs_laid
laid-nothing = refl

module _ (spec : DexelStockSpec) (g : DexelGrid) (s : Stock) (sound : SoundStock spec g s) (es : List Entry) where
  -- each list is the sound list of its points
  pub each : (r : Ray g) (k : Kind) → ListOf (holds (ray_list spec s.cells r.0 k)) (ray_list spec s.cells r.0 k)
  each r k = record { is_sound = (lent-laws spec g).sound_list s sound r k; points = λ p. refl }

  -- the pairs that a ray has, and those that it will have
  old : Ray g → ℕ
  old r = length (ray_list spec s.cells r.0 Possible) / 2 + length (ray_list spec s.cells r.0 Certain) / 2

  left : Ray g → ℕ
  left r = starts_left (ray_list spec s.cells r.0 Possible) (hits_on_list g es r Possible)
      + starts_left (ray_list spec s.cells r.0 Certain) (hits_on_list g es r Certain)

  old-is : (r : Ray g) (x y : ℕ) → length (ray_list spec s.cells r.0 Possible) / 2 ≡ x
      → length (ray_list spec s.cells r.0 Certain) / 2 ≡ y → old r ≡ x + y
  unfolding old
  old-is r x y e f = ap₂ (λ (a b : ℕ). a + b) e f

  left_is : (r : Ray g) (x y : ℕ)
      → x ≡ starts_left (ray_list spec s.cells r.0 Possible) (hits_on_list g es r Possible)
      → y ≡ starts_left (ray_list spec s.cells r.0 Certain) (hits_on_list g es r Certain) → left r ≡ x + y
  unfolding left
  left_is r x y e f = ap₂ (λ (a b : ℕ). a + b) (sym e) (sym f)

  pub one-pairs : (r : Ray g) (k : Kind) (l : List Float)
      → ListAfterLog g (λ r k. ray_list spec s.cells r.0 k) es r k l
      → length l / 2 ≡ starts_left (ray_list spec s.cells r.0 k) (hits_on_list g es r k)
  one-pairs r k l a = pairs-left (ray_list spec s.cells r.0 k) (hits_on_list g es r k) l (each r k).is_sound
      (same-list (sets_after g (λ r k. holds (ray_list spec s.cells r.0 k)) es r k)
      (λ p. holds (ray_list spec s.cells r.0 k) p && not (holds (hits_on_list g es r k) p)) l
      (λ p. sets-after-hits g r (λ r k. holds (ray_list spec s.cells r.0 k)) es k p) a)

  module _ (d : Doubles g (λ r k. ray_list spec s.cells r.0 k) es) where
    totals : {ray m : ℕ} {us : List Update} → MergeUpdates g (λ r k. ray_list spec s.cells r.0 k) es ray us m → (h : ray ≤ ray_count g)
        → sum_over g left + sum_to g old ray h + pairs_freed spec.max_intervals s.cells us ≡ sum_to g left ray h
        + sum_over g old + pairs_laid us
    totals (none {ray = ray} e) h =
        omega (
          arith,
          sum-at g left ray (ray_count g) h e (le_refl (ray_count g)),
          sum-at g old ray (ray_count g) h e (le_refl (ray_count g)),
          freed-nothing spec.max_intervals s,
          laid-nothing,
        )
    totals (same {ray = ray} i e t) h =
        let p = one-pairs (ray, i) Possible (ray_list spec s.cells ray Possible)
        (list-after-same g (λ r k. ray_list spec s.cells r.0 k) es each d (ray, i) e Possible) in
        let c = one-pairs (ray, i) Certain (ray_list spec s.cells ray Certain)
        (list-after-same g (λ r k. ray_list spec s.cells r.0 k) es each d (ray, i) e Certain) in
        omega (arith, totals t i, sum-next g left ray h i, sum-next g old ray h i, old-is (ray, i) _ _ refl refl, left_is (ray, i) _ _ p c)
    totals (new {ray = ray} {p = p} {c = c} {us = us} i e x t) h =
        let a = exact-possible g (λ r k. ray_list spec s.cells r.0 k) es (ray, i) p c x (each (ray, i) Possible).is_sound in
        let b = exact-certain g (λ r k. ray_list spec s.cells r.0 k) es (ray, i) p c x (each (ray, i) Certain).is_sound in
        let lo = one-pairs (ray, i) Possible p a in
        let hi = one-pairs (ray, i) Certain c b in
        let laid : left (ray, i) ≡ length p / 2 + length c / 2 = left_is (ray, i) (length p / 2) (length c / 2) lo hi in
        let fp : length (ray_list spec s.cells ray Possible) / 2
        ≡ length (places_of spec.max_intervals s.cells.links s.cells.heads (2 * ray)) =
        list-places spec g s ray Possible
        ∙ ap (λ (j : ℕ). length (places_of spec.max_intervals s.cells.links s.cells.heads j)) (number-possible ray) in
        let fc : length (ray_list spec s.cells ray Certain) / 2
        ≡ length (places_of spec.max_intervals s.cells.links s.cells.heads (2 * ray + 1)) =
        list-places spec g s ray Certain
        ∙ ap (λ (j : ℕ). length (places_of spec.max_intervals s.cells.links s.cells.heads j)) (number-certain ray) in
        let freed : old (ray, i)
        ≡ length (places_of spec.max_intervals s.cells.links s.cells.heads (2 * ray))
        + length (places_of spec.max_intervals s.cells.links s.cells.heads (2 * ray + 1)) =
        old-is (ray, i) _ _ fp fc in
        omega (
          arith,
          totals t i,
          sum-next g left ray h i,
          sum-next g old ray h i,
          laid,
          freed,
          freed-next-two spec.max_intervals s (update (2 * ray) p) (update (2 * ray + 1) c) us,
          laid-next-two (update (2 * ray) p) (update (2 * ray + 1) c) us,
        )

    -- THE LAW OF THE TOTAL
    pub total_left : {m : ℕ} {us : List Update} → MergeUpdates g (λ r k. ray_list spec s.cells r.0 k) es 0 us m
        → pairs_freed spec.max_intervals s.cells us ≤ s.intervals
        → s.intervals - pairs_freed spec.max_intervals s.cells us + pairs_laid us
        ≡ pairs_after g (λ r k. ray_list spec s.cells r.0 k) es
    unfolding pairs_after pair_total left old sum_to
    total_left {us = us} t less =
        let sum = totals t (omega arith) in
        let now : s.intervals ≡ sum_over g old = (lent-laws spec g).all_pairs s sound in
        omega (arith, sum, now, less)
