-- Demand 3 of the lent store. A sound store counts its chained records, and each is a pair of one list, so its
-- interval total is the number of all pairs.
use mathlib.Core.Path.{◌≡◌, refl, sym, ap, ap₂, ◌∙◌}
use mathlib.Core.List.{List, [], ◌∷◌}
use Prim.Native.Nat.{ℕ, zero, suc, ◌+◌, ◌*◌, ◌/◌, ◌≤◌}
use native.Mathlib.Nat.{le_refl, le_of_lt}
use native.Mathlib.Omega.{arith}
use lib.ListN.{length, length-append}
use lib.Ieee.{Float}
use Rattle.grid.specs.Rays.{ray_count}
use Rattle.grid.specs.declared.DexelStockSpec.{DexelStockSpec}
use Rattle.grid.specs.declared.DexelGrid.{DexelGrid}
use mathlib.Core.Bool.{true}
use Rattle.spans.specs.Spans.{sound}
use Rattle.stock.specs.Stock.{Stock, Kind, Possible, Certain, ray_list, list_number}
use Rattle.store.specs.Store.{places_of, chained, ends_at}
use Rattle.log_model.specs.Model.{sum_to, pair_total}
use Rattle.log_model.specs.View.{lent_store}
use Rattle.log_model.proofs.RunCorrect.{run-correct}
use Rattle.log_model.specs.RunCorrect.{SoundView, RunCorrect}

-- a list has one pair for each of its places
ends-pairs : (spans : List Float) (ps : List ℕ) → length (ends_at spans ps) / 2 ≡ length ps
unfolding ends_at
ends-pairs spans [] = refl
ends-pairs spans (i ∷ ps) = half (length (ends_at spans ps)) ∙ ap suc (ends-pairs spans ps)
  where
    half : (n : ℕ) → suc (suc n) / 2 ≡ suc (n / 2)
    half n = omega arith

module _ (n : ℕ) (links heads : List ℕ) where
  chained-first : (j r : ℕ) → length (chained n links heads j (suc r)) ≡ length (places_of n links heads j)
      + length (chained n links heads (suc j) r)
  unfolding chained
  chained-first j r = length-append (places_of n links heads j) (chained n links heads (suc j) r)

  chained-last : (j r k : ℕ) → j + r ≡ k
      → length (chained n links heads j (suc r)) ≡ length (chained n links heads j r) + length (places_of n links heads k)
  unfolding chained
  chained-last j zero k h = chained-first j 0 ∙ ap (λ (i : ℕ). length (places_of n links heads i) + 0) (same j k h)
      ∙ swap (length (places_of n links heads k))
    where
      same : (j k : ℕ) → j + 0 ≡ k → j ≡ k
      same j k h = omega arith

      swap : (a : ℕ) → a + 0 ≡ 0 + a
      swap a = omega arith
  chained-last j (suc r) k h =
      chained-first j (suc r) ∙ ap (◌+◌ (length (places_of n links heads j))) (chained-last (suc j) r k (same j r k h))
      ∙ sum (length (places_of n links heads j)) (length (chained n links heads (suc j) r))
      (length (places_of n links heads k)) (length (chained n links heads j (suc r))) (chained-first j r)
    where
      same : (j r k : ℕ) → j + suc r ≡ k → suc j + r ≡ k
      same j r k h = omega arith

      sum : (a b c d : ℕ) → d ≡ a + b → a + (b + c) ≡ d + c
      sum a b c d h = omega arith

module _ (spec : DexelStockSpec) (g : DexelGrid) (s : Stock) where
  places : ℕ → ℕ
  places j = length (places_of spec.max_intervals s.cells.links s.cells.heads j)

  total : ℕ → ℕ
  total r = length (chained spec.max_intervals s.cells.links s.cells.heads 0 r)

  list-pairs : (r : ℕ) (k : Kind) → length (ray_list spec s.cells r k) / 2 ≡ places (list_number r k)
  unfolding places
  list-pairs r k = ends-pairs s.cells.spans (places_of spec.max_intervals s.cells.links s.cells.heads (list_number r k))

  -- a list has one pair for each place of its chain
  pub list-places : (r : ℕ) (k : Kind)
      → length (ray_list spec s.cells r k) / 2
      ≡ length (places_of spec.max_intervals s.cells.links s.cells.heads (list_number r k))
  unfolding places
  list-places r k = list-pairs r k

  -- two lists more
  two-more : (i : ℕ) → total (2 * suc i) ≡ total (2 * i) + (places (2 * i) + places (2 * i + 1))
  unfolding total places
  two-more i =
      ap (λ (m : ℕ). total m) (next i)
      ∙ chained-last spec.max_intervals s.cells.links s.cells.heads 0 (suc (2 * i)) (2 * i + 1) (after i)
      ∙ ap (λ (m : ℕ). m + places (2 * i + 1))
      (chained-last spec.max_intervals s.cells.links s.cells.heads 0 (2 * i) (2 * i) (at i))
      ∙ group (total (2 * i)) (places (2 * i)) (places (2 * i + 1))
    where
      next : (i : ℕ) → 2 * suc i ≡ suc (suc (2 * i))
      next i = omega arith

      after : (i : ℕ) → 0 + suc (2 * i) ≡ 2 * i + 1
      after i = omega arith

      at : (i : ℕ) → 0 + 2 * i ≡ 2 * i
      at i = omega arith

      group : (a b c : ℕ) → a + b + c ≡ a + (b + c)
      group a b c = omega arith

  -- the chained records are the pairs of all lists
  counted : (i : ℕ) (h : i ≤ ray_count g)
      → total (2 * i) ≡ sum_to g (λ r. length (ray_list spec s.cells r.0 Possible) / 2
      + length (ray_list spec s.cells r.0 Certain) / 2) i h
  unfolding sum_to
  counted zero h = unfold total chained in refl
  counted (suc i) h = two-more i ∙ ap₂ ◌+◌ (counted i (le_of_lt h)) (ap₂ ◌+◌ (sym (list-pairs i Possible)) (sym (list-pairs i Certain)))

pub lent-laws : (spec : DexelStockSpec) (g : DexelGrid) → SoundView g (lent_store spec g)
lent-laws spec g = record {
  sound_list = λ s S r k. elim k as (λ (k : Kind). sound ((lent_store spec g).lists s r k) ≡ true) [ Possible ↦ (S.valid r.0 r.1).possible_sound | Certain ↦ (S.valid r.0 r.1).certain_sound ];
  within = λ s S r. (S.valid r.0 r.1).inside;
  all_pairs = λ s S. S.store.counts ∙ unfold total pair_total in counted spec g s (ray_count g) (le_refl (ray_count g));
}

-- THE THEOREM, of the lent store
pub run-correct-lent : (spec : DexelStockSpec) (g : DexelGrid) → RunCorrect spec g (lent_store spec g)
run-correct-lent spec g = run-correct spec g (lent_store spec g) (lent-laws spec g)
