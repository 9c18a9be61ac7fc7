-- One turn of freeing and of laying.
use mathlib.Core.Path.{◌≡◌, refl, sym, ap, ap₂, ◌∙◌, subst}
use mathlib.Core.List.{List, [], ◌∷◌}
use Prim.Native.Nat.{ℕ, suc, ◌+◌, ◌-◌, ◌*◌, ◌≤◌}
use native.Mathlib.Omega.{arith}
use lib.ListN.{length}
use lib.Ieee.{Float}
use borrow.Author.Tests.{eq-eqb, ne_eqb}
use Rattle.log_numbers.specs.Numbers.{number_at}
use Rattle.store.specs.Updates.{Update, update, pairs_from, freed_list, freed_all, laid_list, laid_all}
use Rattle.store_write.specs.LayRays.{LayRayPre, LayRayPost}
use Rattle.log_lay.specs.Updates.{first_size, updates_from, lists_end}
use Rattle.log_lay.specs.Steps.{EachLayable, LayRaysPre, LayRaysPost}
use Rattle.log_lay.specs.declared.LayPlace.{LayPlace}
use Rattle.log_lay.proofs.Lists.{updates-none, end_none, past_ray, first_update, second_update, updates-same, updates-new}
use Rattle.log_lay.proofs.Lists.{end_same, end-new}
use Rattle.store.specs.Steps.{LayListPre}
use Rattle.store.specs.Store.{Cells}

-- ---- no update, two updates
pub freed-none : (n : ℕ) (c : Cells) → freed_all n c [] ≡ c
unfolding freed_all
freed-none n c = refl

freed-two : (n : ℕ) (c : Cells) (u v : Update) → freed_all n c (u ∷ v ∷ []) ≡ freed_list n (freed_list n c u.list) v.list
unfolding freed_all
freed-two n c u v = refl

pub laid_none : (n : ℕ) (c : Cells) → laid_all n c [] ≡ c
unfolding laid_all
laid_none n c = refl

laid-two : (n : ℕ) (c : Cells) (u v : Update) → laid_all n c (u ∷ v ∷ []) ≡ laid_list n (laid_list n c u) v
unfolding laid_all
laid-two n c u v = refl

both-layable : (n : ℕ) (c : Cells) (u v : Update) → EachLayable n c (u ∷ v ∷ []) → LayListPre n c u × LayListPre n (laid_list n c u) v
unfolding EachLayable
both-layable n c u v e = (e.0, e.1.0)

-- ---- the updates of one ray
module _ (w : List Float) (sizes ray : ℕ) where
  pub no-update : first_size w sizes ray ≡ 0 → (q : ℕ) → updates_from w sizes q ray 1 ≡ []
  no-update z q = updates-same w sizes q ray 0 (eq-eqb (first_size w sizes ray) 0 z) ∙ updates-none w sizes q (suc ray)

  no-list : first_size w sizes ray ≡ 0 → (q : ℕ) → lists_end w sizes q ray 1 ≡ q
  no-list z q = end_same w sizes q ray 0 (eq-eqb (first_size w sizes ray) 0 z) ∙ end_none w sizes q (suc ray)

  two-updates : (first_size w sizes ray ≡ 0 → ⊥) → (q : ℕ)
      → updates_from w sizes q ray 1 ≡ first_update w sizes q ray 0 ∷ second_update w sizes q ray 0 ∷ []
  two-updates nz q =
      updates-new w sizes q ray 0 (ne_eqb (first_size w sizes ray) 0 nz)
      ∙ ap (λ (l : List Update). first_update w sizes q ray 0 ∷ second_update w sizes q ray 0 ∷ l)
      (updates-none w sizes (past_ray w sizes q ray 0) (suc ray))

  two-lists : (first_size w sizes ray ≡ 0 → ⊥) → (q : ℕ) → lists_end w sizes q ray 1 ≡ past_ray w sizes q ray 0
  two-lists nz q = end-new w sizes q ray 0 (ne_eqb (first_size w sizes ray) 0 nz) ∙ end_none w sizes (past_ray w sizes q ray 0) (suc ray)

-- ---- freeing
pub freed-ray-new : (n : ℕ) (c : Cells) (w : List Float) (sizes ray : ℕ) → (first_size w sizes ray ≡ 0 → ⊥) → (q : ℕ)
    → freed_all n c (updates_from w sizes q ray 1) ≡ freed_list n (freed_list n c (2 * ray)) (2 * ray + 1)
freed-ray-new n c w sizes ray nz q = ap (freed_all n c) (two-updates w sizes ray nz q)
    ∙ freed-two n c (first_update w sizes q ray 0) (second_update w sizes q ray 0)

module _ (n : ℕ) (c : Cells) (w : List Float) (sizes ray first : ℕ) (e : first ≡ first_size w sizes ray) where
  pub freed-same : first ≡ 0 → (q : ℕ) → c ≡ freed_all n c (updates_from w sizes q ray 1)
  freed-same z q = sym (ap (freed_all n c) (no-update w sizes ray (sym e ∙ z) q) ∙ freed-none n c)

  pub freed-new : (first ≡ 0 → ⊥) → (b : Cells) → b ≡ freed_list n (freed_list n c (2 * ray)) (2 * ray + 1) → (q : ℕ)
      → b ≡ freed_all n c (updates_from w sizes q ray 1)
  freed-new nz b f q = f ∙ sym (freed-ray-new n c w sizes ray (λ z. nz (e ∙ z)) q)

-- ---- laying
module _ (n : ℕ) (c : Cells) (w : List Float) (sizes ray : ℕ) (p : LayPlace) (ready : LayRaysPre n c w sizes ray 1 p)
    (first : ℕ) (e : first ≡ first_size w sizes ray) where
  pub laid_same : first ≡ 0 → LayRaysPost n c w sizes ray 1 p c p
  laid_same z = record {
    left = sym (ap (laid_all n c) (no-update w sizes ray (sym e ∙ z) p.at) ∙ laid_none n c);
    at = sym (no-list w sizes ray (sym e ∙ z) p.at);
    cursor = ready.cursor;
  }

  module _ (nz : first ≡ 0 → ⊥) (second : ℕ) (f : second ≡ number_at w (sizes + 2 * ray + 1)) where
    middle : ℕ
    middle = p.at + 2 * (first - 1)

    end : ℕ
    end = middle + 2 * second

    end_is : lists_end w sizes p.at ray 1 ≡ end
    unfolding end middle
    end_is = two-lists w sizes ray (λ z. nz (e ∙ z)) p.at ∙ ap₂ (λ (x y : ℕ). p.at + 2 * (x - 1) + 2 * y) (sym e) (sym f)

    pub lists-room : p.at + 2 * (first - 1) + 2 * second ≤ length w
    unfolding end middle
    lists-room = omega (arith, end_is, ready.in_lists)

    first-is : update (2 * ray) (pairs_from w p.at (first - 1)) ≡ first_update w sizes p.at ray 0
    first-is = ap (λ (x : ℕ). update (2 * ray) (pairs_from w p.at (x - 1))) e

    second_is : update (2 * ray + 1) (pairs_from w (p.at + 2 * (first - 1)) second) ≡ second_update w sizes p.at ray 0
    second_is = ap₂ (λ (x y : ℕ). update (2 * ray + 1) (pairs_from w (p.at + 2 * (x - 1)) y)) e f

    both : LayListPre n c (first_update w sizes p.at ray 0)
        × LayListPre n (laid_list n c (first_update w sizes p.at ray 0)) (second_update w sizes p.at ray 0)
    both = both-layable n c (first_update w sizes p.at ray 0) (second_update w sizes p.at ray 0)
        (subst (EachLayable n c) (two-updates w sizes ray (λ z. nz (e ∙ z)) p.at) ready.each)

    pub ray-layable : LayRayPre n c ray (pairs_from w p.at (first - 1)) (pairs_from w (p.at + 2 * (first - 1)) second)
    ray-layable = record {
      possible = subst (LayListPre n c) (sym first-is) both.0;
      certain = subst (λ (u : Update). LayListPre n (laid_list n c u)
          (update (2 * ray + 1) (pairs_from w (p.at + 2 * (first - 1)) second))) (sym first-is)
          (subst (LayListPre n (laid_list n c (first_update w sizes p.at ray 0))) (sym second_is) both.1);
    }

    pub laid-new : (b : Cells) (q : LayPlace)
        → LayRayPost n c ray (pairs_from w p.at (first - 1)) (pairs_from w (p.at + 2 * (first - 1)) second)
        q.from b → q.at ≡ p.at + 2 * (first - 1) + 2 * second → LayRaysPost n c w sizes ray 1 p b q
    unfolding end middle
    laid-new b q laid at = record {
      left =
          laid.left ∙ ap₂ (λ (u v : Update). laid_list n (laid_list n c u) v) first-is second_is
          ∙ sym (ap (laid_all n c) (two-updates w sizes ray (λ z. nz (e ∙ z)) p.at)
          ∙ laid-two n c (first_update w sizes p.at ray 0) (second_update w sizes p.at ray 0));
      at = at ∙ sym end_is;
      cursor = laid.onward;
    }
