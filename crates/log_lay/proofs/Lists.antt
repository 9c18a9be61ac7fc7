-- The updates of one ray after the other, and where their lists end.
use mathlib.Core.Path.{◌≡◌, refl, sym, ap, ap₂, ◌∙◌}
use mathlib.Core.Bool.{Bool, true, false, cond}
use mathlib.Core.List.{List, [], ◌∷◌, ◌++◌}
use mathlib.Core.Logic.{⊎_elim}
use Prim.Native.Nat.{ℕ, zero, suc, ◌+◌, ◌*◌, ◌≤◌}
use native.Mathlib.Omega.{arith}
use lib.Dec.{eqb}
use lib.ListN.{take, drop}
use lib.Ieee.{Float}
use Rattle.logic.proofs.Bools.{by_cases}
use Rattle.store.specs.Updates.{Update, update}
use Rattle.log_lay.specs.Updates.{first_size, possible_cells, certain_cells, updates_from, lists_end}

no_more : (ray : ℕ) → ray ≡ ray + 0
no_more ray = omega arith

none-and : (b : ℕ) → 0 + b ≡ b
none-and b = omega arith

one-and : (a b : ℕ) → suc a + b ≡ suc (a + b)
one-and a b = omega arith

one_up : (ray a : ℕ) → suc ray + a ≡ ray + suc a
one_up ray a = omega arith

module _ (w : List Float) (sizes : ℕ) where
  pub updates-none : (q ray : ℕ) → updates_from w sizes q ray 0 ≡ []
  unfolding updates_from
  updates-none q ray = refl

  pub end_none : (q ray : ℕ) → lists_end w sizes q ray 0 ≡ q
  unfolding lists_end
  end_none q ray = refl

  module _ (q ray k : ℕ) where
    -- the cell past the new lists of the ray
    abbrev pub past_ray : ℕ
    past_ray = q + possible_cells w sizes ray + certain_cells w sizes ray

    abbrev pub first_update : Update
    first_update = update (2 * ray) (take (possible_cells w sizes ray) (drop q w))

    abbrev pub second_update : Update
    second_update = update (2 * ray + 1) (take (certain_cells w sizes ray) (drop (q + possible_cells w sizes ray) w))

    -- a ray that does not change
    pub updates-same : eqb (first_size w sizes ray) 0 ≡ true → updates_from w sizes q ray (suc k) ≡ updates_from w sizes q (suc ray) k
    unfolding updates_from
    updates-same e = ap (λ (b : Bool). cond b (updates_from w sizes q (suc ray) k)
        (first_update ∷ second_update ∷ updates_from w sizes past_ray (suc ray) k)) e

    pub end_same : eqb (first_size w sizes ray) 0 ≡ true → lists_end w sizes q ray (suc k) ≡ lists_end w sizes q (suc ray) k
    unfolding lists_end
    end_same e = ap (λ (b : Bool). cond b (lists_end w sizes q (suc ray) k) (lists_end w sizes past_ray (suc ray) k)) e

    -- and one that does
    pub updates-new : eqb (first_size w sizes ray) 0 ≡ false
        → updates_from w sizes q ray (suc k) ≡ first_update ∷ second_update ∷ updates_from w sizes past_ray (suc ray) k
    unfolding updates_from
    updates-new e = ap (λ (b : Bool). cond b (updates_from w sizes q (suc ray) k)
        (first_update ∷ second_update ∷ updates_from w sizes past_ray (suc ray) k)) e

    pub end-new : eqb (first_size w sizes ray) 0 ≡ false → lists_end w sizes q ray (suc k) ≡ lists_end w sizes past_ray (suc ray) k
    unfolding lists_end
    end-new e = ap (λ (b : Bool). cond b (lists_end w sizes q (suc ray) k) (lists_end w sizes past_ray (suc ray) k)) e

  -- the lists end where they start or later
  pub end-past : (k q ray : ℕ) → q ≤ lists_end w sizes q ray k
  end-past zero q ray = omega (arith, end_none q ray)
  end-past (suc k) q ray = ⊎_elim
      (λ (e : eqb (first_size w sizes ray) 0 ≡ true). omega (arith, end_same q ray k e, end-past k q (suc ray)))
      (λ (e : eqb (first_size w sizes ray) 0 ≡ false). omega (arith, end-new q ray k e, end-past k (past_ray q ray k) (suc ray)))
      (by_cases (eqb (first_size w sizes ray) 0))

  -- first a rays, then b more
  pub end_more : (a b q ray : ℕ) → lists_end w sizes q ray (a + b) ≡ lists_end w sizes (lists_end w sizes q ray a) (ray + a) b
  end_more zero b q ray = ap₂ (λ (x y : ℕ). lists_end w sizes q x y) (no_more ray) (none-and b)
      ∙ ap (λ (x : ℕ). lists_end w sizes x (ray + 0) b) (sym (end_none q ray))
  end_more (suc a) b q ray = ap (lists_end w sizes q ray) (one-and a b) ∙ ⊎_elim
      (λ (e : eqb (first_size w sizes ray) 0 ≡ true). end_same q ray (a + b) e ∙ end_more a b q (suc ray)
      ∙ ap₂ (λ (x y : ℕ). lists_end w sizes x y b) (sym (end_same q ray a e)) (one_up ray a))
      (λ (e : eqb (first_size w sizes ray) 0 ≡ false). end-new q ray (a + b) e
      ∙ end_more a b (past_ray q ray a) (suc ray)
      ∙ ap₂ (λ (x y : ℕ). lists_end w sizes x y b) (sym (end-new q ray a e)) (one_up ray a))
      (by_cases (eqb (first_size w sizes ray) 0))

  pub updates-more : (a b q ray : ℕ) → updates_from w sizes q ray (a + b) ≡ updates_from w sizes q ray a
      ++ updates_from w sizes (lists_end w sizes q ray a) (ray + a) b
  updates-more zero b q ray =
      ap₂ (λ (x y : ℕ). updates_from w sizes q x y) (no_more ray) (none-and b)
      ∙ ap (λ (x : ℕ). updates_from w sizes x (ray + 0) b) (sym (end_none q ray))
      ∙ ap (λ (l : List Update). l ++ updates_from w sizes (lists_end w sizes q ray 0) (ray + 0) b) (sym (updates-none q ray))
  updates-more (suc a) b q ray = ap (updates_from w sizes q ray) (one-and a b) ∙ ⊎_elim
      (λ (e : eqb (first_size w sizes ray) 0 ≡ true).
      updates-same q ray (a + b) e ∙ updates-more a b q (suc ray)
      ∙ ap₂ (λ (l : List Update) (x : ℕ). l ++ updates_from w sizes x (suc ray + a) b) (sym (updates-same q ray a e))
      (sym (end_same q ray a e))
      ∙ ap (λ (y : ℕ). updates_from w sizes q ray (suc a) ++ updates_from w sizes (lists_end w sizes q ray (suc a)) y b) (one_up ray a))
      (λ (e : eqb (first_size w sizes ray) 0 ≡ false).
      updates-new q ray (a + b) e ∙ ap (λ (l : List Update). first_update q ray a ∷ second_update q ray a ∷ l)
      (updates-more a b (past_ray q ray a) (suc ray))
      ∙ ap₂ (λ (l : List Update) (x : ℕ). l ++ updates_from w sizes x (suc ray + a) b) (sym (updates-new q ray a e))
      (sym (end-new q ray a e))
      ∙ ap (λ (y : ℕ). updates_from w sizes q ray (suc a) ++ updates_from w sizes (lists_end w sizes q ray (suc a)) y b) (one_up ray a))
      (by_cases (eqb (first_size w sizes ray) 0))
