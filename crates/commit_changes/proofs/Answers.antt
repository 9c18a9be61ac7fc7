-- What the commit answers and leaves, by its causes.
use mathlib.Core.Path.{◌≡◌, refl, sym, ap, ◌∙◌, subst}
use mathlib.Core.List.{List}
use Prim.Native.Nat.{ℕ, ◌+◌, ◌-◌, ◌*◌, ◌/◌, ◌^◌, ◌<◌}
use native.Mathlib.Omega.{arith}
use lib.Ieee.{Float}
use lib.ListN.{length}
use Rattle.std.specs.Prelude.{Result, Ok, Err}
use Rattle.refusal.specs.Refusal.{NoneDue, number_of}
use Rattle.refusal.specs.declared.Refusal.{Refusal}
use Rattle.grid.specs.Causes.{grid_causes, grid_in, ByCauses}
use Rattle.grid.specs.declared.DexelStockSpec.{DexelStockSpec}
use Rattle.grid.specs.declared.DexelGrid.{DexelGrid}
use Rattle.store.specs.Updates.{applied}
use Rattle.stock.specs.Stock.{Stock, ray_list, Possible, Certain}
use Rattle.stock.proofs.Causes.{due-first, due-second, none-in-both}
use Rattle.change_list.specs.Changes.{changes_of, change_ray, updates_in}
use Rattle.change_list.proofs.Applying.{changed-has, other-keeps, changes-update, changes-sound}
use Rattle.change_apply.specs.Passes.{ChangesFit}
use Rattle.commit_changes.specs.ChangeCommit.{changed_stock, change_causes, change_commit_causes, ChangesEffect, ChangesPostBy}
use Rattle.commit_changes.specs.Verdicts.{VerdictBy}
use Rattle.store.specs.Store.{Cells}

-- ---- over a grid that is accepted
module _ (spec : DexelStockSpec) (g : DexelGrid) (s : Stock) (changes : List ℕ) (pairs : List Float) (base : ℕ) where
  module _ (t : ℕ) (verdict : VerdictBy (change_causes spec g base s changes pairs) spec g s changes pairs (Ok t)) where
    pub verdict-fitting : ChangesFit spec g s.cells s.intervals changes pairs
    verdict-fitting = verdict.2

    pub generation-steps : s.generation < 2 ^ 64 → s.generation + 1 < 2 ^ 64
    unfolding NoneDue
    generation-steps h = step s.generation h verdict.0.1.1.1.1.1.0
      where
        step : (n : ℕ) → n < 2 ^ 64 → (n ≡ 2 ^ 64 - 1 → ⊥) → n + 1 < 2 ^ 64
        step n l ne = omega arith

    leaves : ChangesEffect spec g changes pairs s (changed_stock spec g s changes pairs)
    leaves =
        let f = verdict-fitting in
        let u = changes-update spec g s.cells pairs s.intervals f.is_sound f.room (changes_of changes pairs)
        f.good f.budget in
        record {
          is = refl;
          is_sound = changes-sound spec g s.cells pairs s.intervals f.is_sound f.room
              (changes_of changes pairs) f.good f.budget;
          changed_rays = λ d m.
              let h = changed-has spec g s.cells pairs (changes_of changes pairs) 0 f.good d m
              (ray_list spec s.cells (change_ray g d.axis d.index) Possible)
              (ray_list spec s.cells (change_ray g d.axis d.index) Certain) in
              let b = h.below in (
                u.lists (2 * change_ray g d.axis d.index) (omega arith) ∙ h.possible,
                u.lists (2 * change_ray g d.axis d.index + 1) (omega arith) ∙ h.certain,
              );
          other_rays = λ ray l apart.
              let h = other-keeps spec g s.cells pairs (changes_of changes pairs) ray apart
              (ray_list spec s.cells ray Possible) (ray_list spec s.cells ray Certain) in
              (u.lists (2 * ray) (omega arith) ∙ h.0, u.lists (2 * ray + 1) (omega arith) ∙ h.1);
          kept = u.kept;
        }

    pub verdict-fits : (d : Cells) → d ≡ applied spec.max_intervals s.cells (updates_in g changes pairs)
        → ChangesPostBy (change_causes spec g base s changes pairs) spec g changes pairs s
        (record { cells = d; generation = s.generation + 1; intervals = t }) (Ok (length changes / 6))
    verdict-fits d h =
        let is : record { cells = d; generation = s.generation + 1; intervals = t } ≡ changed_stock spec g s changes pairs
        = ap (λ (x : Cells). record { cells = x; generation = s.generation + 1; intervals = t }) h
        ∙ ap (λ (x : ℕ). record {
          cells = applied spec.max_intervals s.cells (updates_in g changes pairs);
          generation = s.generation + 1;
          intervals = x;
        }) verdict.1 in
        (verdict.0, refl, subst (ChangesEffect spec g changes pairs s) (sym is) leaves)

-- ---- over any description
module _ (spec : DexelStockSpec) (units : List ℕ) (s : Stock) (changes : List ℕ) (pairs : List Float) (base : ℕ) where
  pub grid-accepted : (g : DexelGrid) (after : Stock) (r : Result ℕ Refusal) → ByCauses spec units (Ok g)
      → ChangesPostBy (change_causes spec g base s changes pairs) spec g changes pairs s after r
      → ChangesPostBy (change_commit_causes spec units base s changes pairs) spec (grid_in spec) changes pairs s after r
  grid-accepted g after r a f =
      at r a.0 (subst (λ (x : DexelGrid). ChangesPostBy (change_causes spec x base s changes pairs)
      spec x changes pairs s after r) a.1 f)
    where
      at : (r : Result ℕ Refusal) → NoneDue (grid_causes spec units)
          → ChangesPostBy (change_causes spec (grid_in spec) base s changes pairs) spec (grid_in spec) changes pairs s after r
          → ChangesPostBy (change_commit_causes spec units base s changes pairs) spec (grid_in spec) changes pairs s after r
      at (Err e) n f = (
        due-second (grid_causes spec units) (change_causes spec (grid_in spec) base s changes pairs) (number_of e) n f.0,
        f.1,
      )
      at (Ok m) n f = (
        none-in-both (grid_causes spec units)
            (change_causes spec (grid_in spec) base s changes pairs) n f.0,
        f.1,
        f.2,
      )

  pub grid-refused : (e : Refusal) → ByCauses spec units (Err e)
      → ChangesPostBy (change_commit_causes spec units base s changes pairs) spec (grid_in spec) changes pairs s s (Err e)
  grid-refused e d = (
    due-first (grid_causes spec units) (change_causes spec (grid_in spec) base s changes pairs) (number_of e) d,
    refl,
  )
