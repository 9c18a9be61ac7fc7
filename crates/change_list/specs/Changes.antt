-- A change list as a caller lends it, and what makes its changes good. Six numbers tell a change: its axis, its
-- index, and how many pairs its four lists have: possible and certain before, possible and certain after. The lists
-- stand end to end in the lent pairs, in that order.
use Rattle.std.specs.Prelude.{List, [], ◌∷◌, ℕ, zero, suc, ◌+◌, ◌*◌, ◌/◌, ◌≤◌, ◌<◌, length, get_or, Float}
use Rattle.grid.specs.Axes.{world_axis}
use Rattle.grid.specs.Rays.{rays_along, ray_number}
use Rattle.grid.specs.declared.DexelStockSpec.{DexelStockSpec}
use Rattle.grid.specs.declared.DexelGrid.{DexelGrid}
use Rattle.store.specs.Updates.{Update, update, pairs_from}
use Rattle.change_list.specs.Removal.{ChangeAllowed}
use Rattle.change_list.specs.declared.ChangeHead.{ChangeHead}
use Rattle.refusal.specs.Refusal.{Cause, cause}
use Rattle.store.specs.Store.{Cells}

-- the six numbers of change k
unfoldable pub head_at : List ℕ → ℕ → ChangeHead
head_at changes k =
    record {
      axis = get_or changes (6 * k) 0;
      index = get_or changes (6 * k + 1) 0;
      before_possible = get_or changes (6 * k + 2) 0;
      before_certain = get_or changes (6 * k + 3) 0;
      after_possible = get_or changes (6 * k + 4) 0;
      after_certain = get_or changes (6 * k + 5) 0;
    }

-- the cells where the lists end that begin at cell `at`
abbrev pub end1 : ChangeHead → ℕ → ℕ
end1 h at = at + 2 * h.before_possible

abbrev pub end2 : ChangeHead → ℕ → ℕ
end2 h at = end1 h at + 2 * h.before_certain

abbrev pub end3 : ChangeHead → ℕ → ℕ
end3 h at = end2 h at + 2 * h.after_possible

abbrev pub end4 : ChangeHead → ℕ → ℕ
end4 h at = end3 h at + 2 * h.after_certain

-- a change: the ray that it names, its four lists, and the cell of the pairs past them
pub record Change : Type 0 where
  pub axis : ℕ
  pub index : ℕ
  pub possible_before : List Float
  pub certain_before : List Float
  pub possible_after : List Float
  pub certain_after : List Float
  pub past : ℕ

-- a change by its six numbers, with its lists from cell `at` on
abbrev pub change_by : ChangeHead → List Float → ℕ → Change
change_by h pairs at =
    record {
      axis = h.axis;
      index = h.index;
      possible_before = pairs_from pairs at h.before_possible;
      certain_before = pairs_from pairs (end1 h at) h.before_certain;
      possible_after = pairs_from pairs (end2 h at) h.after_possible;
      certain_after = pairs_from pairs (end3 h at) h.after_certain;
      past = end4 h at;
    }

-- the changes from number k on, so many of them, with their lists from cell `at` on
unfoldable pub changes_from : List ℕ → List Float → (count k at : ℕ) → List Change
unfolding head_at
changes_from changes pairs zero k at = []
changes_from changes pairs (suc r) k at =
    change_by (head_at changes k) pairs at ∷ changes_from changes pairs r (suc k) (end4 (head_at changes k) at)

-- all whole changes
abbrev pub changes_of : List ℕ → List Float → List Change
changes_of changes pairs = changes_from changes pairs (length changes / 6) 0 0

-- the ray that a change names
abbrev pub change_ray : DexelGrid → (axis index : ℕ) → ℕ
change_ray g axis index = ray_number g (world_axis axis) index

-- there is such a ray, and it comes after those before: rays ascend by axis, then index
pub record Names (g : DexelGrid) (axis index from : ℕ) : Type 0 where
  pub digit : axis ≤ 2
  pub below : index < rays_along g (world_axis axis)
  pub ascends : from ≤ change_ray g axis index

-- a change that camlib's `validate` lets pass, and whose lists lie within the lent pairs; `from` is one more than the
-- ray of the change before
pub record Good (spec : DexelStockSpec) (g : DexelGrid) (c : Cells) (pairs : List Float) (from : ℕ) (d : Change) : Type 0 where
  pub within : d.past ≤ length pairs
  pub names : Names g d.axis d.index from
  pub allowed : ChangeAllowed spec g c (change_ray g d.axis d.index) d.possible_before d.certain_before
      d.possible_after d.certain_after

unfoldable pub AllGood : DexelStockSpec → DexelGrid → Cells → List Float → ℕ → List Change → Type 0
AllGood spec g c pairs from [] = Unit {0}
AllGood spec g c pairs from (d ∷ ds) = Good spec g c pairs from d × AllGood spec g c pairs (suc (change_ray g d.axis d.index)) ds

-- what the changes do to the store: possible's list before certain's, in ray order
unfoldable pub updates_of : DexelGrid → List Change → List Update
updates_of g [] = []
updates_of g (d ∷ ds) =
    update (2 * change_ray g d.axis d.index) d.possible_after
    ∷ update (2 * change_ray g d.axis d.index + 1) d.certain_after
    ∷ updates_of g ds

-- what a lent change list does to the store
abbrev pub updates_in : DexelGrid → List ℕ → List Float → List Update
updates_in g changes pairs = updates_of g (changes_of changes pairs)

-- the cause of 13: not all that is asked of the changes holds
abbrev pub bad_causes : Type 0 → List Cause
bad_causes good = cause 13 (good → ⊥) ∷ []
