-- What the merge of one ray says of the log. The lists that stand in the buffer are the old ones less what
-- normalising makes of the hits, and that has the points of the hits; so they are the lists after the log, and the
-- ray changes exactly when one of them moves.
use mathlib.Core.Path.{◌≡◌, refl, sym, ap, ◌∙◌}
use mathlib.Core.Bool.{Bool}
use mathlib.Core.List.{List}
use Rattle.std.specs.Prelude.{Option, None, Some}
use Prim.Native.Nat.{ℕ, ◌+◌, ◌*◌, ◌/◌, ◌≤◌, ◌<◌}
use native.Mathlib.Omega.{arith}
use lib.ListN.{length}
use lib.Ieee.{Float}
use Rattle.spans.specs.Spans.{holds, ListOf}
use Rattle.spans.specs.Overlay.{less_of}
use Rattle.grid.specs.Rays.{ray_count, Ray}
use Rattle.grid.specs.declared.DexelStockSpec.{DexelStockSpec}
use Rattle.grid.specs.declared.DexelGrid.{DexelGrid}
use Rattle.stock.specs.Stock.{Stock, SoundCells, Kind, Possible, Certain, ray_list, ray_lists}
use Rattle.log_model.specs.Logs.{entries}
use Rattle.log_model.specs.Model.{RayChanges}
use Rattle.log_model.specs.Counts.{is_ray_changed, starts_left, hits_on_list}
use Rattle.log_model.proofs.Decided.{changes-by}
use Rattle.log_model.proofs.Doubles.{Doubles}
use Rattle.log_model.specs.Updates.{MergedByLog}
use Rattle.log_model.proofs.Updates.{exact-possible, exact-certain, exact-changes}
use Rattle.log_model.proofs.Totals.{each, one-pairs}
use Rattle.ray_subtract.specs.Steps.{cells_from}
use Rattle.ray_subtract.proofs.Places.{part_length}
use Rattle.log_merge.specs.Rays.{ray_moves, MergeRayPost, limit_of}
use Rattle.log_merge.proofs.Cutting.{new_cells_of, new-lists, unmoved}
use Rattle.log_merge.specs.declared.RayUpdate.{RayUpdate}

-- ---- over a sound store
module _ (spec : DexelStockSpec) (g : DexelGrid) (s : Stock) (total : ℕ) (snd : SoundCells spec g s.cells total) (log : List Float) where
  -- the same cells with the total that they have
  abbrev counted : Stock
  counted = record { cells = s.cells; generation = 0; intervals = total }

  abbrev sets : Ray g → Kind → Float → Bool
  sets r k = holds (ray_lists spec g s.cells r k)

  listed : (r : Ray g) (k : Kind) → ListOf (sets r k) (ray_lists spec g s.cells r k)
  listed r k = each spec g counted snd (entries log) r k

  module _ (ray : ℕ) (h : ray < ray_count g) (q : ℕ) (before after : List Float) (r : Option RayUpdate)
      (m : MergeRayPost spec g s.cells log ray q before after r) where
    -- both lists less what normalising makes of the hits
    exact : (p c : List Float) → p ≡ less_of (ray_list spec s.cells ray Possible) m.inner_normal
        → c ≡ less_of (less_of (ray_list spec s.cells ray Certain) m.outer_normal) m.inner_normal
        → MergedByLog g (ray_lists spec g s.cells) (entries log) (ray, h) p c
    exact p c a b = record {
      outer_normal = m.outer_normal;
      inner_normal = m.inner_normal;
      outer_is = m.outer_is;
      inner_is = m.inner_is;
      possible_is = a;
      certain_is = b;
    }

    pub new-exact : (u : RayUpdate) → r ≡ Some u
        → MergedByLog g (ray_lists spec g s.cells) (entries log) (ray, h) (cells_from q (2 * u.possible) after)
        (cells_from (q + 2 * u.possible) (2 * u.certain) after)
    new-exact u e =
        let n = new-lists m.cut e in
        exact (cells_from q (2 * u.possible) after) (cells_from (q + 2 * u.possible) (2 * u.certain) after) n.possible_is n.certain_is

    -- the ray changes where a boundary moves
    moves-by : ray_moves (ray_list spec s.cells ray Possible) (ray_list spec s.cells ray Certain) m.outer_normal m.inner_normal
        ≡ is_ray_changed g (ray_lists spec g s.cells) (entries log) (ray, h)
    moves-by =
        exact-changes g (ray_lists spec g s.cells) (entries log) (ray, h)
        (less_of (ray_list spec s.cells ray Possible) m.inner_normal)
        (less_of (less_of (ray_list spec s.cells ray Certain) m.outer_normal) m.inner_normal) (exact _ _ refl refl)
        (listed (ray, h) Possible).is_sound (listed (ray, h) Certain).is_sound

    pub changes : Doubles g (ray_lists spec g s.cells) (entries log) → {u : RayUpdate} → r ≡ Some u
        → RayChanges g sets (entries log) (ray, h)
    changes d e = (changes-by g sets (ray_lists spec g s.cells) listed (entries log) d (ray, h)).0
        (sym moves-by ∙ (new-lists m.cut e).moved)

    pub changes-not : Doubles g (ray_lists spec g s.cells) (entries log) → r ≡ None → ¬ RayChanges g sets (entries log) (ray, h)
    changes-not d e = (changes-by g sets (ray_lists spec g s.cells) listed (entries log) d (ray, h)).1 (sym moves-by ∙ unmoved m.cut e)

    -- how many cells both new lists have
    pub cells-left : q + limit_of spec log ≤ length after
        → new_cells_of r ≤ 2 * (starts_left (ray_lists spec g s.cells (ray, h) Possible)
        (hits_on_list g (entries log) (ray, h) Possible)
        + starts_left (ray_lists spec g s.cells (ray, h) Certain) (hits_on_list g (entries log) (ray, h) Certain))
    cells-left fit = go r refl
      where
        half : (k : ℕ) → 2 * k / 2 ≡ k
        half k = omega arith

        go : (o : Option RayUpdate) → r ≡ o
            → new_cells_of o ≤ 2 * (starts_left (ray_lists spec g s.cells (ray, h) Possible)
            (hits_on_list g (entries log) (ray, h) Possible)
            + starts_left (ray_lists spec g s.cells (ray, h) Certain) (hits_on_list g (entries log) (ray, h) Certain))
        go None e = omega arith
        go (Some u) e =
            let n = new-lists m.cut e in
            let p = one-pairs spec g counted snd (entries log) (ray, h) Possible (cells_from q (2 * u.possible) after)
            (exact-possible g (ray_lists spec g s.cells) (entries log) (ray, h) _ _ (new-exact u e) (listed (ray, h) Possible).is_sound) in
            let c = one-pairs spec g counted snd (entries log) (ray, h) Certain (cells_from (q + 2 * u.possible) (2 * u.certain) after)
            (exact-certain g (ray_lists spec g s.cells) (entries log) (ray, h) _ _ (new-exact u e) (listed (ray, h) Certain).is_sound) in
            let lp = part_length q (2 * u.possible) after (omega (arith, n.most)) in
            let lc = part_length (q + 2 * u.possible) (2 * u.certain) after (omega (arith, n.most)) in
            omega (arith, sym p ∙ ap (λ (n : ℕ). n / 2) lp ∙ half u.possible, sym c ∙ ap (λ (n : ℕ). n / 2) lc ∙ half u.certain)
