-- The reasons speak of what the merge of a ray and the commit of a log really leave.
use mathlib.Core.Path.{◌≡◌, refl, ap}
use mathlib.Core.Bool.{Bool, true, false, cond}
use mathlib.Core.List.{List, [], ◌∷◌}
use Prim.Native.Nat.{ℕ}
use lib.Ieee.{Float}
use Rattle.spans.specs.Spans.{holds}
use Rattle.ray_subtract.specs.Subtract.{handed_back, new_cells}
use Rattle.ray_merge.specs.Merge.{MergePost}
use Rattle.ray_subtract.specs.declared.MergedLists.{MergedLists}
use Rattle.std.specs.Prelude.{Ok}
use Rattle.grid.specs.Rays.{Ray}
use Rattle.grid.specs.declared.DexelGrid.{DexelGrid}
use Rattle.stock.specs.Stock.{Kind, Possible, Certain}
use Rattle.log_model.specs.Logs.{HitKind, inner, outer, hit_lo, hit_hi, names_ray, hits_on_ray, removed}
use Rattle.log_model.specs.Model.{sets_after}
use Rattle.log_model.specs.Updates.{list_sets}
use Rattle.log_model.specs.declared.Entry.{Entry}
use Rattle.ray_trace.specs.Reasons.{hit_pairs}
use Rattle.ray_trace.specs.Sets.{PointsLeft, entries_on_ray}

-- THE LAW: the lists that a merge of the entries' hits hands back have the points that the reasons go with
pub reason-merged : (lo hi : Float) (possible certain : List Float) (es : List Entry) (before after : List Float) (l : MergedLists)
    → MergePost lo hi possible certain (hit_pairs outer es) (hit_pairs inner es) before after (Ok l)
    → PointsLeft possible certain es (holds (handed_back l.possible possible after 0))
    (holds (handed_back l.certain certain after (new_cells l.possible)))
reason-merged lo hi possible certain es before after l m =
    record { possible_is = m.1.possible_left.list.points; certain_is = m.1.certain_left.list.points }

-- the hits of a log on a ray are those of the entries that name it
pub entries-on-ray : (g : DexelGrid) (es : List Entry) (ray : ℕ) (w : HitKind)
    → hits_on_ray g es ray w ≡ hit_pairs w (entries_on_ray g es ray)
unfolding hits_on_ray hit_pairs entries_on_ray
entries-on-ray g [] ray w = refl
entries-on-ray g (e ∷ es) ray w = go (names_ray g e ray) (entries-on-ray g es ray w)
  where
    go : (b : Bool) → hits_on_ray g es ray w ≡ hit_pairs w (entries_on_ray g es ray)
        → cond b (hit_lo w e ∷ hit_hi w e ∷ hits_on_ray g es ray w) (hits_on_ray g es ray w)
        ≡ hit_pairs w (cond b (e ∷ entries_on_ray g es ray) (entries_on_ray g es ray))
    go true q = ap (λ (l : List Float). hit_lo w e ∷ hit_hi w e ∷ l) q
    go false q = q

-- THE LAW: so has each ray after the commit of a log, by the entries that name it
pub reason-committed : (g : DexelGrid) (lists : Ray g → Kind → List Float) (es : List Entry) (r : Ray g)
    → PointsLeft (lists r Possible) (lists r Certain) (entries_on_ray g es r.0) (sets_after g (list_sets g lists) es r Possible)
    (sets_after g (list_sets g lists) es r Certain)
unfolding sets_after removed
reason-committed g lists es r = record {
  possible_is = λ p. rw (entries-on-ray g es r.0 inner);
  certain_is = λ p. rw (entries-on-ray g es r.0 inner, entries-on-ray g es r.0 outer);
}
