-- A ray stays valid when a log takes points from it: what is taken from possible is taken from certain too.
use mathlib.Core.Path.{◌≡◌, refl, sym, ap, ◌∙◌}
use mathlib.Core.Bool.{Bool, true, false, not, ◌||◌}
use mathlib.Core.List.{List}
use lib.Ieee.{Float}
use Rattle.logic.proofs.Bools.{and_left, and_right, both, not-true, clash}
use Rattle.spans.specs.Spans.{holds, Within}
use Rattle.spans.specs.Rays.{ValidRay}
use Rattle.ray_merge.proofs.Rays.{bounded-within}
use Rattle.grid.specs.declared.DexelGrid.{DexelGrid}
use Rattle.log_model.specs.declared.Entry.{Entry}
use Rattle.log_model.specs.Logs.{outer, inner, hits_on_ray, removed}
use Rattle.log_model.specs.Model.{sets_after}
use Rattle.log_model.specs.Steps.{ListAfterLog}
use Rattle.grid.specs.Rays.{Ray}
use Rattle.stock.specs.Stock.{Kind, Possible, Certain}

module _ (g : DexelGrid) (lists : Ray g → Kind → List Float) (es : List Entry) (r : Ray g) where
  -- what is left of a list lies in it
  list-after-within : (k : Kind) (l : List Float) → ListAfterLog g lists es r k l → Within (lists r k) l
  unfolding sets_after
  list-after-within k l a p h = and_left (holds (lists r k) p) (not (removed g es r k p)) (sym (a.points p) ∙ h)

  -- and in no hit
  list-after-out : (k : Kind) (l : List Float) → ListAfterLog g lists es r k l → (p : Float) → holds l p ≡ true → removed g es r k p ≡ false
  unfolding sets_after
  list-after-out k l a p h = not-true (removed g es r k p)
      (and_right (holds (lists r k) p) (not (removed g es r k p)) (sym (a.points p) ∙ h))

  -- what certain keeps, possible keeps
  spared : (p : Float) → removed g es r Certain p ≡ false → removed g es r Possible p ≡ false
  unfolding removed
  spared p h = second (holds (hits_on_ray g es r.0 outer) p) (holds (hits_on_ray g es r.0 inner) p) h
    where
      second : (a b : Bool) → (a || b) ≡ false → b ≡ false
      second true b h = absurd (clash true refl h)
      second false b h = h

  pub still-valid : (lo hi : Float) → ValidRay lo hi (lists r Possible) (lists r Certain) → (p c : List Float)
      → ListAfterLog g lists es r Possible p → ListAfterLog g lists es r Certain c → ValidRay lo hi p c
  unfolding sets_after
  still-valid lo hi v p c a b = record {
    possible_sound = a.is_sound;
    certain_sound = b.is_sound;
    possible_bounded = bounded-within lo hi (lists r Possible) p v.possible_bounded a.is_sound (list-after-within Possible p a);
    certain_bounded = bounded-within lo hi (lists r Certain) c v.certain_bounded b.is_sound (list-after-within Certain c b);
    inside = λ x h. a.points x ∙ both (holds (lists r Possible) x) (not (removed g es r Possible x))
        (v.inside x (list-after-within Certain c b x h)) (ap not (spared x (list-after-out Certain c b x h)));
  }
