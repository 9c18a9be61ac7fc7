-- From stretch to stretch of a long ray: what its lists have lost so far, and that all of it is lost in the end.
use mathlib.Core.Path.{◌≡◌, refl, ◌∙◌, subst}
use mathlib.Core.Bool.{Bool, true, false, cond}
use mathlib.Core.List.{List}
use mathlib.Core.Logic.{inl, inr}
use Prim.Native.Nat.{ℕ, ◌<◌}
use lib.ListN.{length}
use lib.Ieee.{Float, lt, le, neg}
use Rattle.logic.proofs.Bools.{clash}
use Rattle.doubles.proofs.Order.{lt_irrefl, le_refl, lt→le}
use Rattle.grid.specs.declared.DexelGrid.{DexelGrid}
use Rattle.spans.specs.Spans.{holds, sound}
use Rattle.log_keys.specs.Keys.{loses_of, top, pairs_past}
use Rattle.log_keys.proofs.Past.{past-falls}
use Rattle.log_keys.proofs.Infinity.{top-number, bottom-top}
use Rattle.log_left.specs.Steps.{StartPost}
use Rattle.log_left.specs.declared.Rest.{Rest}
use Rattle.log_stretches.specs.Stretches.{Taken}
use Rattle.log_count.specs.Steps.{EndListPost, ListCounted, walk_in, WalksReadable, TakePartPost}
use Rattle.log_count.proofs.Parts.{each_bool}
use Rattle.log_count.specs.declared.ListCount.{ListCount}
use Rattle.log_count.specs.declared.RayWalks.{RayWalks}
use Rattle.log_count.proofs.AllTaken.{taken_none, taken-all}
use Rattle.store.specs.Store.{list_from}

-- the lists from the records h and k have lost what lies below the end of the last stretch, and the buffers have the sizes that they had
pub record TakenTo (g : DexelGrid) (n : ℕ) (spans : List Float) (links : List ℕ) (log : List Float) (ray h k : ℕ)
    (keys_before keys : List ℕ) (before now : List Float) (w : RayWalks) : Type 0 where
  pub keys_size : length keys ≡ length keys_before
  pub size : length now ≡ length before
  pub readable : WalksReadable n spans links w
  pub low : le w.end top ≡ true
  pub taken : (certain : Bool)
      → Taken n spans links (list_from n spans links (cond certain k h)) (holds (loses_of g log ray certain)) w.end (walk_in certain w)

module _ {g : DexelGrid} {n : ℕ} {spans : List Float} {links : List ℕ} {log : List Float} {ray h k : ℕ} where
  -- ---- the start

  pub onward-start : {keys : List ℕ} {buffer : List Float} {p c : Rest}
      → sound (list_from n spans links h) ≡ true → sound (list_from n spans links k) ≡ true → StartPost n spans links h p
      → StartPost n spans links k c
      → TakenTo g n spans links log ray h k keys keys buffer buffer (record { possible = p; certain = c; end = neg top })
  onward-start s t x y = record {
    keys_size = refl;
    size = refl;
    readable = each_bool _ y.readable x.readable;
    low = bottom-top;
    taken = each_bool _ (taken_none (holds (loses_of g log ray true)) t y) (taken_none (holds (loses_of g log ray false)) s x);
  }

  -- ---- one stretch more

  module _ {keys_before keys keys_after : List ℕ} {before buffer after : List Float} {w r : RayWalks}
      (have : TakenTo g n spans links log ray h k keys_before keys before buffer w)
      (part : TakePartPost g n spans links log ray w keys keys_after buffer after r) where
    pub onward-next : TakenTo g n spans links log ray h k keys_before keys_after before after r
    onward-next = record {
      keys_size = part.keys_size ∙ have.keys_size;
      size = part.size ∙ have.size;
      readable = part.readable;
      low = elim part.ends [ inl q ↦ rw q (le_refl top top-number) | inr (l, q) ↦ lt→le r.end top l ];
      taken = λ d. part.taken d (list_from n spans links (cond d k h)) have.low (have.taken d);
    }

    -- fewer hits begin past its end
    pub onward-falls : lt r.end top ≡ true
        → length (pairs_past r.end (loses_of g log ray true)) < length (pairs_past w.end (loses_of g log ray true))
    onward-falls l = elim part.ends [
      | inl q ↦ absurd (clash (lt top top) (rw q at l) (lt_irrefl top))
      | inr (m, q) ↦ past-falls w.end r.end (part.onward have.low) (loses_of g log ray true) q
    ]

    -- ---- the end

    pub onward-counted : lt r.end top ≡ false → (certain : Bool) (t : ListCount)
        → sound (list_from n spans links (cond certain k h)) ≡ true → EndListPost n spans links (cond certain k h) (walk_in certain r) t
        → ListCounted (list_from n spans links (cond certain k h)) (loses_of g log ray certain) t
    onward-counted l certain t s ends = ends (loses_of g log ray certain) top s (taken-all (loses_of g log ray certain)
        (subst (λ (x : Float). Taken n spans links (list_from n spans links (cond certain k h)) (holds (loses_of g log ray certain)) x
        (walk_in certain r)) at_top (onward-next.taken certain)))
      where
        at_top : r.end ≡ top
        at_top = elim part.ends [ inl q ↦ q | inr (m, q) ↦ absurd (clash (lt r.end top) m l) ]
