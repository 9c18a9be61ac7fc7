-- THE LAW OF AN ACCEPTED LOG: the updates that a log asks, done to a sound stock, leave what document 01 says. They
-- ascend and fit the budget, so each list afterwards is the one that they say, and that is the sound list of what the
-- log leaves.
use mathlib.Core.Path.{◌≡◌, refl, sym, ap, ap₂, ◌∙◌, subst}
use mathlib.Core.List.{List}
use Prim.Native.Nat.{ℕ, ◌+◌, ◌-◌, ◌*◌, ◌/◌, ◌≤◌, ◌<◌, min}
use native.Mathlib.Omega.{arith}
use lib.ListN.{length}
use Rattle.spans.specs.Spans.{holds}
use Rattle.grid.specs.Rays.{ray_count, bounds_of, Ray}
use Rattle.grid.specs.declared.DexelStockSpec.{DexelStockSpec}
use Rattle.grid.specs.declared.DexelGrid.{DexelGrid}
use Rattle.store.specs.Updates.{Update, pairs_freed, pairs_laid, applied}
use Rattle.store.proofs.Updating.{freed-all, updated}
use Rattle.stock.specs.Stock.{Stock, SoundStock, ValidAt, Kind, Possible, Certain, ray_list, ray_lists, list_number}
use Rattle.log_model.specs.declared.Entry.{Entry}
use Rattle.log_model.specs.Logs.{entries, Commit}
use Rattle.log_model.specs.Model.{sets_after, RayChanges, Count, Capacity, none as none-counted}
use Rattle.log_model.specs.Counts.{pairs_after}
use Rattle.log_model.specs.Runs.{point_sets, AcceptedEffect}
use Rattle.log_model.specs.View.{lent_store}
use Rattle.log_model.proofs.Doubles.{Doubles}
use Rattle.log_model.specs.Updates.{MergeUpdates, committed_stock}
use Rattle.log_model.proofs.Valid.{still-valid}
use Rattle.log_model.proofs.Updates.{updates-ascend, updates-count, updates-leave, number-possible, number-certain}
use Rattle.log_model.proofs.Totals.{each, total_left}
use Rattle.log_model.specs.Steps.{ListAfterLog}
use Rattle.store.specs.Steps.{Room, Ascending, UpdatedStore, list_after}

module _ (spec : DexelStockSpec) (g : DexelGrid) (s : Stock) (sound : SoundStock spec g s)
    (room : Room spec.max_intervals (2 * ray_count g) s.cells)
    (es : List Entry) (d : Doubles g (ray_lists spec g s.cells) es) (us : List Update) (m : ℕ)
    (asked : MergeUpdates g (ray_lists spec g s.cells) es 0 us m) where
  pub ascend : Ascending (2 * ray_count g) 0 us
  ascend = updates-ascend g (ray_lists spec g s.cells) es (each spec g s sound es) asked

  pub freed-less : pairs_freed spec.max_intervals s.cells us ≤ s.intervals
  freed-less = (freed-all sound.store room ascend).fewer

  pub intervals-left : s.intervals - pairs_freed spec.max_intervals s.cells us + pairs_laid us
      ≡ pairs_after g (ray_lists spec g s.cells) es
  intervals-left = total_left spec g s sound es d asked freed-less

  -- the rays that change
  pub changed_rays : Count g (RayChanges g (λ r k. holds (ray_lists spec g s.cells r k)) es) (ray_count g) m
  changed_rays = subst (Count g (RayChanges g (λ r k. holds (ray_lists spec g s.cells r k)) es) (ray_count g))
      (zero-first m) (updates-count g (ray_lists spec g s.cells) es (each spec g s sound es) asked none-counted)
    where
      zero-first : (m : ℕ) → 0 + m ≡ m
      zero-first m = omega arith

  module _ (fits : pairs_after g (ray_lists spec g s.cells) es ≤ spec.max_intervals) where
    pub all-updated : UpdatedStore spec.max_intervals (2 * ray_count g) s.intervals s.cells us
        (applied spec.max_intervals s.cells us)
    all-updated = updated sound.store room ascend (omega (arith, intervals-left))

    -- each list afterwards
    list-after : (r : Ray g) (k : Kind)
        → ListAfterLog g (ray_lists spec g s.cells) es r k (ray_list spec (committed_stock spec s us).cells r.0 k)
    list-after r k = subst (ListAfterLog g (ray_lists spec g s.cells) es r k) (sym (now r.0 r.1 k))
        (updates-leave g (ray_lists spec g s.cells) es (each spec g s sound es) d asked r.0 r.1 (omega arith) k)
      where
        below : (i : ℕ) (k : Kind) → i < ray_count g → list_number i k < 2 * ray_count g
        below i Possible h = omega (arith, number-possible i)
        below i Certain h = omega (arith, number-certain i)

        now : (i : ℕ) → i < ray_count g → (k : Kind) → ray_list spec (committed_stock spec s us).cells i k
            ≡ list_after us (list_number i k) (ray_list spec s.cells i k)
        now i h k = all-updated.lists (list_number i k) (below i k h)

    valid-after : (ray : ℕ) → ray < ray_count g → ValidAt spec g (committed_stock spec s us).cells ray
    valid-after ray h =
        still-valid g (ray_lists spec g s.cells) es (ray, h) (bounds_of spec g ray).lo (bounds_of spec g ray).hi (sound.valid ray h)
        (ray_list spec (committed_stock spec s us).cells ray Possible)
        (ray_list spec (committed_stock spec s us).cells ray Certain) (list-after (ray, h) Possible)
        (list-after (ray, h) Certain)

    pub committed-sound : SoundStock spec g (committed_stock spec s us)
    committed-sound = record { store = all-updated.is_sound; valid = valid-after }

    same-lent : (lent_store spec g).lent (committed_stock spec s us) ≡ (lent_store spec g).lent s
    same-lent =
        let k = all-updated.kept in
        ap₂ (λ (a b : ℕ). sizes a b (length (applied spec.max_intervals s.cells us).heads)) k.spans_size k.links_size
        ∙ ap (sizes (length s.cells.spans) (length s.cells.links)) k.heads_size
      where
        sizes : ℕ → ℕ → ℕ → Capacity
        sizes a b c = record { records = min (a / 2) (b / 2); heads = c }

    -- THE LAW, for a commit with these entries
    pub accepted-effect : (c : Commit) → entries c.log ≡ es → AcceptedEffect g (lent_store spec g) s c (committed_stock spec s us)
    unfolding point_sets
    accepted-effect c e = record {
      sound = committed-sound;
      exactly = λ r k p. (list-after r k).points p
          ∙ ap (λ (x : List Entry). sets_after g (λ r k. holds (ray_lists spec g s.cells r k)) x r k p) (sym e);
      generation = refl;
      lent = same-lent;
    }
