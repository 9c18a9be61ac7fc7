-- The loop over the entries of a log: what is gathered before the entry at place i, and with it.
use Rattle.std.proofs.Common.{◌≡◌, ℕ, ◌+◌, List, refl, inl, arith}
use lib.Ieee.{Float, neg}
use Rattle.grid.specs.declared.DexelGrid.{DexelGrid}
use Rattle.log_model.specs.Logs.{entry_at, entry_ray, HitKind, outer, inner}
use Rattle.log_keys.specs.Keys.{top}
use Rattle.log_keys.proofs.Wanting.{keys_none}
use Rattle.log_long.specs.declared.HeldKeys.{HeldKeys}
use Rattle.log_long.specs.declared.LongPart.{LongPart}
use Rattle.log_long.specs.Long.{kind_front, AddKeyPost, AddFrontsPost, GathersTo}
use Rattle.log_long.proofs.Stretching.{long_keys-passed}
use Rattle.log_long.proofs.Reaching.{reaches-start, reaches-passed, reaches-added}

-- what holds of both kinds holds of each
pub each_kind : (P : HitKind → Type 0) → P outer → P inner → (k : HitKind) → P k
each_kind P a b outer = a
each_kind P a b inner = b

module _ (g : DexelGrid) (log : List Float) (ray : ℕ) (b : Float) where
  abbrev ray-at : ℕ → ℕ
  ray-at i = entry_ray g (entry_at log i)

  pub gathers-start : (keys : List ℕ)
      → GathersTo g log ray b 0 keys record { keys = record { count = 0; end = top }; outer = neg top; inner = neg top }
  gathers-start keys = record {
    in_log = record { room = omega arith; places = λ t h. absurd (omega arith) };
    long_keys = record { held = keys_none keys; ends = inl refl };
    fronts = each_kind _ (reaches-start ray-at log ray b outer) (reaches-start ray-at log ray b inner);
  }

  module _ (i : ℕ) (keys : List ℕ) (w : LongPart) (s : GathersTo g log ray b i keys w) where
    -- the entry at place i is not on the ray
    pub gathers-passed : (entry_ray g (entry_at log i) ≡ ray → ⊥) → GathersTo g log ray b (i + 1) keys w
    gathers-passed off = record {
      in_log = s.in_log;
      long_keys = long_keys-passed s.long_keys (λ on. absurd (off on));
      fronts = λ k. reaches-passed ray-at log ray b k i (kind_front k w) off (s.fronts k);
    }

    -- it is
    pub gathers-added : (t : HeldKeys) (after : List ℕ) (r : LongPart) → entry_ray g (entry_at log i) ≡ ray
        → AddKeyPost b i log keys w.keys after t → AddFrontsPost b (entry_at log i) w t r → GathersTo g log ray b (i + 1) after r
    gathers-added t after r on a f = record {
      in_log = rw f.keys_is a.in_log;
      long_keys = rw f.keys_is (a.long_keys ray-at ray on s.long_keys);
      fronts = λ k. rw (f.front_is k) (reaches-added ray-at log ray b k i (kind_front k w) on (s.fronts k));
    }
