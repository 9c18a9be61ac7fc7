-- Why a place on a ray shows as it does: the ray's lists before, the log entries that were merged into it, and one
-- double. Every entry counts as one of this ray.
use Rattle.std.specs.Prelude.{◌≡◌, Bool, true, false, List, [], ◌∷◌, ℕ, suc, Float}
use Rattle.spans.specs.Spans.{within, holds}
use Rattle.log_model.specs.Logs.{HitKind, outer, inner, hit_lo, hit_hi}
use Rattle.log_model.specs.declared.Entry.{Entry}
use Rattle.ray_trace.specs.declared.Reason.{Reason}
use Rattle.ray_trace.specs.declared.Reason.TheVariants.{NotPossible, RemovedBy, UncertainBy, NotCertain, StillCertain}

-- the outer or the inner pairs of entries, in their order, as a flat list; axis and index do not count
unfoldable pub hit_pairs : HitKind → List Entry → List Float
hit_pairs w [] = []
hit_pairs w (e ∷ es) = hit_lo w e ∷ hit_hi w e ∷ hit_pairs w es

-- the entry's outer or inner pair holds p. A pair without lo < hi holds nothing.
abbrev pub hit_holds : HitKind → Entry → Float → Bool
hit_holds w e p = within (hit_lo w e) (hit_hi w e) p

-- entry k, counted from 1, is the first whose pair holds p
pub data FirstHolding (w : HitKind) (p : Float) : List Entry → ℕ → Type 0 where
  first_entry : {e : Entry} {es : List Entry} → hit_holds w e p ≡ true → FirstHolding w p (e ∷ es) 1
  later_entry : {e : Entry} {es : List Entry} {k : ℕ} → hit_holds w e p ≡ false → FirstHolding w p es k → FirstHolding w p (e ∷ es) (suc k)

-- a reason is the true one of the place p; two of the five name an entry by its number
pub data TrueReason (possible certain : List Float) (es : List Entry) (p : Float) : Reason → Type 0 where
  -- not possible before
  not_held : holds possible p ≡ false → TrueReason possible certain es p NotPossible
  -- possible before and removed, by entry k, the first whose inner pair holds it
  cut_away : {k : ℕ} → holds possible p ≡ true → FirstHolding inner p es k → TrueReason possible certain es p (RemovedBy k)
  -- certain before and no longer, in no inner pair, through entry k, the first whose outer pair holds it
  made_uncertain : {k : ℕ} → holds certain p ≡ true → holds (hit_pairs inner es) p ≡ false → FirstHolding outer p es k
      → TrueReason possible certain es p (UncertainBy k)
  -- possible but not certain before, and in no inner pair
  never_certain : holds possible p ≡ true → holds certain p ≡ false → holds (hit_pairs inner es) p ≡ false
      → TrueReason possible certain es p NotCertain
  -- still certain
  untouched : holds certain p ≡ true → holds (hit_pairs inner es) p ≡ false → holds (hit_pairs outer es) p ≡ false
      → TrueReason possible certain es p StillCertain
