-- Gathering the hits of a stretch of numbers, from b on.
use Rattle.std.specs.Prelude.{◌≡◌, Bool, true, List, ◌∷◌, ◌⊎◌, ℕ, ◌+◌, ◌%◌, ◌≤◌, length, take, Float}
use Rattle.std.specs.Float.Ieee.{lt}
use Rattle.spans.specs.Spans.{within, holds}
use Rattle.log_model.specs.declared.Entry.{Entry}
use Rattle.log_keys.specs.Keys.{with_entry, pairs_past}
use Rattle.log_gather.specs.declared.HeldHits.{HeldHits}

-- a buffer that can be halved into pairs
pub record Shaped (cells : List Float) : Type 0 where
  pub quarters : length cells % 4 ≡ 0
  pub least : 4 ≤ length cells

-- the first m cells are whole pairs
pub record WholePairs (cells : List Float) (m : ℕ) : Type 0 where
  pub room : m ≤ length cells
  pub whole : m % 2 ≡ 0

-- The hits that begin at or before b reach to `front`, or to f if that is further; each point of the others between b and the end is below
-- `front` or in the cells, and nothing else is there. The stretch ends at u, or before it in a hit that begins past b.
pub record Gathers (b u f : Float) (hits cells : List Float) (h : HeldHits) : Type 0 where
  pub roomy : WholePairs cells h.count
  pub higher : (x : Float) → lt x f ≡ true → lt x h.front ≡ true
  pub fronts : (x : Float) → within b h.front x ≡ true → (lt x f ≡ true) ⊎ (holds hits x ≡ true)
  pub past : (x : Float) → holds (take h.count cells) x ≡ true → holds (pairs_past b hits) x ≡ true
  pub all : (x : Float) → within b h.end x ≡ true → holds hits x ≡ true
      → (lt x h.front ≡ true) ⊎ (holds (take h.count cells) x ≡ true)
  pub ends : (h.end ≡ u) ⊎ ((lt h.end u ≡ true) × (holds (pairs_past b hits) h.end ≡ true))

-- what is gathered stays gathered, and there is room for a pair more
pub record MakeRoomPost (before : List Float) (h : HeldHits) (after : List Float) (r : HeldHits) : Type 0 where
  pub size : length after ≡ length before
  pub room : r.count + 2 ≤ length after
  pub whole : r.count % 2 ≡ 0
  pub gathers : (b u f : Float) (hits : List Float) → Gathers b u f hits before h → Gathers b u f hits after r

-- more hits are gathered
pub record MoreGathered (b : Float) (more : List Float → List Float) (before : List Float) (h : HeldHits) (after : List Float)
    (r : HeldHits) : Type 0 where
  pub size : length after ≡ length before
  pub roomy : WholePairs after r.count
  pub gathers : (u f : Float) (hits : List Float) → Gathers b u f hits before h → Gathers b u f (more hits) after r

-- those of one pair
abbrev pub PutPost : (b lo hi : Float) (before : List Float) (h : HeldHits) (after : List Float) (r : HeldHits) → Type 0
PutPost b lo hi before h after r = MoreGathered b (λ hits. lo ∷ hi ∷ hits) before h after r

-- those of one entry
abbrev pub PutEntryPost : (b : Float) (e : Entry) (certain : Bool) (before : List Float) (h : HeldHits) (after : List Float)
    (r : HeldHits) → Type 0
PutEntryPost b e certain before h after r = MoreGathered b (with_entry e certain) before h after r

-- the hits are gathered
pub record GatherPost (b u f : Float) (hits before after : List Float) (h : HeldHits) : Type 0 where
  pub size : length after ≡ length before
  pub gathers : Gathers b u f hits after h
