-- The entries of one ray that have a hit beginning in a stretch of numbers, and how far the hits before it reach.
use Rattle.std.specs.Prelude.{◌≡◌, ℕ, ◌+◌, ◌<◌, ◌≤◌, true, false, cond, ◌⊎◌, List, length, slice_index, Float}
use Rattle.std.specs.Float.Ieee.{lt}
use Rattle.doubles.specs.Doubles.{Number}
use Rattle.spans.specs.Spans.{within}
use Rattle.spans.specs.Overlay.{lower_of}
use Rattle.grid.specs.declared.DexelGrid.{DexelGrid}
use Rattle.log_model.specs.declared.Entry.{Entry}
use Rattle.log_model.specs.Logs.{entry_at, entry_count, entry_ray, HitKind, outer, inner, hit_lo, hit_hi}
use Rattle.log_keys.specs.Keys.{top}
use Rattle.log_keys.specs.KeysKept.{KeysBefore}
use Rattle.log_long.specs.declared.HeldKeys.{HeldKeys}
use Rattle.log_long.specs.declared.LongPart.{LongPart}

-- where a hit begins, if that is past b, or else plus infinity
unfoldable pub begin_past : (b lo hi : Float) → Float
begin_past b lo hi = cond (lt lo hi) (cond (lt b lo) lo top) top

-- where the first of an entry's hits begins that begins past b
unfoldable pub least_past : (b : Float) → Entry → Float
unfolding begin_past hit_lo hit_hi
least_past b e = lower_of (begin_past b (hit_lo outer e) (hit_hi outer e)) (begin_past b (hit_lo inner e) (hit_hi inner e))

-- how far the hits that begin at or before b reach, with one hit more
unfoldable pub further_of : (front b lo hi : Float) → Float
further_of front b lo hi = cond (lt lo hi) (cond (lt b lo) front (cond (lt front hi) hi front)) front

-- the first m keys are places of entries
pub record InLog (log : List Float) (keys : List ℕ) (m : ℕ) : Type 0 where
  pub room : m ≤ length keys
  pub places : (t : ℕ) → t < m → slice_index keys t < entry_count log

-- `front` is how far the hits of one kind reach that begin at or before b, of the entries before place `passed` that are on the ray; what
-- lies between b and `front` is in a hit of that kind
pub record FrontReach (rays : ℕ → ℕ) (log : List Float) (ray : ℕ) (b : Float) (passed : ℕ) (w : HitKind) (front : Float) : Type 0 where
  pub number : Number front
  pub all : (i : ℕ) → i < passed → rays i ≡ ray → lt (hit_lo w (entry_at log i)) (hit_hi w (entry_at log i)) ≡ true
      → lt b (hit_lo w (entry_at log i)) ≡ false → (x : Float) → lt x (hit_hi w (entry_at log i)) ≡ true → lt x front ≡ true
  pub only : (x : Float) → within b front x ≡ true
      → (i : ℕ) × (i < passed) × (rays i ≡ ray) × (within (hit_lo w (entry_at log i)) (hit_hi w (entry_at log i)) x ≡ true)

-- how far the hits of one kind reach
abbrev pub kind_front : HitKind → LongPart → Float
kind_front outer w = w.outer
kind_front inner w = w.inner

-- the stretch ends at plus infinity, or where a hit of the ray begins that begins past b
abbrev pub LongEnds : (rays : ℕ → ℕ) (log : List Float) (ray : ℕ) (b : Float) (passed : ℕ) (end : Float) → Type 0
LongEnds rays log ray b passed end =
    (end ≡ top) ⊎ ((lt end top ≡ true) × ((i : ℕ) × (i < passed) × (rays i ≡ ray) × (end ≡ least_past b (entry_at log i))))

-- the first keys are the places, before `passed`, of the entries on the ray that have a hit beginning between b and the end of the stretch
pub record LongKeys (rays : ℕ → ℕ) (log : List Float) (ray : ℕ) (b : Float) (passed : ℕ) (keys : List ℕ) (w : HeldKeys) : Type 0 where
  pub held : KeysBefore (λ i. i) (λ i. (rays i ≡ ray) × (lt (least_past b (entry_at log i)) w.end ≡ true)) passed keys w.count
  pub ends : LongEnds rays log ray b passed w.end

-- there is room for a key more, for which the stretch may end earlier
pub record LongRoomPost (b : Float) (log : List Float) (before : List ℕ) (w : HeldKeys) (after : List ℕ) (r : HeldKeys) : Type 0 where
  pub size : length after ≡ length before
  pub in_log : InLog log after r.count
  pub room : r.count < length after
  pub long_keys : (rays : ℕ → ℕ) (ray passed : ℕ) → LongKeys rays log ray b passed before w → LongKeys rays log ray b passed after r

-- the entry at place i is gathered too
pub record AddKeyPost (b : Float) (i : ℕ) (log : List Float) (before : List ℕ) (w : HeldKeys) (after : List ℕ) (r : HeldKeys)
    : Type 0 where
  pub size : length after ≡ length before
  pub in_log : InLog log after r.count
  pub long_keys : (rays : ℕ → ℕ) (ray : ℕ) → rays i ≡ ray → LongKeys rays log ray b i before w → LongKeys rays log ray b (i + 1) after r

-- the entry's hits are added to how far the hits reach
pub record AddFrontsPost (b : Float) (e : Entry) (w : LongPart) (keys : HeldKeys) (r : LongPart) : Type 0 where
  pub keys_is : r.keys ≡ keys
  pub front_is : (k : HitKind) → kind_front k r ≡ further_of (kind_front k w) b (hit_lo k e) (hit_hi k e)

-- the ray's entries before place `passed` are gathered
pub record GathersTo (g : DexelGrid) (log : List Float) (ray : ℕ) (b : Float) (passed : ℕ) (keys : List ℕ) (r : LongPart) : Type 0 where
  pub in_log : InLog log keys r.keys.count
  pub long_keys : LongKeys (λ i. entry_ray g (entry_at log i)) log ray b passed keys r.keys
  pub fronts : (k : HitKind) → FrontReach (λ i. entry_ray g (entry_at log i)) log ray b passed k (kind_front k r)
