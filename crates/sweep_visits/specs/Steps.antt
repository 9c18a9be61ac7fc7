-- What the walk over the rays of a rectangle asks and leaves.
use Rattle.std.specs.Prelude.{◌≡◌, ℕ, ◌+◌, ◌*◌, ◌^◌, ◌<◌, ◌≤◌, true, List, length, take, slice_index, Float, Result, Ok, Err}
use Rattle.refusal.specs.Refusal.{number_of}
use Rattle.refusal.specs.declared.Refusal.{Refusal}
use Rattle.spans.specs.Spans.{sound}
use Rattle.store_read.specs.Reading.{Readable}
use Rattle.sweep_visits.specs.declared.VisitCursor.{VisitCursor}
use Rattle.sweep_model.specs.declared.AxisRays.{AxisRays}
use Rattle.sweep_model.specs.Entries.{index_of}
use Rattle.sweep_model.specs.Walk.{Done, Stop, walk}
use Rattle.store.specs.Store.{list_from}

-- from cursor c with this log to the cursor d with that one all these rays are visited
pub record Went (budget : ℕ) (rays : List (List Float)) (c : VisitCursor) (log : List Float) (d : VisitCursor)
    (after : List Float) : Type 0 where
  pub walked : walk budget (length log) rays c.visits (take c.at log) ≡ Done d.visits (take d.at after)
  pub room : d.at ≤ length after
  pub same : length after ≡ length log

-- the walk over these rays stops with a refusal
pub record Halted (budget : ℕ) (rays : List (List Float)) (c : VisitCursor) (log : List Float) (k : ℕ) (after : List Float) : Type 0 where
  pub walked : walk budget (length log) rays c.visits (take c.at log) ≡ Stop k
  pub same : length after ≡ length log

abbrev pub WalkPost : (budget : ℕ) → List (List Float) → VisitCursor → List Float → Result VisitCursor Refusal → List Float → Type 0
WalkPost budget rays c log (Ok d) after = Went budget rays c log d after
WalkPost budget rays c log (Err e) after = Halted budget rays c log (number_of e) after

-- the possible list of ray `ray` can be read and is sound
pub record RayAt (n : ℕ) (spans : List Float) (links heads : List ℕ) (ray : ℕ) : Type 0 where
  pub in_heads : 2 * ray < length heads
  pub readable : Readable n spans links (slice_index heads (2 * ray))
  pub is_sound : sound (list_from n spans links (slice_index heads (2 * ray))) ≡ true

-- and so for the ray at the cells u and v
pub record RayReady (n : ℕ) (t : AxisRays) (spans : List Float) (links heads : List ℕ) (u v : ℕ) : Type 0 where
  pub few : t.first + index_of t u v < 2 ^ 32
  pub ray : RayAt n spans links heads (t.first + index_of t u v)

-- and so for all rays of an axis
pub record AxisReady (n : ℕ) (t : AxisRays) (spans : List Float) (links heads : List ℕ) : Type 0 where
  pub few : t.first + t.row * t.rows < 2 ^ 32
  pub wide : t.row < 2 ^ 32
  pub tall : t.rows < 2 ^ 32
  pub rays : (ray : ℕ) → ray < t.first + t.row * t.rows → RayAt n spans links heads ray
