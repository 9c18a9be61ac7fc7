-- What the steps of counting one ray ask and promise.
use Rattle.std.specs.Prelude.{◌≡◌, Bool, true, false, cond, ◌||◌, List, ◌⊎◌, ℕ, ◌+◌, ◌-◌, ◌/◌, ◌%◌, ◌^◌, ◌≤◌, ◌<◌, length, get_or, Float}
use Rattle.std.specs.Float.Ieee.{lt, le}
use Rattle.spans.specs.Spans.{holds, sound, less}
use Rattle.grid.specs.Rays.{ray_count}
use Rattle.grid.specs.declared.DexelStockSpec.{DexelStockSpec}
use Rattle.grid.specs.declared.DexelGrid.{DexelGrid}
use Rattle.store_read.specs.Reading.{Readable}
use Rattle.log_model.specs.Logs.{entry_at, entry_count, entry_ray}
use Rattle.log_model.specs.Counts.{is_hit_by, starts_left}
use Rattle.log_entries.specs.Named.{EachNamed}
use Rattle.log_keys.specs.Keys.{entry_of_key, loses_of, top, pairs_past}
use Rattle.log_left.specs.ListLeft.{ListWalked}
use Rattle.log_left.specs.declared.Rest.{Rest}
use Rattle.log_gather.specs.Gathering.{Shaped}
use Rattle.log_stretches.specs.Stretches.{Taken}
use Rattle.log_count.specs.Totals.{Counting, Prefixed}
use Rattle.log_count.specs.declared.ListCount.{ListCount}
use Rattle.log_count.specs.declared.RayTotals.{RayTotals}
use Rattle.log_count.specs.declared.RayWalks.{RayWalks}
use Rattle.store.specs.Store.{list_from, Cells}

-- whether a list changes when the hits are taken from it, its pairs, and the pairs it then has
pub record ListCounted (l hits : List Float) (t : ListCount) : Type 0 where
  pub changes : t.changes ≡ is_hit_by l hits
  pub before : t.before ≡ length l / 2
  pub after : t.after ≡ starts_left l hits % 2 ^ 64

-- the count at the end of a walk
abbrev pub EndListPost : (n : ℕ) → List Float → List ℕ → (head : ℕ) → Rest → ListCount → Type 0
EndListPost n spans links head r t = (hits : List Float) (last : Float) → sound (list_from n spans links head) ≡ true
    → ListWalked n spans links (list_from n spans links head) (less (list_from n spans links head) hits) last r
    → ListCounted (list_from n spans links head) hits t

-- the count of a list, by any hits that have the same points
pub record CountListPost (n : ℕ) (spans : List Float) (links : List ℕ) (head : ℕ) (given before after : List Float)
    (t : ListCount) : Type 0 where
  pub size : length after ≡ length before
  pub counted : (hits : List Float) → sound (list_from n spans links head) ≡ true → ((x : Float) → holds given x ≡ holds hits x)
      → ListCounted (list_from n spans links head) hits t

-- the totals of the machine's numbers have room for one ray more
pub record AddRayPre (t : RayTotals) (p c : ListCount) : Type 0 where
  pub before : p.before + c.before ≤ t.pairs
  pub after : p.after + c.after < 2 ^ 64
  pub pairs : t.pairs - (p.before + c.before) + (p.after + c.after) < 2 ^ 64
  pub changed : t.changed + 1 < 2 ^ 64

-- one ray more
pub record AddRayPost (t : RayTotals) (p c : ListCount) (r : RayTotals) : Type 0 where
  pub changed : r.changed ≡ t.changed + cond (p.changes || c.changes) 1 0
  pub pairs : r.pairs + (p.before + c.before) ≡ t.pairs + (p.after + c.after)

-- a log with entries on a sound store, the totals of the rays below one of its rays, and a buffer
pub record CountPre (spec : DexelStockSpec) (g : DexelGrid) (c : Cells) (log : List Float) (ray : ℕ) (t : RayTotals)
    (buffer : List Float) : Type 0 where
  pub counting : Counting spec g c log
  pub some : 0 < entry_count log
  pub inside : ray < ray_count g
  pub prefixed : Prefixed spec g c log ray t
  pub shaped : Shaped buffer

-- the keys are those of the ray's entries
pub record KeysOf (g : DexelGrid) (log : List Float) (ray : ℕ) (keys : List ℕ) : Type 0 where
  pub each : (t : ℕ) → t < length keys → entry_ray g (entry_of_key log (get_or keys t 0)) ≡ ray
  pub all : (i : ℕ) → i < entry_count log → entry_ray g (entry_at log i) ≡ ray
      → (t : ℕ) × (t < length keys) × (get_or keys t 0 % entry_count log ≡ i)

-- the walk of one of a ray's lists
abbrev pub walk_in : (certain : Bool) → RayWalks → Rest
walk_in true w = w.certain
walk_in false w = w.possible

-- both walks can be read on
abbrev pub WalksReadable : ℕ → List Float → List ℕ → RayWalks → Type 0
WalksReadable n spans links w = (certain : Bool) → Readable n spans links (walk_in certain w).at

-- what is asked to take a stretch of a ray's hits from both its lists
pub record TakePartPre (g : DexelGrid) (n : ℕ) (spans : List Float) (links : List ℕ) (log : List Float) (keys : List ℕ)
    (buffer : List Float) (w : RayWalks) : Type 0 where
  pub few : ray_count g ≤ 2 ^ 53
  pub named : EachNamed g log
  pub some : 0 < entry_count log
  pub keys_some : 0 < length keys
  pub shaped : Shaped buffer
  pub readable : WalksReadable n spans links w

-- a stretch is taken; it ends at plus infinity, or before it in a hit that begins past its start
pub record TakePartPost (g : DexelGrid) (n : ℕ) (spans : List Float) (links : List ℕ) (log : List Float) (ray : ℕ) (w : RayWalks)
    (keys_before keys_after : List ℕ) (before after : List Float) (r : RayWalks) : Type 0 where
  pub keys_size : length keys_after ≡ length keys_before
  pub size : length after ≡ length before
  pub readable : WalksReadable n spans links r
  pub onward : le w.end top ≡ true → le w.end r.end ≡ true
  pub ends : (r.end ≡ top) ⊎ ((lt r.end top ≡ true) × (holds (pairs_past w.end (loses_of g log ray true)) r.end ≡ true))
  pub taken : (certain : Bool) (l : List Float) → le w.end top ≡ true
      → Taken n spans links l (holds (loses_of g log ray certain)) w.end (walk_in certain w)
      → Taken n spans links l (holds (loses_of g log ray certain)) r.end (walk_in certain r)
