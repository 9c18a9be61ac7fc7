-- Logs and log commits, and which points a log takes.
use Rattle.std.specs.Prelude.{◌≡◌, Bool, true, cond, ◌&&◌, ◌||◌, ℕ, zero, suc, ◌+◌, ◌*◌, ◌/◌, ◌%◌, ltb, eqb, length, get_or, pos, Float}
use mathlib.Core.List.{List, [], ◌∷◌, Memᴰ}
use Rattle.std.specs.Float.{nan, binary64}
use Rattle.std.specs.Float.Ieee.{lt, eq, of_int, to_unsigned}
use Rattle.spans.specs.Spans.{within, holds}
use Rattle.grid.specs.Axes.{world_axis}
use Rattle.grid.specs.Rays.{rays_along, ray_number, Ray}
use Rattle.grid.specs.declared.DexelGrid.{DexelGrid}
use Rattle.stock.specs.Stock.{Kind, Possible, Certain}
use Rattle.log_model.specs.declared.Entry.{Entry}

-- ---- a log: six doubles for each entry

-- the entry in the doubles from 6 i on
unfoldable pub entry_at : List Float → ℕ → Entry
entry_at log i = record {
  axis = get_or log (6 * i) nan;
  index = get_or log (6 * i + 1) nan;
  outer_lo = get_or log (6 * i + 2) nan;
  outer_hi = get_or log (6 * i + 3) nan;
  inner_lo = get_or log (6 * i + 4) nan;
  inner_hi = get_or log (6 * i + 5) nan;
}

-- n entries from the i-th on
unfoldable pub entries_from : List Float → ℕ → ℕ → List Entry
unfolding entry_at
entries_from log i zero = []
entries_from log i (suc n) = entry_at log i ∷ entries_from log (suc i) n

-- how many whole entries the log has
abbrev pub entry_count : List Float → ℕ
entry_count log = length log / 6

-- no part of an entry is over
abbrev pub WholeLog : List Float → Type 0
WholeLog log = length log % 6 ≡ 0

-- the pairs that a log commit needs in its work buffer, by document 01: six for each interval of the budget and 18 for each entry
abbrev pub work_needed : (intervals : ℕ) → List Float → ℕ
work_needed intervals log = 6 * intervals + 18 * entry_count log

-- its whole entries, in order
unfoldable pub entries : List Float → List Entry
unfolding entries_from
entries log = entries_from log 0 (entry_count log)

-- x is a whole number from 0 up. Minus zero is 0; a fraction, a negative number, an infinity and NaN are none.
unfoldable pub is_whole : Float → Bool
unfolding to_unsigned of_int
is_whole x = eq x (of_int binary64 (pos (to_unsigned 64 x)))

-- the whole number that x is
abbrev pub whole_of : Float → ℕ
whole_of x = to_unsigned 64 x

-- the entry names a ray: its axis is 0, 1 or 2, and its index a whole number below the number of rays along that axis
unfoldable pub names_some_ray : DexelGrid → Entry → Bool
unfolding is_whole rays_along
names_some_ray g e = is_whole e.axis
    && (ltb (whole_of e.axis) 3 &&
    (is_whole e.index && ltb (whole_of e.index) (rays_along g (world_axis (whole_of e.axis)))))

-- the number of that ray
unfoldable pub entry_ray : DexelGrid → Entry → ℕ
unfolding ray_number
entry_ray g e = ray_number g (world_axis (whole_of e.axis)) (whole_of e.index)

-- the entry names the ray of this number
unfoldable pub names_ray : DexelGrid → Entry → (ray : ℕ) → Bool
unfolding names_some_ray entry_ray
names_ray g e ray = names_some_ray g e && eqb (entry_ray g e) ray

-- ---- the points that a log takes

-- a hit is an outer or an inner one
pub data HitKind : Type 0 where
  outer inner : HitKind

-- the two ends of an entry's pair
unfoldable pub hit_lo : HitKind → Entry → Float
hit_lo outer e = e.outer_lo
hit_lo inner e = e.inner_lo

unfoldable pub hit_hi : HitKind → Entry → Float
hit_hi outer e = e.outer_hi
hit_hi inner e = e.inner_hi

-- the outer or the inner pairs of the entries that name the ray, as a flat list. Pairs without lo < hi hold no point.
unfoldable pub hits_on_ray : DexelGrid → List Entry → (ray : ℕ) → HitKind → List Float
unfolding names_ray hit_lo hit_hi
hits_on_ray g [] ray w = []
hits_on_ray g (e ∷ es) ray w = cond (names_ray g e ray) (hit_lo w e ∷ hit_hi w e ∷ hits_on_ray g es ray w) (hits_on_ray g es ray w)

-- a log takes the points of its inner hits from possible, those of its outer and inner hits from certain
unfoldable pub removed : (g : DexelGrid) → List Entry → Ray g → Kind → Float → Bool
unfolding hits_on_ray holds
removed g es r Possible p = holds (hits_on_ray g es r.0 inner) p
removed g es r Certain p = holds (hits_on_ray g es r.0 outer) p || holds (hits_on_ray g es r.0 inner) p

-- ---- hits, for the claims about a whole list of logs

-- document 01's hit: an entry's outer or inner pair with lo < hi, on the ray that the entry names, in one of the logs
pub record Hit (g : DexelGrid) (logs : List (List Float)) (r : Ray g) (w : HitKind) : Type 0 where
  pub log : List Float
  pub entry : Entry
  pub in_logs : Memᴰ log logs
  pub in_log : Memᴰ entry (entries log)
  pub on_ray : names_ray g entry r.0 ≡ true
  pub proper : lt (hit_lo w entry) (hit_hi w entry) ≡ true

-- p lies in a hit of one of the logs
unfoldable pub InHit : (g : DexelGrid) → List (List Float) → Ray g → HitKind → Float → Type 0
unfolding hit_lo hit_hi
InHit g logs r w p = (h : Hit g logs r w) × (within (hit_lo w h.entry) (hit_hi w h.entry) p ≡ true)

-- ---- commits

-- what a log commit brings: its log as it stands when the commit comes, how many rays it may change, and how many
-- pairs its work buffer has room for
pub record Commit : Type 0 where
  pub log : List Float
  pub allowance : ℕ
  pub work : ℕ

-- what the commit brings: only the pairs of its work buffer count
abbrev pub commit_of : (log : List Float) (allowance : ℕ) (work : List Float) → Commit
commit_of log allowance work = record { log = log; allowance = allowance; work = length work / 2 }
