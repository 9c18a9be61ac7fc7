-- What the inner steps of a merge ask and leave.
use Rattle.std.specs.Prelude.{◌≡◌, true, cond, not, List, ℕ, ◌+◌, ◌*◌, ◌%◌, ◌≤◌, length, take, drop, Float}
use Rattle.spans.specs.Spans.{holds, sound, equal, NormalOf}
use Rattle.spans.specs.Steps.{SameFrom, SameBelow}
use Rattle.spans.specs.declared.Place.{Place}
use Rattle.spans.specs.Overlay.{less_of}
use Rattle.span_overlay.specs.Steps.{OverlayCutPost}
use Rattle.ray_subtract.specs.Subtract.{either_hit, new_cells, ListAfterHits}
use Rattle.ray_subtract.specs.declared.MergedList.{MergedList}
use Rattle.ray_subtract.specs.declared.MergedLists.{MergedLists}
use Rattle.spans.specs.Rays.{MergedExactly}

-- the n cells from cell `at` on
abbrev pub cells_from : ℕ → ℕ → List Float → List Float
cells_from at n w = take n (drop at w)

-- a sound list of n cells stands at `at`
pub record SoundListAt (at n : ℕ) (w : List Float) : Type 0 where
  pub room : at + n ≤ length w
  pub is_sound : sound (cells_from at n w) ≡ true

-- the cells in front of `from`, and those from `to` on, are as before
pub record ChangedBetween (from to : ℕ) (before after : List Float) : Type 0 where
  pub size : length after ≡ length before
  pub front : SameBelow from before after
  pub past : SameFrom to before after

-- what the list of m cells at `at` leaves of a pair stands past the first n cells; no cell from there on changed that is still to be read
pub record CutAt (at m : ℕ) (from hi : Float) (before : List Float) (n : ℕ) (after : List Float) (r : Place) : Type 0 where
  pub cut : OverlayCutPost (cells_from at m before) from hi before n after r
  pub past : SameFrom (n + r.passed + 2) before after

-- the list stands at `to`, r cells long, at most `limit`; only cells from `to` to `end` changed
pub record WrittenAt (list : List Float) (to end limit : ℕ) (before after : List Float) (r : ℕ) : Type 0 where
  pub between : ChangedBetween to end before after
  pub most : r ≤ limit
  pub ends : cells_from to r after ≡ list

-- the list of n cells at c less the outer hits behind it, of o cells, and then less the inner ones behind those, of i cells
abbrev pub less_hits : (c n o i : ℕ) → List Float → List Float
less_hits c n o i w = less_of (less_of (cells_from c n w) (cells_from (c + n) o w)) (cells_from (c + n + o) i w)

-- what a part says of a list and the one that becomes of it: whether a boundary moved, and how many pairs that one has
pub record Becomes (a list : List Float) (r : MergedList) : Type 0 where
  pub moves : r.moved ≡ not (equal a list)
  pub pairs : length list ≡ 2 * r.pairs

-- the list after a step: the new one at cell `to`, or the old one
abbrev pub new_list : MergedList → List Float → ℕ → List Float → List Float
new_list r a to w = cond r.moved (cells_from to (2 * r.pairs) w) a

-- what becomes of the list a: only cells from `to` to `end` changed, and a new list has at most `limit` cells
pub record ReducePost (a list : List Float) (to end limit : ℕ) (before after : List Float) (r : MergedList) : Type 0 where
  pub between : ChangedBetween to end before after
  pub most : new_cells r ≤ limit
  pub is : new_list r a to after ≡ list
  pub becomes : Becomes a list r

-- the ray's lists and the normalized hits stand one after the other from cell `at` on: possible of np cells, certain of nc, outer of no and
-- inner of ni
pub record MergeWithinPre (at np nc no ni : ℕ) (w : List Float) : Type 0 where
  pub room : np + nc + no + 2 * ni ≤ at
  pub possible : SoundListAt at np w
  pub certain : SoundListAt (at + np) nc w
  pub outer : SoundListAt (at + np + nc) no w
  pub inner : SoundListAt (at + np + nc + no) ni w

-- both lists less the hits: the new ones stand at the start, possible's before certain's, and no cell from `at` on changed
pub record MergeWithinPost (at np nc no ni : ℕ) (before after : List Float) (r : MergedLists) : Type 0 where
  pub between : ChangedBetween 0 at before after
  pub room : new_cells r.possible + new_cells r.certain ≤ at
  pub possible_is : new_list r.possible (cells_from at np before) 0 after
      ≡ less_of (cells_from at np before) (cells_from (at + np + nc + no) ni before)
  pub certain_is : new_list r.certain (cells_from (at + np) nc before) (new_cells r.possible) after ≡ less_hits (at + np) nc no ni before
  pub possible_becomes : Becomes (cells_from at np before)
      (less_of (cells_from at np before) (cells_from (at + np + nc + no) ni before)) r.possible
  pub certain_becomes : Becomes (cells_from (at + np) nc before) (less_hits (at + np) nc no ni before) r.certain

-- the list stands at `at`, and the cells in front of it are as before
pub record PlacedAt (list : List Float) (at : ℕ) (before after : List Float) : Type 0 where
  pub size : length after ≡ length before
  pub front : SameBelow at before after
  pub cells : cells_from at (length list) after ≡ list

-- the list that normalising makes of the pairs stands at `at`, r cells long, and the cells in front of it are as before
pub record NormalizedAt (spans : List Float) (at : ℕ) (before after : List Float) (r : ℕ) : Type 0 where
  pub size : length after ≡ length before
  pub front : SameBelow at before after
  pub most : r ≤ length spans
  pub list : NormalOf spans (cells_from at r after)

-- what is asked of the lists to merge
pub record MergeInputs (possible certain outer inner work : List Float) : Type 0 where
  pub possible_sound : sound possible ≡ true
  pub certain_sound : sound certain ≡ true
  pub outer_whole : length outer % 2 ≡ 0
  pub inner_whole : length inner % 2 ≡ 0
  pub room : 4 * (length possible + length certain) + 8 * (length outer + length inner) ≤ length work

-- both lists less the hits, the new ones at the start of the buffer
pub record MergeListsPost (possible certain outer inner before after : List Float) (r : MergedLists) : Type 0 where
  pub size : length after ≡ length before
  pub room : new_cells r.possible + new_cells r.certain ≤ length before
  pub possible_left : ListAfterHits possible (holds inner) r.possible (new_list r.possible possible 0 after)
  pub certain_left : ListAfterHits certain (either_hit outer inner) r.certain (new_list r.certain certain (new_cells r.possible) after)
  pub exact : MergedExactly possible certain outer inner (new_list r.possible possible 0 after)
      (new_list r.certain certain (new_cells r.possible) after)
