-- The rays of a rectangle, in order, each with its log entry: none, or six doubles (sweep.rs 345-373 and 929-965).
use Rattle.std.specs.Prelude.{List, [], ◌∷◌, ◌++◌, ℕ, zero, suc, ◌+◌, ◌-◌, ◌*◌, Float, Option, None, Some}
use Rattle.grid.specs.Grid.{whole}
use Rattle.grid.specs.declared.WorldAxis.{WorldAxis}
use Rattle.sweep_model.specs.Section.{section_of}
use Rattle.sweep_model.specs.Across.{ray_hit_of}
use Rattle.sweep_model.specs.declared.Profile.{Profile}
use Rattle.sweep_model.specs.declared.ChordOnAxis.{ChordOnAxis}
use Rattle.sweep_model.specs.declared.RayRange.{RayRange}
use Rattle.sweep_model.specs.declared.HitPairs.{HitPairs}
use Rattle.sweep_model.specs.declared.AxisRays.{AxisRays}
use Rattle.store.specs.Store.{cells, store_list}
use Rattle.stock.specs.Stock.{Possible, list_number}

-- document 01's log entry, in place of what sweep.rs 961-963 push: axis, index, outer, inner
unfoldable pub entry_of : WorldAxis → (index : ℕ) → HitPairs → List Float
entry_of axis index h = whole axis.0 ∷ whole index ∷ h.outer.lo ∷ h.outer.hi ∷ h.inner.lo ∷ h.inner.hi ∷ []

-- one entry for a hit ray, none for another (sweep.rs 930-963)
unfoldable pub entry_for : WorldAxis → (index : ℕ) → Option HitPairs → List Float
entry_for axis index None = []
entry_for axis index (Some h) = entry_of axis index h

-- a ray's index is iv · cells[u] + iu (sweep.rs 367)
abbrev pub index_of : AxisRays → (u v : ℕ) → ℕ
index_of t u v = v * t.row + u

-- its possible list is the first of its two (sweep.rs 376-378)
abbrev pub possible_at : (n : ℕ) → AxisRays → List Float → (links heads : List ℕ) → (u v : ℕ) → List Float
possible_at n t spans links heads u v = store_list n (cells spans links heads) (list_number (t.first + index_of t u v) Possible)

-- what the ray at the cells u and v adds to the log (sweep.rs 355-371)
unfoldable pub ray_entry : (n : ℕ) → AxisRays → Profile → ChordOnAxis → List Float → (links heads : List ℕ) → (u v : ℕ) → List Float
ray_entry n t p l spans links heads u v =
    entry_for t.axis (index_of t u v) (ray_hit_of p l (section_of l u v) (possible_at n t spans links heads u v))

-- f at `from` and the numbers after it, `count` of them, one after the other
unfoldable pub each : (ℕ → List (List Float)) → (from count : ℕ) → List (List Float)
each f from zero = []
each f from (suc count) = f from ++ each f (suc from) count

-- v outside and u inside (sweep.rs 345-373): the rays of a row
unfoldable pub row_entries : ((u v : ℕ) → List Float) → RayRange → (v : ℕ) → List (List Float)
row_entries f r v = each (λ u. f u v ∷ []) r.u0 (r.u1 + 1 - r.u0)

-- the rows of a rectangle
unfoldable pub rect_entries : ((u v : ℕ) → List Float) → RayRange → List (List Float)
rect_entries f r = each (row_entries f r) r.v0 (r.v1 + 1 - r.v0)

-- a rectangle that misses the blank has no rays (sweep.rs 335-337)
abbrev pub rectangle_entries : ((u v : ℕ) → List Float) → Option RayRange → List (List Float)
rectangle_entries f None = []
rectangle_entries f (Some r) = rect_entries f r

-- how many rays a rectangle has; one that misses the blank counts none (sweep.rs 348)
unfoldable pub rays_in : Option RayRange → ℕ
rays_in None = 0
rays_in (Some r) = (r.v1 + 1 - r.v0) * (r.u1 + 1 - r.u0)

-- f at `from` and the numbers after it, `count` of them, added up
unfoldable pub sum_each : (ℕ → ℕ) → (from count : ℕ) → ℕ
sum_each f from zero = 0
sum_each f from (suc count) = f from + sum_each f (suc from) count

-- the entries in a row, as they stand in the log
unfoldable pub joined : List (List Float) → List Float
joined [] = []
joined (e ∷ es) = e ++ joined es

-- the number of entries: the rays that have one
unfoldable pub logged_entries : List (List Float) → ℕ
logged_entries [] = 0
logged_entries ([] ∷ es) = logged_entries es
logged_entries ((x ∷ e) ∷ es) = suc (logged_entries es)
