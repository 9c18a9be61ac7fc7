-- The rays that a sweep visits, in order, each with its log entry or none; and how many they are.
use Rattle.std.specs.Prelude.{List, ◌++◌, ℕ, ◌+◌, ◌/◌, Float, length, Option}
use Rattle.grid.specs.Axes.{by_digit, world_axis, cells_along, cross_of}
use Rattle.grid.specs.Rays.{offset}
use Rattle.grid.specs.declared.WorldAxis.{WorldAxis}
use Rattle.grid.specs.declared.DexelStockSpec.{DexelStockSpec}
use Rattle.grid.specs.declared.DexelGrid.{DexelGrid}
use Rattle.frame.specs.Frame.{local_axis, world_axis_of}
use Rattle.frame.specs.declared.Frame.{Frame}
use Rattle.sweep_model.specs.declared.RayRange.{RayRange}
use Rattle.sweep_model.specs.Kernel.{chord_on_axis_of, rectangle_of}
use Rattle.sweep_model.specs.declared.Profile.{Profile}
use Rattle.sweep_model.specs.declared.Kernel.{Kernel}
use Rattle.sweep_model.specs.declared.Chord.{Chord}
use Rattle.sweep_model.specs.declared.ChordOnAxis.{ChordOnAxis}
use Rattle.sweep_model.specs.Entries.{each, sum_each, ray_entry, rectangle_entries, rays_in, joined}
use Rattle.sweep_model.specs.declared.AxisRays.{AxisRays}
use Rattle.sweep_model.specs.Chords.{chord_of}
use Rattle.store.specs.Store.{Cells}

-- the rays of a world axis: the number of the first, the cells of a row and the rows (dexel.rs 73-79)
unfoldable pub axis_rays_of : DexelGrid → WorldAxis → AxisRays
axis_rays_of g a = record { axis = a; first = offset g a; row = cells_along g (cross_of a).u; rows = cells_along g (cross_of a).v }

-- what a sweep is made on and with
pub record Setting : Type 0 where
  pub spec : DexelStockSpec
  pub grid : DexelGrid
  pub kernel : Kernel
  pub profile : Profile
  pub cells : Cells

-- a setting by its parts
abbrev pub setting : DexelStockSpec → DexelGrid → Kernel → Profile → Cells → Setting
setting spec g k p c = record { spec = spec; grid = g; kernel = k; profile = p; cells = c }

-- the chord as the rays of a world axis see it
abbrev pub chord_on_axis_in : Setting → Chord → WorldAxis → ChordOnAxis
chord_on_axis_in s c a = chord_on_axis_of s.spec s.grid s.kernel s.profile c a

-- document 01's clamped rectangle of a chord and a world axis
abbrev pub rectangle_in : Setting → Chord → WorldAxis → Option RayRange
rectangle_in s c a = rectangle_of s.spec s.grid s.profile (chord_on_axis_in s c a) a

-- the rays along a world axis that a chord visits (sweep.rs 929-965)
unfoldable pub axis_entries : Setting → Chord → WorldAxis → List (List Float)
axis_entries s c a =
    rectangle_entries
    (ray_entry s.spec.max_intervals (axis_rays_of s.grid a) s.profile (chord_on_axis_in s c a) s.cells.spans
    s.cells.links s.cells.heads)
    (rectangle_in s c a)

-- the two world axes other than the tool's, ascending (sweep.rs 578-585)
unfoldable pub first_axis : Frame → WorldAxis
first_axis f = by_digit (world_axis_of f (local_axis 2)).0 (world_axis 1) (world_axis 0) (world_axis 0)

-- the second of them
unfoldable pub second_axis : Frame → WorldAxis
second_axis f = by_digit (world_axis_of f (local_axis 2)).0 (world_axis 2) (world_axis 2) (world_axis 1)

-- a chord's rays along both (sweep.rs 578-587, without the columns)
unfoldable pub chord_entries : Setting → Chord → List (List Float)
chord_entries s c = axis_entries s c (first_axis s.kernel.frame) ++ axis_entries s c (second_axis s.kernel.frame)

-- chord i in the tool's frame
abbrev pub chord_in : Setting → List Float → ℕ → Chord
chord_in s chords i = chord_of s.kernel.frame chords i

-- chords in order (sweep.rs 577-588)
unfoldable pub sweep_entries : Setting → (chords : List Float) → List (List Float)
sweep_entries s chords = each (λ i. chord_entries s (chord_in s chords i)) 0 (length chords / 8)

-- what a sweep logs
unfoldable pub log_of : Setting → (chords : List Float) → List Float
log_of s chords = joined (sweep_entries s chords)

-- document 01's visit total: the number of rays in the clamped rectangles, two for each chord
abbrev pub chord_visits : Setting → Chord → ℕ
chord_visits s c = rays_in (rectangle_in s c (first_axis s.kernel.frame)) + rays_in (rectangle_in s c (second_axis s.kernel.frame))

-- the sum over all chords (`visits`, sweep.rs 348 and 589)
unfoldable pub visit_total : Setting → (chords : List Float) → ℕ
visit_total s chords = sum_each (λ i. chord_visits s (chord_in s chords i)) 0 (length chords / 8)
