-- The uncut store, which the fill lays: one full pair in each list, records from 1 up in ray order, possible first,
-- and all other records free.
use Rattle.std.specs.Prelude.{◌≡◌, true, cond, List, [], ◌∷◌, ◌++◌, ℕ, zero, suc, ◌+◌, ◌*◌, ◌/◌, ltb, Float, set, Result, Ok, Err}
use Rattle.doubles.specs.Constants.{plus_zero}
use Rattle.refusal.specs.Refusal.{Cause, cause, Due, NoneDue, number_of}
use Rattle.refusal.specs.declared.Refusal.{Refusal}
use Rattle.grid.specs.Rays.{ray_count, bounds_of}
use Rattle.grid.specs.Causes.{grid_causes, grid_in}
use Rattle.grid.specs.declared.DexelStockSpec.{DexelStockSpec}
use Rattle.grid.specs.declared.DexelGrid.{DexelGrid}
use Rattle.store.specs.Store.{put_span, put_link, Cells, cells}
use Rattle.stock.specs.Stock.{is_short}
use Rattle.stock.specs.declared.Tally.{Tally}
use Rattle.stock_fill.specs.declared.UncutRecord.{UncutRecord}

-- the record at place i: list i has it alone, with the ends of the box along the ray, and no next; past the lists records are free
unfoldable pub record_at : DexelStockSpec → DexelGrid → ℕ → UncutRecord
record_at spec g i =
    cond (ltb i (2 * ray_count g))
    (record { lo = (bounds_of spec g (i / 2)).lo; hi = (bounds_of spec g (i / 2)).hi; owner = i + 1 })
    (record { lo = plus_zero; hi = plus_zero; owner = 0 })

-- the cells with the first so many records, or heads, of the uncut store written
unfoldable pub uncut_spans : DexelStockSpec → DexelGrid → ℕ → List Float → List Float
unfolding record_at
uncut_spans spec g zero spans = spans
uncut_spans spec g (suc i) spans = put_span (uncut_spans spec g i spans) i (record_at spec g i).lo (record_at spec g i).hi

unfoldable pub uncut_links : DexelStockSpec → DexelGrid → ℕ → List ℕ → List ℕ
unfolding record_at
uncut_links spec g zero links = links
uncut_links spec g (suc i) links = put_link (uncut_links spec g i links) i 0 (record_at spec g i).owner

unfoldable pub uncut_heads : ℕ → List ℕ → List ℕ
uncut_heads zero heads = heads
uncut_heads (suc j) heads = set (uncut_heads j heads) j (j + 1)

-- the cells of the uncut store: `max_intervals` records and two heads for each ray are written, and the cells past these are as before
abbrev pub uncut : DexelStockSpec → DexelGrid → Cells → Cells
uncut spec g c = cells (uncut_spans spec g spec.max_intervals c.spans)
    (uncut_links spec g spec.max_intervals c.links) (uncut_heads (2 * ray_count g) c.heads)

-- and its small record
abbrev pub uncut_tally : DexelGrid → Tally
uncut_tally g = record { generation = 0; intervals = 2 * ray_count g }

-- 12, once `grid` accepts
abbrev pub room_causes : DexelStockSpec → DexelGrid → Cells → List Cause
room_causes spec g c = cause 12 (is_short spec g c ≡ true) ∷ []

-- a refused call gives the number that is due and leaves the cells as they were; an accepted one, with no cause, lays
-- the uncut store of the grid
abbrev pub FillPost : List Cause → DexelStockSpec → DexelGrid → Cells → Cells → Result Tally Refusal → Type 0
FillPost causes spec g before after (Err e) = Due causes (number_of e) × (after ≡ before)
FillPost causes spec g before after (Ok t) = NoneDue causes × (t ≡ uncut_tally g) × (after ≡ uncut spec g before)

-- document 01's order for the fill: 1, 2, 3, 12
abbrev pub fill_causes : DexelStockSpec → (units : List ℕ) → Cells → List Cause
fill_causes spec units c = grid_causes spec units ++ room_causes spec (grid_in spec) c
