-- The rays of an axis in a sound store, and the rectangle that a chord visits among them.
use Rattle.std.specs.Prelude.{Result, Ok}
use Rattle.refusal.specs.declared.Refusal.{Refusal}
use Rattle.std.specs.Prelude.{Option, None, Some}
use mathlib.Core.Path.{◌≡◌, refl, sym, ap, subst, ◌∙◌}
use mathlib.Core.Bool.{Bool, true, false, cond}
use mathlib.Core.List.{List}
use Prim.Native.Nat.{ℕ, zero, suc, ◌+◌, ◌*◌, ◌^◌, ◌≤◌, ◌<◌}
use native.Mathlib.Omega.{arith}
use lib.Ieee.{Float, lt}
use lib.ListN.{length}
use Rattle.grid.specs.Axes.{by_digit, world_axis, along_of, cells_along, cross_of}
use Rattle.grid.specs.Rays.{ray_count, rays_along, offset, cell_at}
use Rattle.grid.specs.declared.WorldAxis.{WorldAxis}
use Rattle.grid.specs.declared.CrossAxes.{CrossAxes}
use Rattle.grid.specs.declared.DexelStockSpec.{DexelStockSpec}
use Rattle.grid.specs.declared.DexelGrid.{DexelGrid}
use Rattle.grid.proofs.Tests.{third}
use Rattle.grid.proofs.Described.{each}
use Rattle.grid.proofs.Numbering.{offset-le}
use Rattle.grid.proofs.Lookup.{cell_below}
use Rattle.frame.specs.Frame.{local_axis, world_axis_of}
use Rattle.frame.specs.declared.Frame.{Frame}
use Rattle.frame.specs.declared.Pair.{Pair}
use Rattle.stock.proofs.Rays.{list-readable}
use Rattle.sweep_model.specs.Kernel.{cells_met, cells_across, rectangle, rectangle_of}
use Rattle.sweep_model.specs.declared.CellRange.{CellRange}
use Rattle.sweep_model.specs.declared.Profile.{Profile}
use Rattle.sweep_model.specs.declared.Chord.{Chord}
use Rattle.sweep_model.specs.declared.ChordOnAxis.{ChordOnAxis}
use Rattle.sweep_model.specs.declared.RayRange.{RayRange}
use Rattle.sweep_model.specs.Entries.{ray_entry, rect_entries, rectangle_entries}
use Rattle.sweep_visits.specs.declared.VisitCursor.{VisitCursor}
use Rattle.sweep_model.specs.declared.AxisRays.{AxisRays}
use Rattle.sweep_visits.proofs.Walks.{went-none}
use Rattle.sweep_model.specs.SweepEntries.{axis_rays_of, Setting, chord_on_axis_in, axis_entries, first_axis, second_axis}
use Rattle.sweep_visits.specs.Steps.{WalkPost, Went, AxisReady}
use Rattle.sweep_walk.specs.Steps.{Sweepable}
use Rattle.grid.specs.Facts.{GridFacts}
use Rattle.store.specs.Store.{Cells}

-- ---- a sound store can be read along every axis
module _ (spec : DexelStockSpec) (g : DexelGrid) (c : Cells) (s : Sweepable spec g c) where
  some : (a : WorldAxis) → cells_along g a ≤ spec.max_rays
  some = each (λ (n : ℕ). n ≤ spec.max_rays) _ _ _ s.facts.few0 s.facts.few1 s.facts.few2

  pub few_rays : ray_count g < 2 ^ 64
  few_rays = omega (arith, s.facts.rays, s.facts.ceiling)

  ready : (a : WorldAxis) → AxisReady spec.max_intervals (axis_rays_of g a) c.spans c.links c.heads
  unfolding axis_rays_of rays_along
  ready a =
      let o : offset g a + rays_along g a ≤ ray_count g = offset-le g a in
      let m : ray_count g ≤ spec.max_rays = s.facts.rays in
      let l : spec.max_rays < 2 ^ 32 = s.facts.ceiling in
      record {
        few = omega arith;
        wide = omega (arith, some (cross_of a).u);
        tall = omega (arith, some (cross_of a).v);
        rays = λ (ray : ℕ) (h : ray < offset g a + cells_along g (cross_of a).u * cells_along g (cross_of a).v).
            let b : ray < ray_count g = omega arith in
            record {
              in_heads = omega (arith, s.chained.room.in_heads);
              readable = list-readable spec g c s.chained (2 * ray) (omega arith);
              is_sound = (s.valid ray b).possible_sound;
            };
      }

-- ---- the cells of a rectangle are cells of the grid
abbrev Under : ℕ → Option CellRange → Type 0
Under n None = Unit {0}
Under n (Some r) = r.last < n

abbrev Inside : (row rows : ℕ) → Option RayRange → Type 0
Inside row rows None = Unit {0}
Inside row rows (Some r) = (r.u1 < row) × (r.v1 < rows)

inside : (row rows : ℕ) (us vs : Option CellRange) → Under row us → Under rows vs → Inside row rows (rectangle us vs)
inside row rows None vs h k = tt
inside row rows (Some us) None h k = tt
inside row rows (Some us) (Some vs) h k = (h, k)

module _ (spec : DexelStockSpec) (g : DexelGrid) (f : GridFacts spec g) where
  met-under : (w : WorldAxis) (p : Pair) → Under (cells_along g w) (cells_met spec g w p)
  unfolding cells_met
  met-under w p = go (lt p.hi (along_of spec.min_mm w)) (lt (along_of spec.max_mm w) p.lo) (lt p.hi p.lo)
    where
      go : (a b c : Bool) → Under (cells_along g w)
          (cond a None (cond b None (cond c None (Some (record { first = cell_at spec g w p.lo; last = cell_at spec g w p.hi })))))
      go true b c = tt
      go false true c = tt
      go false false true = tt
      go false false false = cell_below spec g f w p.hi

  rectangle-inside : (p : Profile) (l : ChordOnAxis) (a : WorldAxis)
      → Inside (cells_along g (cross_of a).u) (cells_along g (cross_of a).v) (rectangle_of spec g p l a)
  unfolding rectangle_of cells_across
  rectangle-inside p l a = inside _ _ (cells_across spec g p l (cross_of a).u) (cells_across spec g p l (cross_of a).v)
      (met-under (cross_of a).u _) (met-under (cross_of a).v _)

-- what the walk over a rectangle asks for
pub record RectReady (n : ℕ) (t : AxisRays) (c : Cells) (q : RayRange) : Type 0 where
  pub rays : AxisReady n t c.spans c.links c.heads
  pub row : q.u1 < t.row
  pub rows : q.v1 < t.rows

pub rect-ready : (spec : DexelStockSpec) (g : DexelGrid) (c : Cells) → Sweepable spec g c
    → (p : Profile) (l : ChordOnAxis) (a : WorldAxis) (t : AxisRays) (r : Option RayRange) (q : RayRange)
    → t ≡ axis_rays_of g a → r ≡ rectangle_of spec g p l a → r ≡ Some q → RectReady spec.max_intervals t c q
rect-ready spec g c s p l a t r q e h k =
    subst (λ (x : AxisRays). RectReady spec.max_intervals x c q) (sym e)
    (made (subst (Inside (cells_along g (cross_of a).u) (cells_along g (cross_of a).v)) (sym h ∙ k)
    (rectangle-inside spec g s.facts p l a)))
  where
    made : (q.u1 < cells_along g (cross_of a).u) × (q.v1 < cells_along g (cross_of a).v)
        → RectReady spec.max_intervals (axis_rays_of g a) c q
    made i = record { rays = ready spec g c s a; row = unfold axis_rays_of in i.0; rows = unfold axis_rays_of in i.1 }

-- ---- one axis of a chord
module _ (s : Setting) (c : Chord) (a : WorldAxis) where
  axis-is : (l : ChordOnAxis) (r : Option RayRange) → l ≡ chord_on_axis_in s c a → r ≡ rectangle_of s.spec s.grid s.profile l a
      → axis_entries s c a ≡ rectangle_entries
      (ray_entry s.spec.max_intervals (axis_rays_of s.grid a) s.profile l s.cells.spans
      s.cells.links s.cells.heads) r
  unfolding axis_entries
  axis-is l r e h =
      sym (ap (λ (x : ChordOnAxis). rectangle_entries
      (ray_entry s.spec.max_intervals (axis_rays_of s.grid a) s.profile x s.cells.spans
      s.cells.links s.cells.heads) (rectangle_of s.spec s.grid s.profile x a)) e)
      ∙ ap (rectangle_entries (ray_entry s.spec.max_intervals (axis_rays_of s.grid a) s.profile l
      s.cells.spans s.cells.links s.cells.heads)) (sym h)

  pub axis-none : {budget : ℕ} {start : VisitCursor} {log : List Float} (l : ChordOnAxis) (r : Option RayRange)
      → l ≡ chord_on_axis_in s c a → r ≡ rectangle_of s.spec s.grid s.profile l a → r ≡ None → start.at ≤ length log
      → WalkPost budget (axis_entries s c a) start log (Ok start) log
  axis-none {budget} {start} {log} l r e h k room =
      subst (λ (es : List (List Float)). Went budget es start log start log)
      (sym (axis-is l r e h ∙ ap (rectangle_entries
      (ray_entry s.spec.max_intervals (axis_rays_of s.grid a) s.profile l s.cells.spans
      s.cells.links s.cells.heads)) k)) (went-none room)

  pub axis-some : (budget : ℕ) (start : VisitCursor) (log after : List Float) (x : Result VisitCursor Refusal) (l : ChordOnAxis)
      (t : AxisRays) (r : Option RayRange) (q : RayRange)
      → l ≡ chord_on_axis_in s c a → t ≡ axis_rays_of s.grid a → r ≡ rectangle_of s.spec s.grid s.profile l a → r ≡ Some q
      → WalkPost budget (rect_entries
      (ray_entry s.spec.max_intervals t s.profile l s.cells.spans s.cells.links s.cells.heads)
      q) start log x after
      → WalkPost budget (axis_entries s c a) start log x after
  axis-some budget start log after x l t r q e f h k w =
      subst (λ (es : List (List Float)). WalkPost budget es start log x after)
      (ap (λ (y : AxisRays). rect_entries
      (ray_entry s.spec.max_intervals y s.profile l s.cells.spans s.cells.links s.cells.heads) q) f
      ∙ sym (axis-is l r e h ∙ ap (rectangle_entries
      (ray_entry s.spec.max_intervals (axis_rays_of s.grid a) s.profile l s.cells.spans
      s.cells.links s.cells.heads)) k)) w

pub axis-rays-is : (g : DexelGrid) (a : WorldAxis) (w : CrossAxes) (o m n : ℕ) → w ≡ cross_of a → o ≡ offset g a
    → m ≡ cells_along g w.u → n ≡ cells_along g w.v → record { axis = a; first = o; row = m; rows = n } ≡ axis_rays_of g a
unfolding axis_rays_of
axis-rays-is g a w o m n e h k l = rw (← e, h, k, l)

-- ---- the two world axes other than the tool's
module _ (f : Frame) (w : WorldAxis) (e : w ≡ world_axis_of f (local_axis 2)) where
  digit : w.0 ≡ (world_axis_of f (local_axis 2)).0
  digit = ap (λ (x : WorldAxis). x.0) e

  pub first-0 : w.0 ≡ 0 → world_axis 1 ≡ first_axis f
  unfolding first_axis by_digit
  first-0 h = sym (ap (λ (n : ℕ). by_digit n (world_axis 1) (world_axis 0) (world_axis 0)) (sym digit ∙ h))

  pub first_more : (w.0 ≡ 0 → ⊥) → world_axis 0 ≡ first_axis f
  unfolding first_axis by_digit
  first_more h = go w.0 h ∙ ap (λ (n : ℕ). by_digit n (world_axis 1) (world_axis 0) (world_axis 0)) digit
    where
      go : (n : ℕ) → (n ≡ 0 → ⊥) → world_axis 0 ≡ by_digit n (world_axis 1) (world_axis 0) (world_axis 0)
      go zero h = absurd (h refl)
      go (suc zero) h = refl
      go (suc (suc n)) h = refl

  pub second-0 : w.0 ≡ 0 → world_axis 2 ≡ second_axis f
  unfolding second_axis by_digit
  second-0 h = sym (ap (λ (n : ℕ). by_digit n (world_axis 2) (world_axis 2) (world_axis 1)) (sym digit ∙ h))

  pub second-1 : w.0 ≡ 1 → world_axis 2 ≡ second_axis f
  unfolding second_axis by_digit
  second-1 h = sym (ap (λ (n : ℕ). by_digit n (world_axis 2) (world_axis 2) (world_axis 1)) (sym digit ∙ h))

  pub second_more : (w.0 ≡ 0 → ⊥) → (w.0 ≡ 1 → ⊥) → world_axis 1 ≡ second_axis f
  unfolding second_axis by_digit
  second_more h k = sym (ap (λ (n : ℕ). by_digit n (world_axis 2) (world_axis 2) (world_axis 1)) (sym digit ∙ third w.0 h k))
