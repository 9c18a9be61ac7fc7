-- W-234: the tool standing still at a point of the plan, with the widest radius of the ray's window, over the definitions that
-- the sweep's contract cites. `l.a` and `l.b` are the ends of a chord as the rays of an axis see them: x along the ray, y
-- across it.
use Rattle.std.specs.Prelude.{◌≡◌, List, ◌⊎◌, ℕ, ◌/◌, ◌<◌, ℤ, Float, length, Some}
use Rattle.grid.specs.Grid.{whole}
use Rattle.grid.specs.declared.WorldAxis.{WorldAxis}
use Rattle.cutter.specs.Cutter.{cut_max}
use Rattle.strips.specs.declared.PlanePoint.{PlanePoint}
use Rattle.strips.specs.declared.Strip.TheVariants.{Hit}
use Rattle.log_model.specs.Logs.{entry_at}
use Rattle.sweep_model.specs.Section.{section_of}
use Rattle.sweep_model.specs.Entries.{index_of}
use Rattle.sweep_model.specs.Steps.{RayIn}
use Rattle.sweep_model.specs.SweepEntries.{Setting, chord_on_axis_in, chord_in, rectangle_in, axis_rays_of, first_axis, second_axis}
use Rattle.sweep_model.specs.declared.Profile.{Profile}
use Rattle.sweep_model.specs.declared.ChordOnAxis.{ChordOnAxis}
use Rattle.sweep_model.specs.declared.Section.{Section}
use Rattle.discs.specs.Disc.{DiscPre, InDisc, HoldsClosed}
use Rattle.discs.specs.Outer.{outer_local, world_strip}

-- what is asked of a ray's section and a centre c: r is the widest radius over the ray's window as the sweep works it out, before
-- e is added, and the numbers are as W-234 asks
pub record StandingPre (M : ℕ) (p : Profile) (l : ChordOnAxis) (s : Section) (c : PlanePoint) (r : Float) : Type 0 where
  pub widest : cut_max p.shape p.cutter s.w0 s.w1 ≡ Some r
  pub numbers : DiscPre M c.x c.y s.y0 s.y1 l.e l.guard r

-- the outer pair holds each point of the disc of radius r around c within the band
abbrev pub DiscCovered : Profile → ChordOnAxis → Section → (c : PlanePoint) → (r : Float) → Type 0
DiscCovered p l s c r = (scale : ℕ) (x y : ℤ) → InDisc c.x c.y r s.y0 s.y1 scale x y → HoldsClosed scale x (outer_local p l s)

-- the theorem, for the tool at either end of a chord
pub record EndsCovered (p : Profile) (l : ChordOnAxis) (s : Section) : Type 0 where
  pub at_first : (M : ℕ) (r : Float) → StandingPre M p l s l.a r → DiscCovered p l s l.a r
  pub at_last : (M : ℕ) (r : Float) → StandingPre M p l s l.b r → DiscCovered p l s l.b r

-- a ray that a sweep visits: a chord, a world axis other than the tool's, and two cells of their rectangle
pub record VisitedRay (s : Setting) (chords : List Float) : Type 0 where
  pub i : ℕ
  pub axis : WorldAxis
  pub iu : ℕ
  pub iv : ℕ
  pub chord_given : i < length chords / 8
  pub axis_across : (axis ≡ first_axis s.kernel.frame) ⊎ (axis ≡ second_axis s.kernel.frame)
  pub visited : RayIn (rectangle_in s (chord_in s chords i) axis) iu iv

-- its chord, as the rays along its axis see it
abbrev pub ray_chord : (s : Setting) → (chords : List Float) → VisitedRay s chords → ChordOnAxis
ray_chord s chords v = chord_on_axis_in s (chord_in s chords v.i) v.axis

-- its cross-section
abbrev pub ray_section : (s : Setting) → (chords : List Float) → VisitedRay s chords → Section
ray_section s chords v = section_of (ray_chord s chords v) v.iu v.iv

-- entry k of a log names a ray that the sweep visits, and its outer pair is that ray's, turned to world direction
pub record EntryTurned (s : Setting) (chords log : List Float) (k : ℕ) : Type 0 where
  pub ray : VisitedRay s chords
  pub axis_logged : (entry_at log k).axis ≡ whole ray.axis.0
  pub index_logged : (entry_at log k).index ≡ whole (index_of (axis_rays_of s.grid ray.axis) ray.iu ray.iv)
  pub outer_logged : Hit (entry_at log k).outer_lo (entry_at log k).outer_hi
      ≡ world_strip (ray_chord s chords ray).frame (ray_chord s chords ray).la
      (outer_local s.profile (ray_chord s chords ray) (ray_section s chords ray))

-- W-234 of a sweep that leaves this log with so many entries: for every ray that it visits the theorem holds at both ends of the
-- chord, and every entry's outer pair is that of such a ray, turned
pub record SweepCovered (s : Setting) (chords log : List Float) (entries : ℕ) : Type 0 where
  pub covered : (v : VisitedRay s chords) → EndsCovered s.profile (ray_chord s chords v) (ray_section s chords v)
  pub entries_turned : (k : ℕ) → k < entries → EntryTurned s chords log k
