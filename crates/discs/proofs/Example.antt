-- The worked ray by computation: what W-234 asks is met at both ends of the chord, the outer pair holds an end of either exact
-- chord, and a sweep of the chord is accepted and logs both rays. Assumes nothing.
use mathlib.Core.Path.{◌≡◌, refl, ap}
use mathlib.Core.Bool.{Bool, true, false}
use Prim.Native.Nat.{ℕ, ◌%◌}
use lib.Dec.{lit≤, lit<}
use lib.IntN.{pos, neg_ℤ}
use lib.Signed.{le_z_yes}
use lib.ListN.{length}
use lib.Ieee.{of_bits, of_int, to_unsigned, neg, add, sub, mul, div, lt, le, eq, fits, is_nan}
use Rattle.logic.proofs.Bools.{clash}
use Rattle.doubles.specs.Doubles.{larger_of, smaller_of, abs_of, clamp_of, floor_of, ceil_of}
use Rattle.doubles.specs.Rounding.{ratio}
use Rattle.doubles_sqrt.specs.Root.{magnitude, square_root}
use Rattle.doubles_rounding.specs.Units.{signed_magnitude}
use Rattle.refusal.specs.Refusal.{NoneDue}
use Rattle.cutter.specs.Cutter.{is_finite, off_tool, cutting_radius, radius_at, cut_radius, cut_max, cut_min}
use Rattle.frame.specs.declared.Axis.TheVariants.{PosZ}
use Rattle.frame.specs.Frame.{frame_of, axis_digit, world_axis_of, local_axis_of, sign_along, local_at, local_of, turned, world_of}
use Rattle.grid.specs.Axes.{by_digit, world_axis}
use Rattle.grid.specs.Grid.{is_between, all_between}
use Rattle.grid.specs.FromSpec.{cell_count}
use Rattle.grid.specs.Causes.{mm}
use Rattle.grid.specs.Rays.{ray_count, rays_along, offset, ray_axis, bounds_of, cell_at}
use Rattle.strips.specs.declared.PlanePoint.{PlanePoint}
use Rattle.strips.specs.Strip.{band_distance, half_chord, chord_strip, disk_strip, stadium_strip, hull, side_strip}
use Rattle.strips.specs.Polygon.{inside, crossing, edge, edges, clip, widen, widen_all, extent_strip, polygon_strip}
use Rattle.store.specs.Store.{places, ends_at}
use Rattle.stock_fill.specs.Uncut.{record_at, uncut_spans, uncut_links, uncut_heads}
use Rattle.sweep_model.specs.Meets.{last_of, spans_meet, overlaps_of}
use Rattle.sweep_model.specs.Kernel.{plan_point, reach_of, axis_scale_of, chord_on_axis_of, span_over, cells_met, cells_across, rectangle_of}
use Rattle.sweep_model.specs.Section.{local_center, section_with, section_of}
use Rattle.sweep_model.specs.Across.{outer_from, outer_of, inner_from, inner_of, ray_hit_of}
use Rattle.sweep_model.specs.Entries.{entry_of, entry_for, ray_entry, each, row_entries, rect_entries, logged_entries}
use Rattle.sweep_model.specs.Walk.{Walked, Done, Stop, walk}
use Rattle.sweep_model.specs.Chords.{chord_of}
use Rattle.sweep_model.specs.ChordLimits.{plan_size}
use Rattle.sweep_model.specs.Steps.{guard_fits, ends_fit, length_fits, numbers_fit, chord_fits, every, chords_fit}
use Rattle.sweep_model.specs.SweepEntries.{axis_rays_of, axis_entries, first_axis, second_axis, chord_entries, sweep_entries}
use Rattle.sweep_model.proofs.ChordLimits.{fit-chords}
use Rattle.sweep.specs.Answer.{walk_of, sweep_causes}
use Rattle.sweep.specs.Examples.{blank, flat}
use Rattle.sweep.proofs.Examples.{blank-accepted}
use Rattle.discs.specs.Disc.{SizeAtMost, InDisc, HoldsClosed}
use Rattle.discs.specs.Outer.{outer_local}
use Rattle.discs.specs.Standing.{StandingPre}
use Rattle.discs.specs.Example.{millimetres, least_margin, standing, standing_chord, example_chord, example_section}
use Rattle.discs.proofs.Accepted.{fit-covered}

-- what is asked of a centre whose coordinates are 20 at most
asked-at : (c : PlanePoint) → SizeAtMost (millimetres 20) c.x → SizeAtMost (millimetres 20) c.y
    → StandingPre (millimetres 20) standing.profile example_chord example_section c (ratio 13 1)
unfolding least_margin standing standing_chord example_chord example_section blank flat ratio of_bits of_int to_unsigned neg add sub mul
    div lt le eq fits is_nan signed_magnitude magnitude larger_of smaller_of abs_of clamp_of floor_of ceil_of is_finite off_tool
    cutting_radius
    radius_at cut_radius cut_max axis_digit world_axis_of local_axis_of sign_along local_at local_of turned world_of by_digit cell_count
    plan_point
    reach_of axis_scale_of chord_on_axis_of local_center section_with section_of chord_of
asked-at c x y =
    record {
      widest = refl;
      numbers =
          record {
            bound_least = lit≤ tt;
            cx_bounded = x;
            cy_bounded = y;
            y0_bounded = record { held = tt; finite = tt; bound = lit≤ tt };
            y1_bounded = record { held = tt; finite = tt; bound = lit≤ tt };
            e_bounded = record { held = tt; finite = tt; bound = lit≤ tt };
            guard_bounded = record { held = tt; finite = tt; bound = lit≤ tt };
            r_bounded = record { held = tt; finite = tt; bound = lit≤ tt };
            r_least = le_z_yes tt;
            e_least = le_z_yes tt;
            guard_least = le_z_yes tt;
          };
    }

pub first-asked : StandingPre (millimetres 20) standing.profile example_chord example_section example_chord.a (ratio 13 1)
unfolding least_margin standing standing_chord example_chord example_section blank flat ratio of_bits of_int to_unsigned neg add sub mul
    div lt le eq fits is_nan signed_magnitude magnitude larger_of smaller_of abs_of clamp_of floor_of ceil_of is_finite off_tool
    cutting_radius
    radius_at cut_radius cut_max axis_digit world_axis_of local_axis_of sign_along local_at local_of turned world_of by_digit cell_count
    plan_point
    reach_of axis_scale_of chord_on_axis_of local_center section_with section_of chord_of
first-asked =
    asked-at example_chord.a (record { held = tt; finite = tt; bound = lit≤ tt }) (record { held = tt; finite = tt; bound = lit≤ tt })

pub last-asked : StandingPre (millimetres 20) standing.profile example_chord example_section example_chord.b (ratio 13 1)
unfolding least_margin standing standing_chord example_chord example_section blank flat ratio of_bits of_int to_unsigned neg add sub mul
    div lt le eq fits is_nan signed_magnitude magnitude larger_of smaller_of abs_of clamp_of floor_of ceil_of is_finite off_tool
    cutting_radius
    radius_at cut_radius cut_max axis_digit world_axis_of local_axis_of sign_along local_at local_of turned world_of by_digit cell_count
    plan_point
    reach_of axis_scale_of chord_on_axis_of local_center section_with section_of chord_of
last-asked =
    asked-at example_chord.b (record { held = tt; finite = tt; bound = lit≤ tt }) (record { held = tt; finite = tt; bound = lit≤ tt })

chord-fits : chords_fit (frame_of PosZ) least_margin standing_chord ≡ true
unfolding least_margin standing_chord ratio chords_fit guard_fits every chord_fits ends_fit numbers_fit length_fits plan_size chord_of
    is_between all_between axis_digit world_axis_of sign_along local_at local_of by_digit larger_of abs_of of_bits neg sub mul lt
    le eq is_nan
chord-fits = refl

-- ---- the ends of the exact chord at the band's edge
low-rim : InDisc example_chord.a.x example_chord.a.y (ratio 13 1) example_section.y0 example_section.y1 1
    (neg_ℤ (pos (millimetres 7))) (pos 0)
unfolding least_margin standing standing_chord example_chord example_section blank flat ratio of_bits of_int to_unsigned neg add sub mul
    div lt le eq fits is_nan signed_magnitude magnitude larger_of smaller_of abs_of clamp_of floor_of ceil_of is_finite off_tool
    cutting_radius
    radius_at cut_radius cut_max axis_digit world_axis_of local_axis_of sign_along local_at local_of turned world_of by_digit cell_count
    plan_point
    reach_of axis_scale_of chord_on_axis_of local_center section_with section_of chord_of
low-rim = record { scale = lit< tt; near = lit≤ tt; above = le_z_yes tt; below = le_z_yes tt }

high-rim : InDisc example_chord.b.x example_chord.b.y (ratio 13 1) example_section.y0 example_section.y1 1
    (pos (millimetres 32)) (pos (millimetres 10))
unfolding least_margin standing standing_chord example_chord example_section blank flat ratio of_bits of_int to_unsigned neg add sub mul
    div lt le eq fits is_nan signed_magnitude magnitude larger_of smaller_of abs_of clamp_of floor_of ceil_of is_finite off_tool
    cutting_radius
    radius_at cut_radius cut_max axis_digit world_axis_of local_axis_of sign_along local_at local_of turned world_of by_digit cell_count
    plan_point
    reach_of axis_scale_of chord_on_axis_of local_center section_with section_of chord_of
high-rim = record { scale = lit< tt; near = lit≤ tt; above = le_z_yes tt; below = le_z_yes tt }

pub example-held : HoldsClosed 1 (neg_ℤ (pos (millimetres 7))) (outer_local standing.profile example_chord example_section)
    × HoldsClosed 1 (pos (millimetres 32)) (outer_local standing.profile example_chord example_section)
unfolding standing example_chord example_section
example-held =
    let both = fit-covered standing standing_chord (fit-chords (frame_of PosZ) least_margin standing_chord chord-fits) 0
    (world_axis 0) 0 0 in (
      both.at_first (millimetres 20) (ratio 13 1) first-asked 1 (neg_ℤ (pos (millimetres 7))) (pos 0) low-rim,
      both.at_last (millimetres 20) (ratio 13 1) last-asked 1 (pos (millimetres 32)) (pos (millimetres 10)) high-rim,
    )

-- ---- the sweep
abbrev is_done : Walked → Bool
is_done (Done k log) = true
is_done (Stop n) = false

walk-done : is_done (walk_of standing standing_chord 2 12) ≡ true
unfolding least_margin standing standing_chord blank flat axis_rays_of axis_entries first_axis second_axis chord_entries sweep_entries
    chord_of walk entry_of entry_for ray_entry each row_entries rect_entries outer_from outer_of inner_from inner_of ray_hit_of plan_point
    reach_of axis_scale_of chord_on_axis_of span_over cells_met cells_across rectangle_of local_center section_with section_of last_of
    spans_meet
    overlaps_of record_at uncut_spans uncut_links uncut_heads places ends_at band_distance half_chord chord_strip disk_strip stadium_strip
    hull side_strip inside crossing edge edges clip widen widen_all extent_strip polygon_strip is_finite cutting_radius off_tool
    radius_at cut_radius cut_max cut_min axis_digit world_axis_of local_axis_of sign_along local_at local_of turned world_of ray_count
    rays_along
    offset ray_axis bounds_of cell_at cell_count by_digit square_root ratio larger_of smaller_of abs_of clamp_of floor_of ceil_of of_bits
    of_int
    to_unsigned neg add sub mul div lt le eq is_nan
walk-done = refl

pub two-entries : logged_entries (sweep_entries standing standing_chord) ≡ 2
unfolding least_margin standing standing_chord blank flat axis_rays_of axis_entries first_axis second_axis chord_entries sweep_entries
    chord_of logged_entries entry_of entry_for ray_entry each row_entries rect_entries outer_from outer_of inner_from inner_of ray_hit_of
    plan_point
    reach_of axis_scale_of chord_on_axis_of span_over cells_met cells_across rectangle_of local_center section_with section_of last_of
    spans_meet
    overlaps_of record_at uncut_spans uncut_links uncut_heads places ends_at band_distance half_chord chord_strip disk_strip stadium_strip
    hull side_strip inside crossing edge edges clip widen widen_all extent_strip polygon_strip is_finite cutting_radius off_tool
    radius_at cut_radius cut_max cut_min axis_digit world_axis_of local_axis_of sign_along local_at local_of turned world_of ray_count
    rays_along
    offset ray_axis bounds_of cell_at cell_count by_digit square_root ratio larger_of smaller_of abs_of clamp_of floor_of ceil_of of_bits
    of_int
    to_unsigned neg add sub mul div lt le eq is_nan
two-entries = refl

no_stop : (n : ℕ) → walk_of standing standing_chord 2 12 ≡ Stop n → ⊥
no_stop n e = clash _ walk-done (ap is_done e)

whole-chord : length standing_chord % 8 ≡ 0
unfolding standing_chord
whole-chord = refl

pub example-accepted : NoneDue (sweep_causes mm standing 6 standing_chord 2 12)
unfolding standing
example-accepted = blank-accepted least_margin standing_chord 2 12 chord-fits whole-chord no_stop
