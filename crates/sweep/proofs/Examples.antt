-- The worked sweep is right, by computation.
use mathlib.Core.Path.{◌≡◌, refl, subst}
use mathlib.Core.Bool.{true, false}
use mathlib.Core.List.{List}
use mathlib.Core.Logic.{inl, inr}
use Prim.Native.Nat.{ℕ, ◌*◌, ◌%◌}
use lib.ListN.{length}
use lib.Ieee.{Float, of_bits, of_int, to_unsigned, neg, add, sub, mul, div, lt, le, eq, is_nan}
use Rattle.doubles.specs.Doubles.{larger_of, smaller_of, abs_of, clamp_of, floor_of, ceil_of}
use Rattle.doubles_sqrt.specs.Root.{square_root}
use Rattle.grid.specs.Axes.{by_digit}
use Rattle.grid.specs.Grid.{is_between, all_between}
use Rattle.grid.specs.FromSpec.{any_below, any_above, is_mm, misdescribed, cell_count, grid_over, grid_of}
use Rattle.grid.specs.Causes.{mm, grid_in, grid_causes}
use Rattle.std.specs.Prelude.{Ok}
use Rattle.grid.proofs.Facts.{grid-facts}
use Rattle.refusal.specs.Refusal.{NoneDue}
use Rattle.logic.proofs.Bools.{clash}
use Rattle.grid.specs.Rays.{ray_count, rays_along, offset, ray_axis, bounds_of, cell_at}
use Rattle.frame.specs.declared.Axis.TheVariants.{PosZ}
use Rattle.frame.specs.Frame.{frame_of, axis_digit, world_axis_of, local_axis_of, sign_along, local_at, local_of, turned, world_of}
use Rattle.cutter.specs.Cutter.{is_finite, cutting_radius, off_tool, radius_at, cut_radius, cut_max, cut_min}
use Rattle.cutter.specs.Steps.{above_zero, from_zero, is_not_nan, sizes_fit, heights_fit, lengths_fit, diameters_fit, shape_fits}
use Rattle.cutter.specs.Steps.{within_limits, is_beam}
use Rattle.cutter.specs.declared.CutterShape.TheVariants.{Flat}
use Rattle.cutter.proofs.Limits.{beam→is_beam, fit-tool}
use Rattle.strips.specs.Strip.{band_distance, half_chord, chord_strip, disk_strip, stadium_strip, hull, side_strip}
use Rattle.store.specs.Store.{places, ends_at}
use Rattle.stock.specs.Stock.{SoundCells, is_short}
use Rattle.stock_fill.specs.Uncut.{record_at, uncut_spans, uncut_links, uncut_heads, uncut}
use Rattle.stock.proofs.Causes.{none-in-both, room_of}
use Rattle.stock.proofs.Answers.{accepted}
use Rattle.stock_fill.proofs.UncutSound.{uncut-sound}
use Rattle.sweep_model.specs.Meets.{last_of, spans_meet, overlaps_of}
use Rattle.sweep_model.specs.Kernel.{plan_point, reach_of, axis_scale_of, chord_on_axis_of, span_over, cells_met, cells_across, rectangle_of}
use Rattle.sweep_model.specs.Section.{local_center, section_with, section_of}
use Rattle.sweep_model.specs.Across.{outer_from, outer_of, inner_from, inner_of, ray_hit_of}
use Rattle.sweep_model.specs.Entries.{entry_of, entry_for, ray_entry, each, row_entries, rect_entries, rays_in, sum_each}
use Rattle.sweep_model.specs.Walk.{Stop, walk}
use Rattle.sweep_visits.proofs.Walks.{done-no-stop}
use Rattle.sweep_model.specs.Chords.{chord_of}
use Rattle.sweep_model.specs.ChordLimits.{plan_size}
use Rattle.sweep_model.specs.Steps.{guard_fits, ends_fit, length_fits, numbers_fit, chord_fits, every, chords_fit}
use Rattle.sweep_model.proofs.ChordLimits.{fit-chords}
use Rattle.sweep_model.specs.SweepEntries.{axis_rays_of, axis_entries, first_axis, second_axis, chord_entries, sweep_entries, visit_total}
use Rattle.sweep.specs.Answer.{setting_of, SweepInputBad, walk_of, causes_in, sweep_causes}
use Rattle.sweep.specs.Examples.{SweepExamplesRight, halves, lent, blank, flat, sweeping, three_chords, four_entries, sweep_examples}
use Rattle.doubles.specs.Rounding.{ratio}

pub examples-right : SweepExamplesRight sweep_examples
unfolding sweep_examples blank flat sweeping three_chords four_entries axis_rays_of axis_entries first_axis second_axis
    chord_entries sweep_entries chord_of walk entry_of entry_for ray_entry each row_entries rect_entries outer_from outer_of
    inner_from inner_of ray_hit_of plan_point reach_of axis_scale_of chord_on_axis_of span_over cells_met cells_across rectangle_of
    local_center
    section_with section_of last_of spans_meet overlaps_of record_at uncut_spans uncut_links uncut_heads places ends_at
    band_distance half_chord chord_strip disk_strip stadium_strip hull side_strip is_finite cutting_radius off_tool radius_at
    cut_radius cut_max cut_min axis_digit world_axis_of local_axis_of sign_along local_at local_of turned world_of ray_count
    rays_along offset ray_axis bounds_of cell_at cell_count by_digit square_root ratio larger_of smaller_of abs_of clamp_of
    floor_of ceil_of of_bits of_int to_unsigned neg add sub mul div lt le eq is_nan
examples-right = (refl, (refl, (refl, (refl, (refl, tt)))))

pub total_right : visit_total sweeping three_chords ≡ 5
unfolding visit_total sum_each rays_in blank flat sweeping three_chords first_axis second_axis chord_of plan_point reach_of
    axis_scale_of chord_on_axis_of span_over cells_met cells_across rectangle_of record_at uncut_spans uncut_links uncut_heads axis_digit
    world_axis_of local_axis_of sign_along local_at local_of turned world_of ray_count rays_along offset ray_axis bounds_of cell_at
    cell_count by_digit ratio larger_of smaller_of abs_of clamp_of floor_of ceil_of of_bits of_int to_unsigned neg add sub mul
    div lt le eq is_nan
total_right = refl

-- ---- a sweep of the example's blank with its cutter has no cause, if its chords are whole and fit and its walk does not stop
grid-made : grid_of blank mm ≡ Ok (grid_in blank)
unfolding blank grid_of grid_over misdescribed is_mm is_between all_between any_below any_above cell_count
    by_digit larger_of ceil_of of_bits of_int to_unsigned add sub mul div neg lt le eq is_nan
grid-made = refl

three-rays : ray_count (grid_in blank) ≡ 3
unfolding blank ray_count cell_count larger_of ceil_of of_bits of_int to_unsigned sub div lt le eq is_nan
three-rays = refl

lent-room : is_short blank (grid_in blank) lent ≡ false
unfolding blank is_short ray_count cell_count larger_of ceil_of of_bits of_int to_unsigned sub div lt le eq is_nan
lent-room = refl

laid-room : is_short blank (grid_in blank) (uncut blank (grid_in blank) lent) ≡ false
unfolding blank is_short record_at uncut_spans uncut_links uncut_heads ray_count rays_along offset ray_axis bounds_of by_digit
    cell_count larger_of ceil_of of_bits of_int to_unsigned sub div lt le eq is_nan
laid-room = refl

tool-fits : within_limits Flat flat ≡ true
unfolding flat ratio within_limits sizes_fit heights_fit lengths_fit diameters_fit shape_fits above_zero from_zero is_not_nan of_bits lt
    le eq is_nan
tool-fits = refl

laid-sound : SoundCells blank (grid_in blank) (uncut blank (grid_in blank) lent) 6
laid-sound =
    subst (λ (n : ℕ). SoundCells blank (grid_in blank) (uncut blank (grid_in blank) lent) (2 * n)) three-rays
    (uncut-sound blank (grid_in blank) lent (grid-facts blank mm (grid_in blank) grid-made) (room_of blank (grid_in blank) lent lent-room))

pub blank-accepted : (guard : Float) (chords : List Float) (budget len : ℕ) → chords_fit (frame_of PosZ) guard chords ≡ true
    → length chords % 8 ≡ 0
    → ((n : ℕ) → walk_of (setting_of blank PosZ Flat flat guard (uncut blank (grid_in blank) lent)) chords budget len ≡ Stop n → ⊥)
    → NoneDue (sweep_causes mm (setting_of blank PosZ Flat flat guard (uncut blank (grid_in blank) lent)) 6 chords budget len)
unfolding NoneDue SweepInputBad is_beam
blank-accepted guard chords budget len fit all done =
    let s = setting_of blank PosZ Flat flat guard (uncut blank (grid_in blank) lent) in
    none-in-both (grid_causes blank mm) (causes_in s 6 chords budget len) (accepted blank mm (grid_in blank) grid-made).0 (
      (λ e. clash _ e laid-room),
      (
        sound,
        (
          (λ e. clash false (beam→is_beam Flat e) refl),
          (fit-tool Flat flat tool-fits, (fit-chords (frame_of PosZ) guard chords fit, (done 8, (done 16, tt)))),
        ),
      ),
    )
  where
    sound : SweepInputBad (setting_of blank PosZ Flat flat guard (uncut blank (grid_in blank) lent)) 6 chords → ⊥
    sound (inl h) = h all
    sound (inr h) = h laid-sound

-- ---- the first example
chords-fit : chords_fit (frame_of PosZ) (halves 1) three_chords ≡ true
unfolding three_chords ratio chords_fit guard_fits every chord_fits ends_fit numbers_fit length_fits plan_size chord_of
    is_between all_between axis_digit world_axis_of sign_along local_at local_of by_digit larger_of abs_of of_bits neg sub mul lt
    le eq is_nan
chords-fit = refl

whole-chords : length three_chords % 8 ≡ 0
unfolding three_chords ratio
whole-chords = refl

pub example-accepted : NoneDue (sweep_causes mm sweeping 6 three_chords 5 24)
unfolding sweep_examples sweeping
example-accepted =
    blank-accepted (halves 1) three_chords 5 24 chords-fit whole-chords (λ n e. done-no-stop _ 5 n four_entries examples-right.0 e)
