-- A ray of a sweep that meets what W-234 asks at both ends of its chord, with M = 20 and, for this M, the least e and guard. Blank
-- and cutter are those of the worked sweep, sweep/Examples: the box from 0 to 10 in one cell and a radius of 13. The chord runs
-- from 5, -5 to 20, 15. The ray along x has the band from 0 to 10, 5 away from either centre, so that half the exact chord is 12.
-- In proofs/Example.antt `example-held` says that the outer pair holds -7 at the band's low edge and 32 at its high one,
-- `example-accepted` that a sweep of this chord is accepted, and `two-entries` that both rays across the tool are logged.
use Rattle.std.specs.Prelude.{List, [], ◌∷◌, ℕ, ◌*◌, ◌^◌, Float}
use Rattle.std.specs.Float.Ieee.{neg}
use Rattle.doubles.specs.Rounding.{ratio}
use Rattle.cutter.specs.declared.CutterShape.TheVariants.{Flat}
use Rattle.frame.specs.declared.Axis.TheVariants.{PosZ}
use Rattle.grid.specs.Axes.{world_axis}
use Rattle.grid.specs.Causes.{grid_in}
use Rattle.stock_fill.specs.Uncut.{uncut}
use Rattle.sweep_model.specs.Section.{section_of}
use Rattle.sweep_model.specs.SweepEntries.{Setting, chord_on_axis_in, chord_in}
use Rattle.sweep_model.specs.declared.ChordOnAxis.{ChordOnAxis}
use Rattle.sweep_model.specs.declared.Section.{Section}
use Rattle.sweep.specs.Answer.{setting_of}
use Rattle.sweep.specs.Examples.{blank, flat, lent}

-- n whole millimetres in units
abbrev pub millimetres : ℕ → ℕ
millimetres n = n * 2 ^ 1074

unfoldable pub least_margin : Float
unfolding ratio
least_margin = ratio 20 (2 ^ 49)

unfoldable pub standing : Setting
unfolding blank flat least_margin
standing = setting_of blank PosZ Flat flat least_margin (uncut blank (grid_in blank) lent)

-- from 5, -5, -1 to 20, 15, -1, with a plan length of 25
unfoldable pub standing_chord : List Float
unfolding ratio least_margin
standing_chord =
    ratio 5 1 ∷ neg (ratio 5 1) ∷ neg (ratio 1 1) ∷ ratio 20 1 ∷ ratio 15 1 ∷ neg (ratio 1 1) ∷ least_margin ∷ ratio 25 1 ∷ []

-- it, as the rays along x see it
unfoldable pub example_chord : ChordOnAxis
unfolding standing standing_chord
example_chord = chord_on_axis_in standing (chord_in standing standing_chord 0) (world_axis 0)

-- the section of the one ray along x
unfoldable pub example_section : Section
unfolding example_chord
example_section = section_of example_chord 0 0
