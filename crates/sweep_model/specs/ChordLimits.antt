-- Refusal 7: document 01's limits for the guard and the chords.
use Rattle.std.specs.Prelude.{List, ℕ, ◌+◌, ◌*◌, ◌/◌, ◌<◌, Float, length, get_or}
use Rattle.std.specs.Float.{nan, binary64}
use Rattle.std.specs.Float.Ieee.{of_bits, neg, sub, mul}
use Rattle.doubles.specs.Constants.{one, plus_zero, two}
use Rattle.doubles.specs.Doubles.{larger_of, abs_of}
use Rattle.doubles.specs.Ranges.{OutOf, OutOfPositive}
use Rattle.frame.specs.declared.Frame.{Frame}
use Rattle.sweep_model.specs.declared.Chord.{Chord}
use Rattle.sweep_model.specs.Chords.{chord_of}

-- 2e6
abbrev pub two_million : Float
two_million = of_bits binary64 0x413e_8480_0000_0000

-- 1000
abbrev pub thousand : Float
thousand = of_bits binary64 0x408f_4000_0000_0000

-- the larger of the two local plan differences' sizes
unfoldable pub plan_size : Chord → Float
plan_size c = larger_of (abs_of (sub binary64 c.b.x c.a.x)) (abs_of (sub binary64 c.b.y c.a.y))

-- 7 chord: a constructor for each clause of document 01. The first six doubles of a chord are its coordinates.
pub data BadChords (f : Frame) (guard : Float) (chords : List Float) : Type 0 where
  guard_out : OutOfPositive one guard → BadChords f guard chords
  coordinate_out : (i j : ℕ) → i < length chords / 8 → j < 6
      → OutOf (neg two_million) two_million (get_or chords (8 * i + j) nan) → BadChords f guard chords
  error_out : (i : ℕ) → i < length chords / 8 → OutOf plus_zero thousand (chord_of f chords i).e → BadChords f guard chords
  plan_length_out : (i : ℕ) → i < length chords / 8
      → OutOf (plan_size (chord_of f chords i)) (mul binary64 two (plan_size (chord_of f chords i))) (chord_of f chords i).length
      → BadChords f guard chords
