-- The code's tests of the guard and the chords; `unfit-chords` and `bad-chords` in proofs/ChordLimits.antt tie them to
-- document 01's clauses. A NaN fails every test. And which rays a rectangle has.
use Rattle.std.specs.Prelude.{Bool, true, ◌&&◌, List, ℕ, zero, suc, ◌+◌, ◌*◌, ◌/◌, ◌≤◌, Float, length, Option, None, Some}
use Rattle.std.specs.Float.{binary64}
use Rattle.std.specs.Float.Ieee.{neg, mul, lt, le}
use Rattle.doubles.specs.Constants.{one, plus_zero, two}
use Rattle.grid.specs.Grid.{is_between, all_between}
use Rattle.frame.specs.declared.Frame.{Frame}
use Rattle.sweep_model.specs.declared.RayRange.{RayRange}
use Rattle.sweep_model.specs.declared.Chord.{Chord}
use Rattle.sweep_model.specs.Chords.{point_at, chord_of}
use Rattle.sweep_model.specs.ChordLimits.{two_million, thousand, plan_size}

-- the guard is in (0, 1]
unfoldable pub guard_fits : Float → Bool
guard_fits guard = lt plus_zero guard && le guard one

-- each coordinate is within ±2e6
unfoldable pub ends_fit : List Float → ℕ → Bool
ends_fit chords i = all_between (point_at chords (8 * i)) (neg two_million) two_million
    && all_between (point_at chords (8 * i + 3)) (neg two_million) two_million

-- the plan length is at least the plan size and at most twice that
unfoldable pub length_fits : Chord → Bool
unfolding plan_size
length_fits c = is_between c.length (plan_size c) (mul binary64 two (plan_size c))

-- e is in [0, 1000], and the plan length fits
unfoldable pub numbers_fit : Chord → Bool
unfolding length_fits
numbers_fit c = is_between c.e plus_zero thousand && length_fits c

-- all tests of chord i
unfoldable pub chord_fits : Frame → List Float → ℕ → Bool
unfolding ends_fit numbers_fit chord_of
chord_fits f chords i = ends_fit chords i && numbers_fit (chord_of f chords i)

-- the test holds of the first n
unfoldable pub every : (ℕ → Bool) → ℕ → Bool
every test zero = true
every test (suc n) = every test n && test n

-- the guard and all chords fit
unfoldable pub chords_fit : Frame → (guard : Float) → List Float → Bool
unfolding guard_fits chord_fits every
chords_fit f guard chords = guard_fits guard && every (chord_fits f chords) (length chords / 8)

-- ---- the ray at the cells u and v is one of a rectangle's: `of-rectangle` and `rectangle-has` in sweep_visits
unfoldable pub RayIn : Option RayRange → (u v : ℕ) → Type 0
RayIn None u v = ⊥
RayIn (Some r) u v = (r.u0 ≤ u) × (u ≤ r.u1) × (r.v0 ≤ v) × (v ≤ r.v1)
