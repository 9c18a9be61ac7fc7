-- The lent chords: eight doubles each, the two ends in the world (three each), the error and the plan length.
use Rattle.std.specs.Prelude.{List, ℕ, ◌+◌, ◌*◌, Float, get_or}
use Rattle.std.specs.Float.{nan}
use Rattle.grid.specs.declared.Vec3.{Vec3}
use Rattle.frame.specs.Frame.{local_of}
use Rattle.frame.specs.declared.Frame.{Frame}
use Rattle.sweep_model.specs.declared.Chord.{Chord}

-- three doubles as a point
abbrev pub point_at : List Float → ℕ → Vec3
point_at l i = record { x = get_or l i nan; y = get_or l (i + 1) nan; z = get_or l (i + 2) nan }

-- chord i with its ends turned by `local` (sweep.rs 487-491 and 497-501); its plan length is an input here
unfoldable pub chord_of : Frame → List Float → ℕ → Chord
chord_of f chords i =
    record {
      a = local_of f (point_at chords (8 * i));
      b = local_of f (point_at chords (8 * i + 3));
      e = get_or chords (8 * i + 6) nan;
      length = get_or chords (8 * i + 7) nan;
    }
