-- Tests of a ray's possible list, a flat list of ends (sweep.rs 257-262, `spans_meet`; dexel.rs 303-305, `overlaps`). No comparison
-- is true of a NaN, and `larger_of` and `smaller_of` pass one over.
use Rattle.std.specs.Prelude.{Bool, false, ◌&&◌, ◌||◌, List, [], ◌∷◌, Float}
use Rattle.std.specs.Float.Ieee.{lt}
use Rattle.doubles.specs.Doubles.{larger_of, smaller_of}
use Rattle.frame.specs.declared.Pair.{Pair}

-- the last end of x and those after it (`last[1]`, sweep.rs 258-259)
unfoldable pub last_of : Float → List Float → Float
last_of x [] = x
last_of x (y ∷ l) = last_of y l

-- from the list's first end to its last it has points in common with s (sweep.rs 257-262)
unfoldable pub spans_meet : List Float → Pair → Bool
unfolding last_of
spans_meet [] s = false
spans_meet (lo ∷ l) s = lt lo s.hi && lt s.lo (last_of lo l)

-- the intersection with the one pair s is not empty: a pair of the list that does not end below s's upper end is the
-- last one looked at (dexel.rs 275-291, with one pair in b, and 303-305)
unfoldable pub overlaps_of : List Float → Pair → Bool
overlaps_of [] s = false
overlaps_of (lo ∷ []) s = false
overlaps_of (lo ∷ hi ∷ l) s = lt (larger_of lo s.lo) (smaller_of hi s.hi) || (lt hi s.hi && overlaps_of l s)
