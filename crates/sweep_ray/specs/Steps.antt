-- Steps of the tests of a ray's possible list.
use Rattle.std.specs.Prelude.{Bool, false, ◌||◌, List, [], ◌∷◌, Float}
use Rattle.std.specs.Float.Ieee.{lt}
use Rattle.frame.specs.declared.Pair.{Pair}

-- an upper end is above x
unfoldable pub some_above : List Float → Float → Bool
some_above [] x = false
some_above (lo ∷ []) x = false
some_above (lo ∷ hi ∷ l) x = lt x hi || some_above l x

-- the pair as a list of its two ends, so that `holds` is its point set
abbrev pub ends_of : Pair → List Float
ends_of s = s.lo ∷ s.hi ∷ []
