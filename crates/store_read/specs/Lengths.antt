-- The length of a list.
use Rattle.std.specs.Prelude.{List, [], ◌∷◌, Float}
use Rattle.std.specs.Float.{binary64}
use Rattle.std.specs.Float.Ieee.{add, sub}

-- document 01's length of a list: the sum of the pairs' hi - lo in order, each operation rounded, begun with a given sum
unfoldable pub length_from : Float → List Float → Float
length_from sum [] = sum
length_from sum (lo ∷ []) = sum
length_from sum (lo ∷ hi ∷ l) = length_from (add binary64 sum (sub binary64 hi lo)) l
