-- The test of a valid ray that reads both lists once.
use Rattle.std.specs.Prelude.{Bool, true, false, cond, ◌&&◌, List, [], ◌∷◌, Float}
use Rattle.std.specs.Float.Ieee.{lt, le}
use Rattle.spans.specs.Spans.{sound}
use Rattle.spans.specs.Rays.{bounded}

-- the list from its first pair whose upper end is not below x
unfoldable pub from : Float → List Float → List Float
from x [] = []
from x (lo ∷ []) = []
from x (lo ∷ hi ∷ l) = cond (lt hi x) (from x l) (lo ∷ hi ∷ l)

-- the first pair reaches from lo to hi
abbrev pub covers : List Float → Float → Float → Bool
covers [] lo hi = false
covers (a ∷ []) lo hi = false
covers (a ∷ b ∷ l) lo hi = le a lo && le hi b

-- each inner pair lies in one outer pair; outer pairs that end before an inner one does are not looked at again
unfoldable pub contained : List Float → List Float → Bool
unfolding from
contained outer [] = true
contained outer (lo ∷ []) = true
contained outer (lo ∷ hi ∷ inner) = covers (from hi outer) lo hi && contained (from hi outer) inner

-- the test of a ray
unfoldable pub valid : Float → Float → List Float → List Float → Bool
unfolding bounded contained
valid lo hi possible certain =
    sound possible && (sound certain && (bounded lo hi possible && (bounded lo hi certain && contained possible certain)))
