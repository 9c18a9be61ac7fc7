-- Valid rays, and the lists of a ray after a merge.
use Rattle.std.specs.Prelude.{◌≡◌, Bool, true, ◌&&◌, List, [], ◌∷◌, Float}
use Rattle.std.specs.Float.Ieee.{le}
use Rattle.spans.specs.Spans.{holds, sound, NormalOf}
use Rattle.spans.specs.Overlay.{less_of}

-- each end is at least lo and at most hi; a NaN bound admits the empty list only
unfoldable pub bounded : Float → Float → List Float → Bool
bounded lo hi [] = true
bounded lo hi (e ∷ l) = le lo e && (le e hi && bounded lo hi l)

-- document 01's valid ray: both its lists are sound and within its bounds, and certain lies within possible
pub record ValidRay (lo hi : Float) (possible certain : List Float) : Type 0 where
  pub possible_sound : sound possible ≡ true
  pub certain_sound : sound certain ≡ true
  pub possible_bounded : bounded lo hi possible ≡ true
  pub certain_bounded : bounded lo hi certain ≡ true
  pub inside : (p : Float) → holds certain p ≡ true → holds possible p ≡ true

-- Both lists after a merge, end by end: the old ones less the lists that normalising makes of the hits. The Rust
-- takes of certain what it then has in common with possible; that is all of it, since certain lies within possible
-- and larger and smaller keep the first of two equal ends.
pub record MergedExactly (possible certain outer inner possible_after certain_after : List Float) : Type 0 where
  pub outer_normal : List Float
  pub inner_normal : List Float
  pub outer_is : NormalOf outer outer_normal
  pub inner_is : NormalOf inner inner_normal
  pub possible_is : possible_after ≡ less_of possible inner_normal
  pub certain_is : certain_after ≡ less_of (less_of certain outer_normal) inner_normal
