-- What a list leaves of another and what two lists have in common, end by end: which end is taken at a tie is settled,
-- and so the sign of a zero. `less-list` and `common-list` in span_overlay/proofs show that these are the sound lists of
-- the two point sets.
use Rattle.std.specs.Prelude.{cond, List, [], ◌∷◌, ◌++◌, Float}
use Rattle.std.specs.Float.Ieee.{lt}
use Rattle.doubles.specs.Doubles.{larger_of, smaller_of}
use Rattle.spans.specs.Spans.{pair_if}

-- the end, or the other one where that is higher, lower: of two equal numbers the first is kept
abbrev pub higher_of : Float → Float → Float
higher_of x y = cond (lt x y) y x

abbrev pub lower_of : Float → Float → Float
lower_of x y = cond (lt y x) y x

-- what the pairs of b leave of the pair [lo, hi]: what lies in front of the first of them, and of what lies past it what the others leave
unfoldable pub cut_by : Float → Float → List Float → List Float
cut_by lo hi [] = pair_if lo hi
cut_by lo hi (x ∷ []) = pair_if lo hi
cut_by lo hi (x ∷ y ∷ b) = pair_if lo (lower_of hi x) ++ cut_by (higher_of lo y) hi b

-- a less b: what b leaves of each pair of a
unfoldable pub less_of : List Float → List Float → List Float
unfolding cut_by
less_of [] b = []
less_of (lo ∷ []) b = []
less_of (lo ∷ hi ∷ a) b = cut_by lo hi b ++ less_of a b

-- what the pair [lo, hi] has in common with each pair of b: Rust's max of the los and min of the his
unfoldable pub shared_by : Float → Float → List Float → List Float
unfolding larger_of smaller_of
shared_by lo hi [] = []
shared_by lo hi (x ∷ []) = []
shared_by lo hi (x ∷ y ∷ b) = pair_if (larger_of lo x) (smaller_of hi y) ++ shared_by lo hi b

-- what each pair of a has in common with b
unfoldable pub common_of : List Float → List Float → List Float
unfolding shared_by
common_of [] b = []
common_of (lo ∷ []) b = []
common_of (lo ∷ hi ∷ a) b = shared_by lo hi b ++ common_of a b
