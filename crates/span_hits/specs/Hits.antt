-- What a reader over a flat list of hits hands out.
use Rattle.std.specs.Prelude.{◌≡◌, cond, List, [], ◌∷◌, ℕ, ◌+◌, drop, Float, Option, Some, None}
use Rattle.std.specs.Float.Ieee.{lt}
use Rattle.span_hits.specs.declared.Found.{Found}
use Rattle.span_hits.specs.declared.Hit.{Hit}

-- the pair as a hit
abbrev pub pair : Float → Float → Option Hit
pair lo hi = Some (record { lo = lo; hi = hi })

abbrev pub found_as : Option Hit → ℕ → Found
found_as h n = record { hit = h; at = n }

-- the first pair with lo < hi of what stands from place n on, and the place past it
unfoldable pub next_hit : ℕ → List Float → Found
next_hit n [] = found_as None n
next_hit n (lo ∷ []) = found_as None n
next_hit n (lo ∷ hi ∷ rest) = cond (lt lo hi) (found_as (pair lo hi) (n + 2)) (next_hit (n + 2) rest)

-- the pairs that a reader at place n of l hands out, one call after the other, until none is left
pub data HitsHanded (l : List Float) : ℕ → List Float → Type 0 where
  none : {n m : ℕ} → next_hit n (drop n l) ≡ found_as None m → HitsHanded l n []
  more : {n m : ℕ} {lo hi : Float} {rest : List Float} → next_hit n (drop n l) ≡ found_as (pair lo hi) m
      → HitsHanded l m rest → HitsHanded l n (lo ∷ hi ∷ rest)
