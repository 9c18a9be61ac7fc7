-- Flat lists of pairs, lo0, hi0, lo1, hi1, .., and the same pairs in another order.
use Rattle.std.specs.Prelude.{◌≡◌, List, ◌∷◌, length, Float}

-- the pairs of the second list are those of the first in some order; part of a pair over stays where it is
pub data Rearranged : List Float → List Float → Type 0 where
  same : {l : List Float} → Rearranged l l
  keep : {lo hi : Float} {l m : List Float} → Rearranged l m → Rearranged (lo ∷ hi ∷ l) (lo ∷ hi ∷ m)
  swap : {a b c d : Float} {l : List Float} → Rearranged (a ∷ b ∷ c ∷ d ∷ l) (c ∷ d ∷ a ∷ b ∷ l)
  then : {l m n : List Float} → Rearranged l m → Rearranged m n → Rearranged l n

-- what each step of a sort leaves
pub record SamePairs (before after : List Float) : Type 0 where
  pub size : length after ≡ length before
  pub pairs : Rearranged before after
