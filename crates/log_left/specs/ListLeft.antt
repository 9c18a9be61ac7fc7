-- What hits in ascending order leave of a list, while it is walked: what is decided stands in front, what is not behind it, and both
-- together are the list as the hits so far leave it.
use Rattle.std.specs.Prelude.{◌≡◌, ℕ, ◌/◌, ◌%◌, ◌^◌, Bool, true, false, not, ◌&&◌, List, [], ◌∷◌, ◌++◌, length, Float}
use Rattle.spans.specs.Spans.{within, holds, ListOf}
use Rattle.spans.specs.Steps.{UpTo}
use Rattle.log_model.specs.Counts.{is_hit_by, starts_left}
use Rattle.log_left.specs.declared.Rest.{Rest}
use Rattle.log_left.specs.declared.ListLeft.{ListLeft}
use Rattle.store.specs.Store.{list_from}

-- the list with its first end replaced
abbrev pub starting_at : Float → List Float → List Float
starting_at from [] = []
starting_at from (lo ∷ l) = from ∷ l

-- what is undecided: the list from the record on, of its first pair the part from `from` on
unfoldable pub rest_of : ℕ → List Float → List ℕ → Rest → List Float
rest_of n spans links r = starting_at r.from (list_from n spans links r.at)

-- The points s are left of the list l, and the walk stands at r: the pairs `done` are decided, none of them past `last`, and they are in
-- front of the undecided ones. The count of them is that of the machine's numbers.
pub record ListWalked (n : ℕ) (spans : List Float) (links : List ℕ) (l : List Float) (s : Float → Bool) (last : Float)
    (r : Rest) : Type 0 where
  pub done : List Float
  pub list : ListOf s (done ++ rest_of n spans links r)
  pub whole : length done % 2 ≡ 0
  pub count : r.left ≡ length done / 2 % 2 ^ 64
  pub passed : UpTo last done
  pub inside : (p : Float) → s p ≡ true → holds l p ≡ true
  pub stays : r.moved ≡ false → (p : Float) → s p ≡ holds l p
  pub moves : r.moved ≡ true → (p : Float) × (holds l p ≡ true) × (s p ≡ false)

-- the points without those of a pair
abbrev pub without_pair : (Float → Bool) → Float → Float → Float → Bool
without_pair s lo hi p = s p && not (within lo hi p)

-- whether a list changes when the hits are taken from it, and how many pairs it then has, as far as the machine's numbers tell
pub record ListLeftPost (l hits : List Float) (t : ListLeft) : Type 0 where
  pub moved : t.moved ≡ is_hit_by l hits
  pub pairs : t.pairs ≡ starts_left l hits % 2 ^ 64
