-- What the steps of the walk promise.
use Rattle.std.specs.Prelude.{◌≡◌, ℕ, ◌+◌, ◌-◌, ◌%◌, ◌^◌, Bool, true, false, cond, List, ◌≢◌, Float}
use Rattle.std.specs.Float.Ieee.{lt, le}
use Rattle.spans.specs.Spans.{holds, sound, less}
use Rattle.store.specs.Store.{lo_at, hi_at, next_at, list_from}
use Rattle.store_read.specs.Reading.{Readable}
use Rattle.log_left.specs.ListLeft.{ListWalked, without_pair, ListLeftPost}
use Rattle.log_left.specs.declared.Rest.{Rest}
use Rattle.log_left.specs.declared.ListLeft.{ListLeft}

-- the walk stands at the start of the record's pair, if there is one
pub record BeginPost (spans : List Float) (k : ℕ) (moved : Bool) (left : ℕ) (r : Rest) : Type 0 where
  pub at_is : r.at ≡ k
  pub from_is : (k ≢ 0) → r.from ≡ lo_at spans (k - 1)
  pub moved_is : r.moved ≡ moved
  pub left_is : r.left ≡ left

-- the walk at the start of a list
pub record StartPost (n : ℕ) (spans : List Float) (links : List ℕ) (head : ℕ) (r : Rest) : Type 0 where
  pub readable : Readable n spans links r.at
  pub walked : sound (list_from n spans links head) ≡ true → (last : Float)
      → ListWalked n spans links (list_from n spans links head) (holds (list_from n spans links head)) last r

-- one pair is closed: the walk stands behind it
abbrev pub ClosePairPost : List Float → List ℕ → Rest → Rest → Type 0
ClosePairPost spans links r t = BeginPost spans (next_at links (r.at - 1)) r.moved ((r.left + 1) % 2 ^ 64) t

-- the pairs that end at or before lo are closed
pub record PassPost (n : ℕ) (spans : List Float) (links : List ℕ) (lo : Float) (r t : Rest) : Type 0 where
  pub readable : Readable n spans links t.at
  pub beyond : (t.at ≢ 0) → le (hi_at spans (t.at - 1)) lo ≡ false
  pub walked : (l : List Float) (s : Float → Bool) (last : Float) → le last lo ≡ true → ListWalked n spans links l s last r
      → ListWalked n spans links l s lo t

-- a hit is taken from what is undecided of one pair: what lies in front of it is decided, and the walk stands at its end
-- or behind the pair
pub record CutPairPost (n : ℕ) (spans : List Float) (links : List ℕ) (lo hi : Float) (r t : Rest) : Type 0 where
  pub moved_is : t.moved ≡ true
  pub left_is : t.left ≡ cond (lt r.from lo) ((r.left + 1) % 2 ^ 64) r.left
  pub inside : lt hi (hi_at spans (r.at - 1)) ≡ true → (t.at ≡ r.at) × (t.from ≡ hi)
  pub behind : lt hi (hi_at spans (r.at - 1)) ≡ false → BeginPost spans (next_at links (r.at - 1)) t.moved t.left t

-- a hit is taken
pub record TakePost (n : ℕ) (spans : List Float) (links : List ℕ) (lo hi : Float) (r t : Rest) : Type 0 where
  pub readable : Readable n spans links t.at
  pub walked : (l : List Float) (s : Float → Bool) (last : Float) → le last lo ≡ true → lt lo hi ≡ true
      → ListWalked n spans links l s last r
      → ListWalked n spans links l (without_pair s lo hi) lo t

-- all is decided
abbrev pub FinishPost : (n : ℕ) → List Float → List ℕ → Rest → ListLeft → Type 0
FinishPost n spans links r t = (l hits : List Float) (last : Float) → sound l ≡ true
    → ListWalked n spans links l (less l hits) last r → ListLeftPost l hits t
