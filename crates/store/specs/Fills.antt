-- What the functions that fill a store ask and leave.
use Rattle.std.specs.Prelude.{◌≡◌, true, List, ◌∷◌, ℕ, ◌+◌, ◌-◌, ◌*◌, ◌≤◌, ◌<◌, Float, length, take}
use Rattle.store.specs.Store.{used_at, free_from, head_of, filled_links, filled_spans}

-- r is the first free place from c on
pub record NextFree (spans : List Float) (links : List ℕ) (n c r : ℕ) : Type 0 where
  pub from : c ≤ r
  pub counted : r < n
  pub first : free_from spans links c (n - c) ≡ r ∷ free_from spans links (r + 1) (n - (r + 1))

-- no record before place r is free
pub record FreeCursor (n : ℕ) (spans : List Float) (links : List ℕ) (r : ℕ) : Type 0 where
  pub most : r ≤ n
  pub past : (x : ℕ) → x < r → used_at spans links x ≡ true

-- there is room for so many pairs of an owner from place `from` on
pub record FillListPre (n : ℕ) (spans : List Float) (links : List ℕ) (o : ℕ) (pairs : List Float) (count from : ℕ) : Type 0 where
  pub in_spans : 2 * n ≤ length spans
  pub in_links : 2 * n ≤ length links
  pub in_pairs : 2 * count ≤ length pairs
  pub some : 0 < count
  pub enough : count ≤ length (free_from spans links 0 n)
  pub owned : 0 < o
  pub cursor : FreeCursor n spans links from

-- the pairs are laid as a chain over the lowest free places
pub record FillListPost (n : ℕ) (spans : List Float) (links : List ℕ) (o : ℕ) (pairs : List Float)
    (count head cursor : ℕ) (spans' : List Float) (links' : List ℕ) : Type 0 where
  pub at : head ≡ head_of (take count (free_from spans links 0 n))
  pub spans_left : spans' ≡ filled_spans spans (take count (free_from spans links 0 n)) pairs
  pub links_left : links' ≡ filled_links links o (take count (free_from spans links 0 n))
  pub onward : FreeCursor n spans' links' cursor
