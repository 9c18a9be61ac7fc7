-- Reading the lists of a store off their chains.
use Rattle.std.specs.Prelude.{◌≡◌, List, ◌++◌, ℕ, ◌+◌, ◌*◌, ◌≤◌, length, take, drop, Float}
use Rattle.store.specs.Store.{places, RecordChain}

-- from record number k a chain of one owner runs over counted records, as from each head of a sound store
pub record Linked (n : ℕ) (links : List ℕ) (k : ℕ) : Type 0 where
  pub in_links : 2 * n ≤ length links
  pub owner : ℕ
  pub chain : RecordChain links n owner k (places links n k)

-- and the records have ends
pub record Readable (n : ℕ) (spans : List Float) (links : List ℕ) (k : ℕ) : Type 0 where
  pub in_spans : 2 * n ≤ length spans
  pub linked : Linked n links k

-- the list stands in the buffer from cell `at` on, and ends before cell r; the other cells are as before
pub record ReadListPost (l : List Float) (before : List Float) (at : ℕ) (after : List Float) (r : ℕ) : Type 0 where
  pub past : r ≡ at + length l
  pub cells : after ≡ take at before ++ l ++ drop (at + length l) before
