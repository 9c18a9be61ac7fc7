-- What the functions that update a store ask and leave, and the law of an update.
use Rattle.std.specs.Prelude.{◌≡◌, cond, List, [], ◌∷◌, ℕ, suc, ◌+◌, ◌-◌, ◌*◌, ◌/◌, ◌%◌, ◌≤◌, ◌<◌, eqb, length, get_or, Float}
use Rattle.store.specs.Store.{RecordChain, places_of, free_from, Cells, ChainsSound, store_list}
use Rattle.store.specs.Fills.{FreeCursor}
use Rattle.store.specs.Updates.{Update, laid_list, pairs_freed, pairs_laid, CellsPastKept}

-- list j is a chain, so that it can be freed
pub record FreeListPre (n : ℕ) (c : Cells) (j : ℕ) : Type 0 where
  pub in_spans : 2 * n ≤ length c.spans
  pub in_links : 2 * n ≤ length c.links
  pub in_heads : j < length c.heads
  pub chain : RecordChain c.links n (suc j) (get_or c.heads j 0) (places_of n c.links c.heads j)

-- there are free records for the whole pairs of an update
pub record LayListPre (n : ℕ) (c : Cells) (u : Update) : Type 0 where
  pub in_spans : 2 * n ≤ length c.spans
  pub in_links : 2 * n ≤ length c.links
  pub in_heads : u.list < length c.heads
  pub whole : length u.ends % 2 ≡ 0
  pub enough : length u.ends / 2 ≤ length (free_from c.spans c.links 0 n)

-- the list is laid, and no record before place r is free
pub record LayListPost (n : ℕ) (c : Cells) (u : Update) (r : ℕ) (d : Cells) : Type 0 where
  pub left : d ≡ laid_list n c u
  pub onward : FreeCursor n d.spans d.links r

-- the cells have n records and m heads
pub record Room (n m : ℕ) (c : Cells) : Type 0 where
  pub in_spans : 2 * n ≤ length c.spans
  pub in_links : 2 * n ≤ length c.links
  pub in_heads : m ≤ length c.heads

-- the updates are of lists from k on, below m and ascending, and each has whole pairs
pub data Ascending (m : ℕ) : ℕ → List Update → Type 0 where
  none : {k : ℕ} → Ascending m k []
  next : {k : ℕ} {u : Update} {us : List Update} → k ≤ u.list → u.list < m → length u.ends % 2 ≡ 0
      → Ascending m (suc u.list) us → Ascending m k (u ∷ us)

-- list j after the updates, where it was l before
unfoldable pub list_after : List Update → ℕ → List Float → List Float
list_after [] j l = l
list_after (u ∷ us) j l = cond (eqb j u.list) u.ends (list_after us j l)

-- every list is the one after the updates
abbrev pub ListsUpdated : (n m : ℕ) → Cells → List Update → Cells → Type 0
ListsUpdated n m c us d = (j : ℕ) → j < m → store_list n d j ≡ list_after us j (store_list n c j)

-- what the updates leave of a sound store with that total
pub record UpdatedStore (n m total : ℕ) (c : Cells) (us : List Update) (d : Cells) : Type 0 where
  pub fewer : pairs_freed n c us ≤ total
  pub is_sound : ChainsSound n m (total - pairs_freed n c us + pairs_laid us) d
  pub lists : ListsUpdated n m c us d
  pub kept : CellsPastKept n m c d
