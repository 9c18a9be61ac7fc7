-- Keys that pass a test, moved to the front of their buffer, and the keys of the entries that are wanted.
use Rattle.std.specs.Prelude.{◌≡◌, Bool, true, false, cond, List, ℕ, ◌+◌, ◌≤◌, ◌<◌, length, get_or, set}

-- one key is moved, if it is kept
pub record KeepPost (k i : ℕ) (kept : Bool) (before after : List ℕ) (r : ℕ) : Type 0 where
  pub keys : after ≡ cond kept (set before k (get_or before i 0)) before
  pub next : r ≡ cond kept (k + 1) k

-- of the first i keys those that pass are the first k now, in some order and however often, and fewer than i where one does not; from i on
-- all are as before
pub record KeysKept (test : ℕ → Bool) (before : List ℕ) (i : ℕ) (after : List ℕ) (k : ℕ) : Type 0 where
  pub size : length after ≡ length before
  pub most : k ≤ i
  pub each : (t : ℕ) → t < k → (s : ℕ) × (s < i) × (get_or after t 0 ≡ get_or before s 0) × (test (get_or after t 0) ≡ true)
  pub all : (s : ℕ) → s < i → test (get_or before s 0) ≡ true → (t : ℕ) × (t < k) × (get_or after t 0 ≡ get_or before s 0)
  pub fewer : (s : ℕ) → s < i → test (get_or before s 0) ≡ false → k < i
  pub rest : (q : ℕ) → i ≤ q → get_or after q 0 ≡ get_or before q 0

-- the first m keys are those of the entries before place `passed` that are wanted; `key` gives the key of the entry at a place
pub record KeysBefore (key : ℕ → ℕ) (wanted : ℕ → Type 0) (passed : ℕ) (keys : List ℕ) (m : ℕ) : Type 0 where
  pub each : (t : ℕ) → t < m → (i : ℕ) × (i < passed) × wanted i × (get_or keys t 0 ≡ key i)
  pub all : (i : ℕ) → i < passed → wanted i → (t : ℕ) × (t < m) × (get_or keys t 0 ≡ key i)
