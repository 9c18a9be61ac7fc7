-- What a step leaves in the buffer that it writes to.
use Rattle.std.specs.Prelude.{◌≡◌, List, ◌++◌, ℕ, ◌+◌, ◌≤◌, length, take, drop}

-- the cells stand from place `at` on, r is the place past them, and no other cell changed
pub record Appended {A : Type 0} (before : List A) (at : ℕ) (cells after : List A) (r : ℕ) : Type 0 where
  pub next : r ≡ at + length cells
  pub room : r ≤ length before
  pub whole : after ≡ take at before ++ (cells ++ drop r before)
