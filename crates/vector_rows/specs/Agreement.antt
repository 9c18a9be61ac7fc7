-- When the cells of a buffer are the recorded ones. Every cell is 7 before the call.
use Rattle.std.specs.Prelude.{◌≡◌, Bool, true, false, cond, List, ℕ, ◌<◌, eqb, leb, Float, get_or}
use Rattle.std.specs.Float.{nan, binary64}
use Rattle.std.specs.Float.Ieee.{eq, of_bits, to_bits}
use Rattle.vector_rows.specs.Words.{word_of}

-- cell k holds 7 from `room` on, and in front of that the word: as a number where k is below `ends`, else bit for bit
unfoldable pub cell_agrees : Float → (k ends room word : ℕ) → Bool
cell_agrees x k ends room word =
    cond (leb room k)
    (eqb (to_bits binary64 x) 0x401c_0000_0000_0000)
    (cond (leb ends k) (eqb (to_bits binary64 x) word) (eq x (of_bits binary64 word)))

-- the same of a whole number
unfoldable pub number_agrees : ℕ → (k room word : ℕ) → Bool
number_agrees n k room word = cond (leb room k) (eqb n 7) (eqb n word)

-- cell k agrees with word k of those from place `from` on
abbrev pub cell_right : List Float → List ℕ → (from ends room k : ℕ) → Bool
cell_right cells w from ends room k = cell_agrees (get_or cells k nan) k ends room (word_of w from k)

abbrev pub number_right : List ℕ → List ℕ → (from room k : ℕ) → Bool
number_right cells w from room k = number_agrees (get_or cells k 0) k room (word_of w from k)

-- yes where each of the first n is right, no where one is not
pub data Every (right : ℕ → Bool) (n : ℕ) : Bool → Type 0 where
  each_right : ((k : ℕ) → k < n → right k ≡ true) → Every right n true
  one_wrong : (k : ℕ) → k < n → right k ≡ false → Every right n false
