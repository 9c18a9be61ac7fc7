-- The program's input, as document 01 defines it. A line is a letter, twice a space and 16 small hex digits, and a newline: 36 bytes.
-- So line k of a text of such lines starts at byte 36 * k.
use Rattle.std.specs.Prelude.{Bool, true, cond, ◌&&◌, ◌||◌, List, [], ◌∷◌, ◌++◌, ℕ, zero, suc, ◌+◌, ◌*◌, ◌/◌, ◌%◌, eqb, leb}
use Rattle.std.specs.Prelude.{length, get_or, Float, is_some, unwrap_or}
use Rattle.std.specs.Float.{binary64}
use Rattle.std.specs.Float.Ieee.{of_bits}
use Rattle.hex_text.specs.Hex.{hex_at}

-- the letters: B bounds, P and C the ray's lists, O and I the hits
abbrev pub letter_b : ℕ
letter_b = 66

abbrev pub letter_p : ℕ
letter_p = 80

abbrev pub letter_c : ℕ
letter_c = 67

abbrev pub letter_o : ℕ
letter_o = 79

abbrev pub letter_i : ℕ
letter_i = 73

abbrev pub space : ℕ
space = 32

abbrev pub newline : ℕ
newline = 10

abbrev pub is_letter : ℕ → Bool
is_letter b = eqb b letter_b || (eqb b letter_p || (eqb b letter_c || (eqb b letter_o || eqb b letter_i)))

-- the test holds of each number below n
unfoldable pub each_below : (ℕ → Bool) → ℕ → Bool
each_below test zero = true
each_below test (suc k) = each_below test k && test k

-- whether 16 small hex digits stand at place `at`, and the bits that they spell
abbrev pub is_number : List ℕ → ℕ → Bool
is_number s at = is_some (hex_at s at 16)

abbrev pub bits_at : List ℕ → ℕ → ℕ
bits_at s at = unwrap_or (hex_at s at 16) 0

-- document 01's line, from place `at` on
unfoldable pub is_line : List ℕ → ℕ → Bool
is_line s at =
    is_letter (get_or s at 0)
    && (eqb (get_or s (at + 1) 0) space
    && (is_number s (at + 2)
    && (eqb (get_or s (at + 18) 0) space
    && (is_number s (at + 19)
    && eqb (get_or s (at + 35) 0) newline))))

-- the first n lines are such lines
abbrev pub lines : List ℕ → ℕ → Bool
lines s n = each_below (λ k. is_line s (36 * k)) n

-- the letter of line k
abbrev pub letter_of : List ℕ → ℕ → ℕ
letter_of s k = get_or s (36 * k) 0

-- how many of the first n lines have the letter c
unfoldable pub count : ℕ → List ℕ → ℕ → ℕ
count c s zero = 0
count c s (suc k) = count c s k + cond (eqb (letter_of s k) c) 1 0

-- the pair of the line at place `at`, where that line has the letter c
abbrev pub pair_at : ℕ → List ℕ → ℕ → List Float
pair_at c s at = cond (eqb (get_or s at 0) c) (of_bits binary64 (bits_at s (at + 2)) ∷ of_bits binary64 (bits_at s (at + 19)) ∷ []) []

-- the pairs of those lines, as a span list; a NaN's bits give the one NaN
unfoldable pub text_pairs : ℕ → List ℕ → ℕ → List Float
text_pairs c s zero = []
text_pairs c s (suc k) = text_pairs c s k ++ pair_at c s (36 * k)

-- how many lines a text has
abbrev pub total : List ℕ → ℕ
total s = length s / 36

-- each letter but B has at most 64 of the first n lines
unfoldable pub few : List ℕ → ℕ → Bool
few s n = leb (count letter_p s n) 64 && (leb (count letter_c s n) 64 && (leb (count letter_o s n) 64 && leb (count letter_i s n) 64))

-- the text is whole lines, B first and once, and each other letter at most 64 times
unfoldable pub readable : List ℕ → Bool
readable s =
    eqb (length s % 36) 0
    && (lines s (total s)
    && (eqb (letter_of s 0) letter_b
    && (eqb (count letter_b s (total s)) 1
    && few s (total s))))
