-- The program's output, as document 01 defines it: the possible pairs, the certain pairs, then `changed` or `same`; a
-- refusal prints its number only.
use Rattle.std.specs.Prelude.{Bool, true, false, cond, List, [], ◌∷◌, ◌++◌, ℕ, zero, suc, ◌+◌, ◌/◌, ◌%◌, ltb, Float}
use Rattle.std.specs.Float.{binary64}
use Rattle.std.specs.Float.Ieee.{to_bits}
use Rattle.ray_input.specs.Format.{letter_p, letter_c, space, newline}

-- the small hex digit of a number below 16
abbrev pub glyph : ℕ → ℕ
glyph d = cond (ltb d 10) (48 + d) (87 + d)

-- the last k hex digits of v, the highest first
unfoldable pub hex : ℕ → ℕ → List ℕ
hex zero v = []
hex (suc k) v = hex k (v / 16) ++ (glyph (v % 16) ∷ [])

-- a space and the 16 hex digits of a double's bits
abbrev pub field_text : Float → List ℕ
field_text x = space ∷ hex 16 (to_bits binary64 x)

-- a line: a letter, two such fields and a newline
unfoldable pub line_text : ℕ → Float → Float → List ℕ
line_text c lo hi = c ∷ (field_text lo ++ (field_text hi ++ (newline ∷ [])))

-- a line for each pair of a list
unfoldable pub lines_text : ℕ → List Float → List ℕ
lines_text c [] = []
lines_text c (lo ∷ []) = []
lines_text c (lo ∷ hi ∷ l) = line_text c lo hi ++ lines_text c l

-- "changed" or "same", and a newline
unfoldable pub end_text : Bool → List ℕ
end_text true = 99 ∷ 104 ∷ 97 ∷ 110 ∷ 103 ∷ 101 ∷ 100 ∷ newline ∷ []
end_text false = 115 ∷ 97 ∷ 109 ∷ 101 ∷ newline ∷ []

-- the whole answer
abbrev pub answer_text : List Float → List Float → Bool → List ℕ
answer_text possible certain changed = lines_text letter_p possible ++ (lines_text letter_c certain ++ end_text changed)

-- "refused", a space, the number in two digits and a newline
unfoldable pub refused_text : ℕ → List ℕ
refused_text k = 114 ∷ 101 ∷ 102 ∷ 117 ∷ 115 ∷ 101 ∷ 100 ∷ space ∷ (48 + k / 10) ∷ (48 + k % 10) ∷ newline ∷ []
