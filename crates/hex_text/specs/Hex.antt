-- Hexadecimal numbers in a text, a list of ASCII codes. Definitions only.
use Rattle.std.specs.Prelude.{cond, List, [], ◌∷◌, ℕ, ◌+◌, ◌-◌, ◌*◌, ltb, leb, length, take, drop, Option, None, Some}
use Rattle.std.specs.Option.{option_and_then}

-- what a digit counts: `0` is 48, `9` 57, `a` 97 and `f` 102; every other code is no digit
unfoldable pub hex_digit : ℕ → Option ℕ
hex_digit c = cond (ltb c 48) None (cond (ltb c 58) (Some (c - 48)) (cond (ltb c 97) None (cond (ltb c 103) (Some (c - 87)) None)))

-- The number of these digits, after digits that count `before`: each moves what stands before it up by one place.
unfoldable pub hex_number : (before : ℕ) → List ℕ → Option ℕ
hex_number before [] = Some before
hex_number before (c ∷ cs) = option_and_then (λ d. hex_number (before * 16 + d) cs) (hex_digit c)

-- the number of the n digits, at most 16, at place k of the text
unfoldable pub hex_at : List ℕ → ℕ → ℕ → Option ℕ
unfolding hex_number
hex_at text k n = cond (leb n 16) (cond (leb (k + n) (length text)) (hex_number 0 (take n (drop k text))) None) None
