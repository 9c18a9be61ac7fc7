-- Document 01's example: the contract of `run` allows its output alone. The hits are normalised to themselves, so each end of the new lists
-- is one that was read.
use mathlib.Core.Path.{◌≡◌, refl, ◌∙◌, ap₂, subst}
use mathlib.Core.Bool.{true, not}
use mathlib.Core.List.{List, [], ◌∷◌}
use mathlib.Core.Logic.{inl, inr}
use Prim.Native.Nat.{ℕ}
use lib.Ieee.{Float, binary64, of_bits, to_bits, lt, le, eq}
use Rattle.refusal.specs.Refusal.{Due}
use Rattle.hex_text.specs.Hex.{hex_digit, hex_at}
use Rattle.logic.proofs.Bools.{clash}
use Rattle.spans.specs.Spans.{rising, sound, equal}
use Rattle.spans.proofs.Normal.{normal-self}
use Rattle.spans.specs.Overlay.{cut_by, less_of}
use Rattle.spans.specs.Rays.{bounded, ValidRay}
use Rattle.ray_input.specs.Format.{each_below, is_line, count, few, text_pairs, readable}
use Rattle.ray_input.specs.Steps.{Appended}
use Rattle.ray_output.specs.Output.{hex, line_text, lines_text, end_text, answer_text}
use Rattle.ray_text.specs.Run.{bound_lo, bound_hi, text_possible, text_certain, text_outer, text_inner, run_causes, Written}
use Rattle.ray_text.specs.Run.{Result, refused, written}
use Rattle.ray_text.specs.Example.{example_input, example_output, ExamplePrinted}

-- ---- the lists of the input
abbrev zero· : Float
zero· = of_bits binary64 0x0

abbrev one : Float
one = of_bits binary64 0x3ff0000000000000

abbrev two : Float
two = of_bits binary64 0x4000000000000000

abbrev three : Float
three = of_bits binary64 0x4008000000000000

abbrev four : Float
four = of_bits binary64 0x4010000000000000

abbrev ten : Float
ten = of_bits binary64 0x4024000000000000

readable-input : readable example_input ≡ true
unfolding readable example_input each_below is_line hex_at hex_digit count few
readable-input = refl

possible-input : text_possible example_input ≡ zero· ∷ ten ∷ []
unfolding example_input text_pairs hex_at hex_digit
possible-input = refl

certain-input : text_certain example_input ≡ zero· ∷ ten ∷ []
unfolding example_input text_pairs hex_at hex_digit
certain-input = refl

outer-input : text_outer example_input ≡ one ∷ four ∷ []
unfolding example_input text_pairs hex_at hex_digit
outer-input = refl

inner-input : text_inner example_input ≡ two ∷ three ∷ []
unfolding example_input text_pairs hex_at hex_digit
inner-input = refl

hits-sound : (sound (text_outer example_input) ≡ true) × (sound (text_inner example_input) ≡ true)
unfolding sound rising lt of_bits
hits-sound = rw (outer-input, inner-input) (refl, refl)

bounds-input : (bound_lo example_input ≡ zero·) × (bound_hi example_input ≡ ten)
unfolding example_input hex_at hex_digit
bounds-input = (refl, refl)

valid-input : ValidRay (bound_lo example_input) (bound_hi example_input) (text_possible example_input) (text_certain example_input)
unfolding sound rising bounded lt le of_bits
valid-input = rw (bounds-input.0, bounds-input.1, possible-input, certain-input) (record {
  possible_sound = refl;
  certain_sound = refl;
  possible_bounded = refl;
  certain_bounded = refl;
  inside = λ p h. h;
})

-- ---- what is written
new-possible : less_of (zero· ∷ ten ∷ []) (two ∷ three ∷ []) ≡ zero· ∷ two ∷ three ∷ ten ∷ []
unfolding less_of cut_by lt of_bits
new-possible = refl

new-certain : less_of (less_of (zero· ∷ ten ∷ []) (one ∷ four ∷ [])) (two ∷ three ∷ []) ≡ zero· ∷ one ∷ four ∷ ten ∷ []
unfolding less_of cut_by lt of_bits
new-certain = refl

printed-text : answer_text (zero· ∷ two ∷ three ∷ ten ∷ []) (zero· ∷ one ∷ four ∷ ten ∷ []) true ≡ example_output
unfolding lines_text line_text hex end_text example_output to_bits of_bits
printed-text = refl

possible-moves : not (equal (zero· ∷ ten ∷ []) (zero· ∷ two ∷ three ∷ ten ∷ [])) ≡ true
unfolding equal eq of_bits
possible-moves = refl

module _ (text : List ℕ) where
  -- no cause is due
  not-refused : (k : ℕ) → Due (run_causes example_input) k → ⊥
  unfolding Due
  not-refused k (inl d) = clash (readable example_input) readable-input d.0
  not-refused k (inr (n, inl d)) = d.0 valid-input
  not-refused k (inr (n, inr d)) = d.1

  written-text : Written (bound_lo example_input) (bound_hi example_input) (text_possible example_input) (text_certain example_input)
      (text_outer example_input) (text_inner example_input) text → text ≡ example_output
  written-text w =
      let o : w.exact.outer_normal ≡ one ∷ four ∷ [] =
      normal-self (text_outer example_input) w.exact.outer_normal hits-sound.0 w.exact.outer_is ∙ outer-input in
      let i : w.exact.inner_normal ≡ two ∷ three ∷ [] =
      normal-self (text_inner example_input) w.exact.inner_normal hits-sound.1 w.exact.inner_is ∙ inner-input in
      let p : w.possible_after ≡ zero· ∷ two ∷ three ∷ ten ∷ [] = w.exact.possible_is ∙ ap₂ less_of possible-input i ∙ new-possible in
      let c : w.certain_after ≡ zero· ∷ one ∷ four ∷ ten ∷ [] =
      w.exact.certain_is ∙ ap₂ less_of (ap₂ less_of certain-input o) i ∙ new-certain in
      let m : w.p ≡ true = w.possible_left.moves ∙ ap₂ (λ (a b : List Float). not (equal a b)) possible-input p ∙ possible-moves in
      w.printed ∙ rw (p, c, m) printed-text

  result-text : Result (run_causes example_input) (bound_lo example_input) (bound_hi example_input)
      (text_possible example_input) (text_certain example_input)
      (text_outer example_input) (text_inner example_input) text → text ≡ example_output
  result-text (refused k d e) = absurd (not-refused k d)
  result-text (written n w) = written-text w

pub example-printed : ExamplePrinted
example-printed before after r ran = subst (λ (t : List ℕ). Appended before 0 t after r) (result-text ran.text ran.result) ran.put
