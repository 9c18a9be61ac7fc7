-- What the program writes for an input, as document 01 defines it.
use Rattle.std.specs.Prelude.{◌≡◌, Bool, false, not, ◌||◌, List, [], ◌∷◌, ℕ, ◌%◌, ◌≤◌, length, Float}
use Rattle.std.specs.Float.{binary64}
use Rattle.std.specs.Float.Ieee.{of_bits}
use Rattle.refusal.specs.Refusal.{Cause, cause, Due, NoneDue}
use Rattle.spans.specs.Spans.{holds, equal, ListOf, set_minus}
use Rattle.spans.specs.Rays.{ValidRay, MergedExactly}
use Rattle.ray_subtract.specs.Subtract.{either_hit}
use Rattle.ray_input.specs.Format.{letter_p, letter_c, letter_o, letter_i, bits_at, text_pairs, total, readable}
use Rattle.ray_output.specs.Output.{answer_text, refused_text}
use Rattle.ray_input.specs.Steps.{Appended}

-- the bounds, which the first line gives, the ray's lists and the hits
abbrev pub bound_lo : List ℕ → Float
bound_lo s = of_bits binary64 (bits_at s 2)

abbrev pub bound_hi : List ℕ → Float
bound_hi s = of_bits binary64 (bits_at s 19)

abbrev pub text_possible : List ℕ → List Float
text_possible s = text_pairs letter_p s (total s)

abbrev pub text_certain : List ℕ → List Float
text_certain s = text_pairs letter_c s (total s)

abbrev pub text_outer : List ℕ → List Float
text_outer s = text_pairs letter_o s (total s)

abbrev pub text_inner : List ℕ → List Float
text_inner s = text_pairs letter_i s (total s)

-- a list after the merge: whether a boundary moved, the list as it was read where none did, and the points, those that lie in no hit
pub record ListPrinted (list : List Float) (hit : Float → Bool) (moved : Bool) (after : List Float) : Type 0 where
  pub moves : moved ≡ not (equal list after)
  pub same : moved ≡ false → after ≡ list
  pub left : ListOf (set_minus (holds list) hit) after

-- both lists after the merge, end by end, and their text
pub record Written (lo hi : Float) (possible certain outer inner : List Float) (text : List ℕ) : Type 0 where
  pub p : Bool
  pub c : Bool
  pub possible_after : List Float
  pub certain_after : List Float
  pub possible_left : ListPrinted possible (holds inner) p possible_after
  pub certain_left : ListPrinted certain (either_hit outer inner) c certain_after
  pub exact : MergedExactly possible certain outer inner possible_after certain_after
  pub valid : ValidRay lo hi possible_after certain_after
  pub printed : text ≡ answer_text possible_after certain_after (p || c)

-- 18 for a text that cannot be read, then 11 for a ray that is not valid within its bounds
abbrev pub ray_causes : Float → Float → List Float → List Float → List Cause
ray_causes lo hi possible certain = cause 11 (¬ ValidRay lo hi possible certain) ∷ []

abbrev pub run_causes : List ℕ → List Cause
run_causes s = cause 18 (readable s ≡ false) ∷ ray_causes (bound_lo s) (bound_hi s) (text_possible s) (text_certain s)

-- the text for causes: the refusal that is due, or else what is written of the merge
pub data Result (causes : List Cause) (lo hi : Float) (possible certain outer inner : List Float) (text : List ℕ) : Type 0 where
  refused : (k : ℕ) → Due causes k → text ≡ refused_text k → Result causes lo hi possible certain outer inner text
  written : NoneDue causes → Written lo hi possible certain outer inner text → Result causes lo hi possible certain outer inner text

-- the text stands at the front of the buffer, r bytes long, and the other bytes are as before
pub record Printed (causes : List Cause) (lo hi : Float) (possible certain outer inner : List Float)
    (before after : List ℕ) (r : ℕ) : Type 0 where
  pub text : List ℕ
  pub result : Result causes lo hi possible certain outer inner text
  pub put : Appended before 0 text after r

abbrev pub ProgramRan : List ℕ → List ℕ → List ℕ → ℕ → Type 0
ProgramRan s before after r = Printed (run_causes s) (bound_lo s) (bound_hi s) (text_possible s) (text_certain s)
    (text_outer s) (text_inner s) before after r

-- what is asked of the lists that are merged and printed: whole pairs of hits, and as many as the buffers hold
pub record Small (possible certain outer inner : List Float) : Type 0 where
  pub outer_whole : length outer % 2 ≡ 0
  pub inner_whole : length inner % 2 ≡ 0
  pub possible_most : length possible ≤ 128
  pub certain_most : length certain ≤ 128
  pub outer_most : length outer ≤ 128
  pub inner_most : length inner ≤ 128
