-- What the words of a row say. Past the row every word is 0.
use Rattle.std.specs.Prelude.{◌≡◌, cond, List, [], ◌∷◌, ℕ, ◌+◌, ◌%◌, ◌<◌, eqb, Float, length, get_or}
use Rattle.std.specs.Float.Ieee.{of_bits}
use Rattle.std.specs.Float.{binary64}
use Rattle.grid.specs.declared.DexelStockSpec.{DexelStockSpec}
use Rattle.cutter.specs.declared.PreparedCutter.{PreparedCutter}

-- word k of those from place `from` on, and the double whose bits it is
unfoldable pub word_of : List ℕ → (from k : ℕ) → ℕ
word_of w from k = get_or w (from + k) 0

unfoldable pub double_of : List ℕ → (from k : ℕ) → Float
double_of w from k = of_bits binary64 (word_of w from k)

-- each cell k of the list is `wanted k`; d stands for a cell that is not there
abbrev pub CellsFilled : {A : Type 0} → A → (ℕ → A) → List A → Type 0
CellsFilled d wanted out = (k : ℕ) → k < length out → get_or out k d ≡ wanted k

-- a description: its version from one word, the box, the cell size and the two limits from nine
abbrev pub spec_of : List ℕ → (version from : ℕ) → DexelStockSpec
spec_of w version from =
    record {
      version = word_of w version 0 % 4294967296;
      min_mm = record { x = double_of w from 0; y = double_of w from 1; z = double_of w from 2 };
      max_mm = record { x = double_of w from 3; y = double_of w from 4; z = double_of w from 5 };
      cell_size_mm = double_of w from 6;
      max_rays = word_of w from 7;
      max_intervals = word_of w from 8;
    }

-- the bytes of "mm" for 0, else of "cm"
unfoldable pub units_of : ℕ → List ℕ
units_of word = cond (eqb word 0) (109 ∷ 109 ∷ []) (99 ∷ 109 ∷ [])

-- a cutter's nine numbers
abbrev pub cutter_of : List ℕ → (from : ℕ) → PreparedCutter
cutter_of w from =
    record {
      diameter_mm = double_of w from 0;
      cutting_length_mm = double_of w from 1;
      overall_length_mm = double_of w from 2;
      neck_diameter_mm = double_of w from 3;
      shank_diameter_mm = double_of w from 4;
      radius = double_of w from 5;
      tip_height = double_of w from 6;
      slope = double_of w from 7;
      shoulder = double_of w from 8;
    }
