-- The loops over cells: what is known of the first k.
use mathlib.Core.Path.{◌≡◌, refl, sym, ◌∙◌}
use mathlib.Core.Bool.{Bool, true}
use mathlib.Core.List.{List}
use native.Mathlib.Omega.{arith}
use Prim.Native.Nat.{ℕ, ◌+◌, ◌-◌, ◌≤◌, ◌<◌}
use borrow.Author.Count.{below_none, below_more}
use lib.ListN.{length, length-set, get_or, set, get_or-eq_default}
use lib.Seq.{get_or-set_same, get_or-set_other}
use Rattle.vector_rows.specs.Words.{word_of, CellsFilled}
use Rattle.vector_rows.specs.Agreement.{Every, each_right}

-- a word of the row, and one past it, which is 0
pub in_row : (w : List ℕ) (from k : ℕ) → get_or w (from + k) 0 ≡ word_of w from k
unfolding word_of
in_row w from k = refl

pub past-start : (w : List ℕ) (from k : ℕ) → length w ≤ from → 0 ≡ word_of w from k
unfolding word_of
past-start w from k h = sym (get_or-eq_default w 0 {n = from + k} (omega arith))

pub past_end : (w : List ℕ) (from k : ℕ) → length w - from ≤ k → 0 ≡ word_of w from k
unfolding word_of
past_end w from k h = sym (get_or-eq_default w 0 {n = from + k} (omega arith))

-- the first k cells are the wanted ones, whatever a cell is
pub record FilledTo {A : Type 0} (d : A) (wanted : ℕ → A) (size : ℕ) (out : List A) (k : ℕ) : Type 0 where
  pub same : length out ≡ size
  pub so_far : (j : ℕ) → j < k → get_or out j d ≡ wanted j

module _ {A : Type 0} {d : A} {wanted : ℕ → A} where
  pub none_filled : {out : List A} → FilledTo d wanted (length out) out 0
  none_filled = record { same = refl; so_far = below_none _ }

  pub one-filled : {size : ℕ} {out : List A} {k : ℕ} {x : A} → FilledTo d wanted size out k → k < length out → x ≡ wanted k
      → FilledTo d wanted size (set out k x) (k + 1)
  one-filled {size} {out} {k} {x} s h e =
      record {
        same = length-set out k x ∙ s.same;
        so_far = below_more (λ (j : ℕ). get_or (set out k x) j d ≡ wanted j) k
            (λ j a. get_or-set_other out k j x d (λ q. omega arith) ∙ s.so_far j a) (get_or-set_same out k x d h ∙ e);
      }

  pub all-filled : {size : ℕ} {out : List A} {k : ℕ} → FilledTo d wanted size out k → length out ≤ k → CellsFilled d wanted out
  all-filled s h j g = s.so_far j (omega arith)

-- the first k are right, whatever is compared
pub record RightTo (right : ℕ → Bool) (k : ℕ) : Type 0 where
  pub so_far : (j : ℕ) → j < k → right j ≡ true

module _ {right : ℕ → Bool} where
  pub none_right : RightTo right 0
  none_right = record { so_far = below_none _ }

  pub one_right : {k : ℕ} → RightTo right k → right k ≡ true → RightTo right (k + 1)
  one_right s e = record { so_far = below_more _ _ s.so_far e }

  pub all_right : {n k : ℕ} → RightTo right k → n ≤ k → Every right n true
  all_right s h = each_right (λ j g. s.so_far j (omega arith))
