-- The loop that reads a row: the first i numbers stand in the buffer.
use mathlib.Core.Path.{◌≡◌, refl, sym, ap, ◌∙◌}
use mathlib.Core.Bool.{true}
use mathlib.Core.List.{List}
use native.Mathlib.Omega.{arith}
use Prim.Native.Nat.{ℕ, ◌+◌, ◌*◌, ◌≤◌, ◌<◌}
use borrow.Author.Count.{below_none, below_more}
use lib.ListN.{length, length-set, get_or, set}
use lib.Seq.{get_or-set_same, get_or-set_other}
use Rattle.hex_text.specs.Hex.{hex_at}
use Rattle.std.specs.Prelude.{Some}
use Rattle.vector_rows.specs.ReadWords.{Reads, all_read}

pub record ReadTo (text : List ℕ) (at size : ℕ) (out : List ℕ) (i : ℕ) : Type 0 where
  pub same : length out ≡ size
  pub most : i ≤ size
  pub read : (j : ℕ) → j < i → hex_at text (at + 17 * j) 16 ≡ Some (get_or out j 0)

pub none_read : (text : List ℕ) (at : ℕ) (out : List ℕ) → ReadTo text at (length out) out 0
none_read text at out = record { same = refl; most = omega arith; read = below_none _ }

pub one-read : (text : List ℕ) (at size : ℕ) (out : List ℕ) (i v : ℕ) → ReadTo text at size out i → i < length out
    → Some v ≡ hex_at text (at + 17 * i) 16 → ReadTo text at size (set out i v) (i + 1)
one-read text at size out i v s h e =
    record {
      same = length-set out i v ∙ s.same;
      most = omega (arith, s.same);
      read = below_more (λ (j : ℕ). hex_at text (at + 17 * j) 16 ≡ Some (get_or (set out i v) j 0)) i
          (λ j a. s.read j a ∙ ap Some (sym (get_or-set_other out i j v 0 (λ q. omega arith))))
          (sym e ∙ ap Some (sym (get_or-set_same out i v 0 h)));
    }

pub read-ends : (text : List ℕ) (at size : ℕ) (out : List ℕ) (i : ℕ) → ReadTo text at size out i → length out ≤ i → Reads text at out true
read-ends text at size out i s h = all_read (λ j g. s.read j (omega arith))
