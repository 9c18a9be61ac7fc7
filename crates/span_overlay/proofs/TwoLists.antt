-- Where a loop over two lists stands that fills a buffer as it goes.
use mathlib.Core.Path.{◌≡◌, refl, sym, ◌∙◌, ap}
use mathlib.Core.List.{List, [], ◌++◌, append-nil}
use Prim.Native.Nat.{ℕ, ◌+◌, ◌%◌, ◌≤◌}
use native.Mathlib.Omega.{arith}
use lib.ListN.{length, take}
use lib.Ieee.{Float}
use Rattle.spans.specs.Steps.{FilledFront}

-- i ends of a and j ends of b are passed, whole pairs of each, and at most as many cells are written
pub record BothPassed (a b before : List Float) (i j n : ℕ) (out : List Float) : Type 0 where
  pub size : length out ≡ length before
  pub i_whole : i % 2 ≡ 0
  pub i_most : i ≤ length a
  pub j_whole : j % 2 ≡ 0
  pub j_most : j ≤ length b
  pub most : n ≤ i + j

pub none_passed : (a b before : List Float) → BothPassed a b before 0 0 0 before
none_passed a b before = record {
  size = refl;
  i_whole = omega arith;
  i_most = omega arith;
  j_whole = omega arith;
  j_most = omega arith;
  most = omega arith;
}

-- what is written is the whole list once nothing is to come
pub all-filled : {a b before : List Float} {i j n : ℕ} {out list rest : List Float} → BothPassed a b before i j n out
    → take n out ++ rest ≡ list → rest ≡ [] → FilledFront (λ l. l ≡ list) before (length a + length b) out n
all-filled {n = n} {out} s ends none = record {
  size = s.size;
  most = omega (arith, s.most, s.i_most, s.j_most);
  list = sym (append-nil (take n out)) ∙ ap (λ (l : List Float). take n out ++ l) (sym none) ∙ ends;
}
