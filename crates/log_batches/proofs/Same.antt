-- The first keys stay the same where they are put in another order.
use Rattle.std.proofs.Common.{◌≡◌, ℕ, ◌<◌, ◌≤◌, List, ◌++◌, length, get_or, take, drop, ◌∙◌, sym, arith, length-append, length-drop}
use Rattle.std.proofs.lemmas.List.{get_or_append_left, get_or_read, get_or-take, length-take-le}
use Rattle.std.proofs.lemmas.List.Elements.{Contains-get_or}
use Rattle.std.proofs.lemmas.List.Sorted.{Contains-permutation, IsPermutation-sym, length_permutation}
use Rattle.std.specs.List.{Contains}
use Rattle.std.specs.List.Sorted.{IsPermutation}
use Rattle.log_batches.specs.Batches.{SameKeys}

module _ (m : ℕ) (keys part : List ℕ) (fit : m ≤ length keys) (p : IsPermutation (take m keys) part) where
  front : length (take m keys) ≡ m
  front = length-take-le m keys fit

  size : length part ≡ m
  size = length_permutation (take m keys) part p ∙ front

  first : (t : ℕ) → t < m → get_or (part ++ drop m keys) t 0 ≡ get_or part t 0
  first t h = get_or_append_left part (drop m keys) 0 t (omega (arith, size))

  -- where a number stands
  place : (xs : List ℕ) (x : ℕ) → Contains xs x → (k : ℕ) × (k < length xs) × (x ≡ get_or xs k 0)
  place xs x (k, l, e) = (k, l, get_or_read xs k x l (sym e) 0)

  -- THE LAW: the keys stay the same
  pub same_permuted : SameKeys m keys (part ++ drop m keys)
  same_permuted = record {
    size = omega (arith, length-append part (drop m keys), length-drop m keys, size);
    each = λ t h.
        let (s, l, e) = place (take m keys) (get_or part t 0) (Contains-permutation part (take m keys) (get_or part t 0)
        (IsPermutation-sym (take m keys) part p) (Contains-get_or part t 0 (omega (arith, size)))) in
        (s, omega (arith, l, front), first t h ∙ e ∙ get_or-take m keys s 0 (omega (arith, l, front)));
    all = λ s h.
        let (t, l, e) = place part (get_or (take m keys) s 0) (Contains-permutation (take m keys) part (get_or (take m keys) s 0) p
        (Contains-get_or (take m keys) s 0 (omega (arith, front)))) in
        (t, omega (arith, l, size), first t (omega (arith, l, size)) ∙ sym e ∙ get_or-take m keys s 0 h);
  }
