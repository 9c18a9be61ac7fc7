-- Cells that are put behind one another.
use mathlib.Core.Path.{◌≡◌, refl, sym, ◌∙◌, ap}
use mathlib.Core.List.{List, [], ◌∷◌, ◌++◌, append_assoc}
use Prim.Native.Nat.{ℕ, ◌+◌, ◌≤◌, ◌<◌}
use native.Mathlib.Omega.{arith}
use native.Mathlib.Numerals.{add-one}
use lib.ListN.{length, take, drop, set, length-append, length-drop, length-set, take-append-drop}
use lib.Seq.{length-take-le, take_at, drop_at, drop-drop, set_split}
use Rattle.ray_input.specs.Steps.{Appended}

module _ {A : Type 0} where
  pub put-none : (before : List A) (at : ℕ) → at ≤ length before → Appended before at [] before at
  put-none before at h = record { next = omega arith; room = h; whole = sym (take-append-drop at before) }

  pub put_one : (before : List A) (at : ℕ) (x : A) → at < length before → Appended before at (x ∷ []) (set before at x) (at + 1)
  put_one before at x h = record { next = refl; room = omega arith; whole = rw (add-one at) (set_split before at x h) }

  module _ (before : List A) (at : ℕ) (cells after : List A) (r : ℕ) (p : Appended before at cells after r) where
    split : after ≡ (take at before ++ cells) ++ drop r before
    split = p.whole ∙ sym (append_assoc (take at before) cells (drop r before))

    size : length (take at before ++ cells) ≡ r
    size = length-append (take at before) cells
        ∙ ap (λ (n : ℕ). n + length cells) (length-take-le at before (omega (arith, p.next, p.room))) ∙ sym p.next

    -- what stands on either side of the place past the cells
    pub front : take r after ≡ take at before ++ cells
    front = ap (take r) split ∙ take_at (take at before ++ cells) (drop r before) r size

    pub rest : drop r after ≡ drop r before
    rest = ap (drop r) split ∙ drop_at (take at before ++ cells) (drop r before) r size

    pub same_size : length after ≡ length before
    same_size = omega (arith, ap length split, length-append (take at before ++ cells) (drop r before), size, length-drop r before, p.room)

    pub put_then : (more last : List A) (q : ℕ) → Appended after r more last q → Appended before at (cells ++ more) last q
    put_then more last q g = record {
      next = g.next ∙ omega (arith, p.next, length-append cells more);
      room = omega (arith, g.room, same_size);
      whole = g.whole
          ∙ ap (λ (l : List A). l ++ (more ++ drop q after)) front
          ∙ append_assoc (take at before) cells (more ++ drop q after)
          ∙ ap (λ (l : List A). take at before ++ l)
          (sym (append_assoc cells more (drop q after)) ∙ ap (λ (l : List A). (cells ++ more) ++ l) past);
    }
      where
        past : drop q after ≡ drop q before
        past = rw (g.next, ← drop-drop (length more) r after, ← drop-drop (length more) r before, rest)

  pub put_two : (before : List A) (at : ℕ) (x y : A) → at + 2 ≤ length before
      → Appended before at (x ∷ y ∷ []) (set (set before at x) (at + 1) y) (at + 2)
  put_two before at x y h =
      rw (two at) (put_then before at (x ∷ []) (set before at x) (at + 1) (put_one before at x (omega arith)) (y ∷ [])
      (set (set before at x) (at + 1) y) (at + 1 + 1)
      (put_one (set before at x) (at + 1) y (simp length-set (omega arith))))
    where
      two : (n : ℕ) → n + 2 ≡ n + 1 + 1
      two n = omega arith
