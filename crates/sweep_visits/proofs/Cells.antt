-- Lists of doubles: the stores of an entry, and a run put into a list.
use Rattle.std.proofs.Common.{◌≡◌, ℕ, suc, ◌+◌, ◌≤◌, List, [], ◌∷◌, ◌++◌, length, take, drop, set, ◌∙◌, append_assoc, arith, length-append, length-drop, length-take-le, take_at}
use lib.Seq.{sets-eq}
use lib.Ieee.{Float}

pub six-stores : (l : List Float) (i : ℕ) (a b c d e f : Float) → i + 6 ≤ length l
    → set (set (set (set (set (set l i a) (i + 1) b) (i + 2) c) (i + 3) d) (i + 4) e) (i + 5) f ≡ take i l
    ++ ((a ∷ b ∷ c ∷ d ∷ e ∷ f ∷ []) ++ drop (i + 6) l)
six-stores l i a b c d e f h =
    let e1 : i + 1 ≡ suc i = omega arith in
    let e2 : i + 2 ≡ suc (suc i) = omega arith in
    let e3 : i + 3 ≡ suc (suc (suc i)) = omega arith in
    let e4 : i + 4 ≡ suc (suc (suc (suc i))) = omega arith in
    let e5 : i + 5 ≡ suc (suc (suc (suc (suc i)))) = omega arith in
    rw (e1, e2, e3, e4, e5) (sets-eq (a ∷ b ∷ c ∷ d ∷ e ∷ f ∷ []) l i h
    ∙ append_assoc (take i l) (a ∷ b ∷ c ∷ d ∷ e ∷ f ∷ []) (drop (i + 6) l))

-- a run w put into l at n
module _ (l w : List Float) (n : ℕ) (fits : n + length w ≤ length l) where
  head-length : length (take n l ++ w) ≡ n + length w
  head-length = simp (length-append, length-take-le n l (omega arith))

  pub put-take : take (n + length w) (take n l ++ (w ++ drop (n + length w) l)) ≡ take n l ++ w
  put-take = rw (← append_assoc) (take_at (take n l ++ w) _ (n + length w) head-length)

  pub put-length : length (take n l ++ (w ++ drop (n + length w) l)) ≡ length l
  put-length = rw (← append_assoc) (length-append (take n l ++ w) (drop (n + length w) l) ∙ simp (head-length, length-drop) (omega arith))
