-- Lists with equal ends.
use mathlib.Core.Path.{◌≡◌, refl, sym, ap, ◌∙◌}
use mathlib.Core.Bool.{Bool, true, false, ◌&&◌}
use mathlib.Core.List.{List, [], ◌∷◌}
use Prim.Native.Nat.{ℕ, ◌%◌}
use lib.Dec.{eqb}
use lib.Ieee.{Float, eq}
use lib.ListN.{length}
use lib.Pointwise.{pointwise}
use Rattle.logic.proofs.Bools.{and_left, and_right, both, clash}
use Rattle.doubles.proofs.Order.{lt-eq-left, lt-eq-right}
use Rattle.spans.specs.Spans.{leads, rising, sound, equal}
use Rattle.spans.proofs.Sets.{equal-length}

-- ---- equal lists
leads-equal : (x y : Float) (a b : List Float) → eq x y ≡ true → equal a b ≡ true → leads x a ≡ true → leads y b ≡ true
unfolding equal
leads-equal x y [] [] e h l = refl
leads-equal x y [] (v ∷ b) e h l = absurd (clash false h refl)
leads-equal x y (u ∷ a) [] e h l = absurd (clash false h refl)
leads-equal x y (u ∷ a) (v ∷ b) e h l = sym (lt-eq-right u v y (and_left (eq u v) (equal a b) h)) ∙ sym (lt-eq-left x y u e) ∙ l

rising-equal : (a b : List Float) → equal a b ≡ true → rising a ≡ true → rising b ≡ true
unfolding equal rising
rising-equal [] [] h r = refl
rising-equal [] (y ∷ b) h r = absurd (clash false h refl)
rising-equal (x ∷ a) [] h r = absurd (clash false h refl)
rising-equal (x ∷ a) (y ∷ b) h r =
    both (leads y b) (rising b) (leads-equal x y a b (and_left (eq x y) (equal a b) h)
    (and_right (eq x y) (equal a b) h) (and_left (leads x a) (rising a) r))
    (rising-equal a b (and_right (eq x y) (equal a b) h) (and_right (leads x a) (rising a) r))

pub sound-equal : (a b : List Float) → equal a b ≡ true → sound a ≡ true → sound b ≡ true
unfolding sound
sound-equal a b h s =
    both (eqb (length b % 2) 0) (rising b)
    (ap (λ (n : ℕ). eqb (n % 2) 0) (sym (equal-length a b h)) ∙ and_left (eqb (length a % 2) 0) (rising a) s)
    (rising-equal a b h (and_right (eqb (length a % 2) 0) (rising a) s))

-- `==` on slices compares the ends as numbers
pub equal-pointwise : (a b : List Float) → equal a b ≡ pointwise eq a b
unfolding equal
equal-pointwise [] [] = refl
equal-pointwise [] (y ∷ b) = refl
equal-pointwise (x ∷ a) [] = refl
equal-pointwise (x ∷ a) (y ∷ b) = ap (λ (t : Bool). eq x y && t) (equal-pointwise a b)
