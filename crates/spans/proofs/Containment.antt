-- The walk over two lists says exactly whether the points of one lie in the other, and with that the test of a ray
-- says whether it is valid.
use mathlib.Core.Path.{◌≡◌, refl, sym, ap, subst}
use mathlib.Core.Logic.{⊎_elim}
use mathlib.Core.Bool.{Bool, true, false, cond}
use mathlib.Core.List.{List, [], ◌∷◌}
use lib.Ieee.{Float, lt, le}
use Rattle.logic.proofs.Bools.{or_cases, or_left, or_right, and_left, and_right, both, clash, by_cases}
use Rattle.doubles.proofs.Order.{lt-number, le_refl, le_trans, lt→le, lt_irrefl, lt-asym, le→not-lt, not-lt→le, lt_trans, lt-le-trans}
use Rattle.spans.specs.Spans.{within, holds, rising, sound}
use Rattle.spans.proofs.Ends.{rising-first, rising-tail}
use Rattle.spans.proofs.Sets.{sound-rising}
use Rattle.spans.specs.Rays.{bounded, ValidRay}
use Rattle.spans.specs.Containment.{from, covers, contained, valid}

-- ---- rising lists
-- each point of a list is past what the list rises from
past_first : (x : Float) (l : List Float) (p : Float) → rising (x ∷ l) ≡ true → holds l p ≡ true → lt x p ≡ true
unfolding holds
past_first x [] p r h = absurd (clash false h refl)
past_first x (a ∷ []) p r h = absurd (clash false h refl)
past_first x (a ∷ b ∷ l) p r h = ⊎_elim
    (λ (w : within a b p ≡ true). lt-le-trans x a p (rising-first x a (b ∷ l) r) (and_left (le a p) (lt p b) w))
    (λ (m : holds l p ≡ true). lt_trans x a p (rising-first x a (b ∷ l) r)
    (lt_trans a b p (rising-first a b l (rising-tail x (a ∷ b ∷ l) r))
    (past_first b l p (rising-tail a (b ∷ l) (rising-tail x (a ∷ b ∷ l) r)) m)))
    (or_cases (within a b p) (holds l p) h)

-- ---- the list from its first pair that does not end below x
pub from-skip : (x a b : Float) (l : List Float) → lt b x ≡ true → from x (a ∷ b ∷ l) ≡ from x l
unfolding from
from-skip x a b l h = ap (λ (t : Bool). cond t (from x l) (a ∷ b ∷ l)) h

pub from-stop : (x a b : Float) (l : List Float) → lt b x ≡ false → from x (a ∷ b ∷ l) ≡ a ∷ b ∷ l
unfolding from
from-stop x a b l h = ap (λ (t : Bool). cond t (from x l) (a ∷ b ∷ l)) h

from-rises : (x : Float) (l : List Float) → rising l ≡ true → rising (from x l) ≡ true
unfolding from rising
from-rises x [] r = refl
from-rises x (a ∷ []) r = refl
from-rises x (a ∷ b ∷ l) r = ⊎_elim
    (λ (t : lt b x ≡ true). subst (λ (m : List Float). rising m ≡ true) (sym (from-skip x a b l t))
    (from-rises x l (rising-tail b l (rising-tail a (b ∷ l) r))))
    (λ (t : lt b x ≡ false). subst (λ (m : List Float). rising m ≡ true) (sym (from-stop x a b l t)) r)
    (by_cases (lt b x))

from-holds : (x : Float) (l : List Float) (p : Float) → holds (from x l) p ≡ true → holds l p ≡ true
unfolding from holds
from-holds x [] p h = h
from-holds x (a ∷ []) p h = h
from-holds x (a ∷ b ∷ l) p h = ⊎_elim
    (λ (t : lt b x ≡ true). or_right (within a b p) (holds l p)
    (from-holds x l p (subst (λ (m : List Float). holds m p ≡ true) (from-skip x a b l t) h)))
    (λ (t : lt b x ≡ false). subst (λ (m : List Float). holds m p ≡ true) (from-stop x a b l t) h)
    (by_cases (lt b x))

-- a point past x stays
from-keeps : (x : Float) (l : List Float) (p : Float) → lt x p ≡ true → holds l p ≡ true → holds (from x l) p ≡ true
unfolding from holds
from-keeps x [] p g h = h
from-keeps x (a ∷ []) p g h = h
from-keeps x (a ∷ b ∷ l) p g h = ⊎_elim
    (λ (t : lt b x ≡ true). subst (λ (m : List Float). holds m p ≡ true) (sym (from-skip x a b l t)) (from-keeps x l p g (⊎_elim
    (λ (w : within a b p ≡ true). absurd (clash (lt p b) (and_right (le a p) (lt p b) w) (lt-asym b p (lt_trans b x p t g))))
    (λ (m : holds l p ≡ true). m)
    (or_cases (within a b p) (holds l p) h))))
    (λ (t : lt b x ≡ false). subst (λ (m : List Float). holds m p ≡ true) (sym (from-stop x a b l t)) h)
    (by_cases (lt b x))

covers-holds : (l : List Float) (lo hi p : Float) → covers l lo hi ≡ true → within lo hi p ≡ true → holds l p ≡ true
unfolding holds
covers-holds [] lo hi p c w = absurd (clash false c refl)
covers-holds (a ∷ []) lo hi p c w = absurd (clash false c refl)
covers-holds (a ∷ b ∷ l) lo hi p c w =
    or_left (within a b p) (holds l p)
    (both (le a p) (lt p b) (le_trans a lo p (and_left (le a lo) (le hi b) c) (and_left (le lo p) (lt p hi) w))
    (lt-le-trans p hi b (and_right (le lo p) (lt p hi) w) (and_right (le a lo) (le hi b) c)))

-- ---- contained lists have their points in the outer one
pub contained-points : (outer inner : List Float) → contained outer inner ≡ true → (p : Float) → holds inner p ≡ true → holds outer p ≡ true
unfolding contained holds
contained-points outer [] c p h = absurd (clash false h refl)
contained-points outer (lo ∷ []) c p h = absurd (clash false h refl)
contained-points outer (lo ∷ hi ∷ inner) c p h = from-holds hi outer p (⊎_elim
    (λ (w : within lo hi p ≡ true). covers-holds (from hi outer) lo hi p
    (and_left (covers (from hi outer) lo hi) (contained (from hi outer) inner) c) w)
    (λ (m : holds inner p ≡ true). contained-points (from hi outer) inner
    (and_right (covers (from hi outer) lo hi) (contained (from hi outer) inner) c) p m)
    (or_cases (within lo hi p) (holds inner p) h))

-- ---- and the other way
covered : (l : List Float) (lo hi : Float) → rising l ≡ true → lt lo hi ≡ true
    → ((p : Float) → within lo hi p ≡ true → holds l p ≡ true) → covers (from hi l) lo hi ≡ true
unfolding holds from
covered [] lo hi r lh all = absurd (clash false (all lo (both (le lo lo) (lt lo hi) (le_refl lo (lt-number lo hi lh).0) lh)) refl)
covered (a ∷ []) lo hi r lh all = absurd (clash false (all lo (both (le lo lo) (lt lo hi) (le_refl lo (lt-number lo hi lh).0) lh)) refl)
covered (a ∷ b ∷ l) lo hi r lh all = ⊎_elim
    (λ (t : lt b hi ≡ true). subst (λ (m : List Float). covers m lo hi ≡ true) (sym (from-skip hi a b l t))
    (covered l lo hi (rising-tail b l (rising-tail a (b ∷ l) r)) lh (later t)))
    (λ (t : lt b hi ≡ false). subst (λ (m : List Float). covers m lo hi ≡ true) (sym (from-stop hi a b l t)) (here t))
    (by_cases (lt b hi))
  where
    ab : lt a b ≡ true
    ab = rising-first a b l r

    -- no pair holds its own upper end
    gap : holds (a ∷ b ∷ l) b ≡ true → ⊥
    gap h = ⊎_elim
        (λ (w : within a b b ≡ true). clash (lt b b) (and_right (le a b) (lt b b) w) (lt_irrefl b))
        (λ (m : holds l b ≡ true). clash (lt b b) (past_first b l b (rising-tail a (b ∷ l) r) m) (lt_irrefl b))
        (or_cases (within a b b) (holds l b) h)

    -- where the first pair ends below hi, it ends at lo or before
    before : lt b hi ≡ true → le b lo ≡ true
    before t = not-lt→le lo b (lt-number lo hi lh).0 (lt-number a b ab).1 (⊎_elim
        (λ (u : lt lo b ≡ true). absurd (gap (all b (both (le lo b) (lt b hi) (lt→le lo b u) t))))
        (λ (u : lt lo b ≡ false). u)
        (by_cases (lt lo b)))

    later : lt b hi ≡ true → (p : Float) → within lo hi p ≡ true → holds l p ≡ true
    later t p w = ⊎_elim
        (λ (v : within a b p ≡ true). absurd
        (clash (lt p b) (and_right (le a p) (lt p b) v)
        (le→not-lt b p (le_trans b lo p (before t) (and_left (le lo p) (lt p hi) w)))))
        (λ (m : holds l p ≡ true). m)
        (or_cases (within a b p) (holds l p) (all p w))

    here : lt b hi ≡ false → covers (a ∷ b ∷ l) lo hi ≡ true
    here t =
        let hb : le hi b ≡ true = not-lt→le b hi (lt-number a b ab).1 (lt-number lo hi lh).1 t in
        both (le a lo) (le hi b) (⊎_elim
        (λ (w : within a b lo ≡ true). and_left (le a lo) (lt lo b) w)
        (λ (m : holds l lo ≡ true). absurd
        (clash (lt lo b) (lt-le-trans lo hi b lh hb) (lt-asym b lo (past_first b l lo (rising-tail a (b ∷ l) r) m))))
        (or_cases (within a b lo) (holds l lo) (all lo (both (le lo lo) (lt lo hi) (le_refl lo (lt-number lo hi lh).0) lh)))) hb

pub points-contained : (outer inner : List Float) → rising outer ≡ true → rising inner ≡ true
    → ((p : Float) → holds inner p ≡ true → holds outer p ≡ true) → contained outer inner ≡ true
unfolding contained holds
points-contained outer [] ro ri all = refl
points-contained outer (lo ∷ []) ro ri all = refl
points-contained outer (lo ∷ hi ∷ inner) ro ri all =
    both (covers (from hi outer) lo hi) (contained (from hi outer) inner)
    (covered outer lo hi ro (rising-first lo hi inner ri) (λ p w. all p (or_left (within lo hi p) (holds inner p) w)))
    (points-contained (from hi outer) inner (from-rises hi outer ro) (rising-tail hi inner (rising-tail lo (hi ∷ inner) ri))
    (λ p m. from-keeps hi outer p (past_first hi inner p (rising-tail lo (hi ∷ inner) ri) m)
    (all p (or_right (within lo hi p) (holds inner p) m))))

-- ---- the test of a ray
module _ (lo hi : Float) (possible certain : List Float) where
  pub valid-ray : valid lo hi possible certain ≡ true → ValidRay lo hi possible certain
  unfolding valid
  valid-ray v =
      let v₁ = and_right (sound possible) _ v in
      let v₂ = and_right (sound certain) _ v₁ in
      let v₃ = and_right (bounded lo hi possible) _ v₂ in
      record {
        possible_sound = and_left (sound possible) _ v;
        certain_sound = and_left (sound certain) _ v₁;
        possible_bounded = and_left (bounded lo hi possible) _ v₂;
        certain_bounded = and_left (bounded lo hi certain) _ v₃;
        inside = contained-points possible certain (and_right (bounded lo hi certain) _ v₃);
      }

  pub ray-valid : ValidRay lo hi possible certain → valid lo hi possible certain ≡ true
  unfolding valid
  ray-valid r =
      both (sound possible) _ r.possible_sound
      (both (sound certain) _ r.certain_sound
      (both (bounded lo hi possible) _ r.possible_bounded
      (both (bounded lo hi certain) _ r.certain_bounded
      (points-contained possible certain (sound-rising possible r.possible_sound)
      (sound-rising certain r.certain_sound) r.inside))))
