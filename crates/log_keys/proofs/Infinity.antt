-- Plus and minus infinity, between which all points lie.
use mathlib.Core.Path.{◌≡◌, refl}
use mathlib.Core.Bool.{true, false, false≢true}
use mathlib.Core.List.{List, [], ◌∷◌}
use mathlib.Core.Logic.{inl, inr}
use lib.Ieee.{Float, lt, le, neg, of_bits, is_nan}
use Rattle.doubles.specs.Doubles.{Number}
use Rattle.logic.proofs.Bools.{and_right, or_cases, by_cases, clash}
use Rattle.doubles.proofs.Order.{lt-number, le-bottom, le-top, le→not-lt, lt-le-trans}
use Rattle.spans.specs.Spans.{within, holds}
use Rattle.log_keys.specs.Keys.{top}

pub top-number : Number top
unfolding of_bits is_nan
top-number = refl

pub bottom-number : Number (neg top)
unfolding of_bits neg is_nan
bottom-number = refl

pub none_below : (x : Float) → lt x (neg top) ≡ false
unfolding of_bits neg
none_below x = elim (by_cases (lt x (neg top))) [
  | inl h ↦ absurd (clash (lt x (neg top)) h (le→not-lt (neg top) x (le-bottom x (lt-number x (neg top) h).0)))
  | inr h ↦ h
]

pub bottom-top : le (neg top) top ≡ true
unfolding of_bits neg
bottom-top = le-bottom top top-number

-- what a list holds is below plus infinity
pub held_below : (l : List Float) (x : Float) → holds l x ≡ true → lt x top ≡ true
unfolding of_bits holds
held_below [] x k = absurd (false≢true k)
held_below (lo ∷ []) x k = absurd (false≢true k)
held_below (lo ∷ hi ∷ l) x k = elim (or_cases (within lo hi x) (holds l x) k) [
  | inl w ↦ let h = and_right (le lo x) (lt x hi) w in lt-le-trans x hi top h (le-top hi (lt-number x hi h).1)
  | inr w ↦ held_below l x w
]
