-- Of the pairs that begin past b: they are some of the pairs, what they hold lies above b, and fewer begin past a point that they hold.
use mathlib.Core.Path.{◌≡◌}
use mathlib.Core.Logic.{inl, inr}
use mathlib.Core.Bool.{true, false, false≢true}
use mathlib.Core.List.{List, [], ◌∷◌}
use Prim.Native.Nat.{◌≤◌, ◌<◌}
use native.Mathlib.Omega.{arith}
use lib.ListN.{length}
use lib.Ieee.{Float, lt, le}
use Rattle.spans.specs.Spans.{within, holds}
use Rattle.logic.proofs.Bools.{and_left, and_right, both, or_cases, or_left, or_right, by_cases, clash}
use Rattle.doubles.proofs.Order.{lt-number, le-number, le→not-lt, not-lt→le, le_trans, le_lt_trans, lt-le-trans}
use Rattle.log_keys.specs.Keys.{pairs_past}

-- a pair that begins at or before b and reaches past it holds what lies between b and its end
pub begun-within : (b lo hi x : Float) → lt lo hi ≡ true → lt b lo ≡ false → within b hi x ≡ true → within lo hi x ≡ true
begun-within b lo hi x rises early w =
    let up = and_left (le b x) (lt x hi) w in
    let start = not-lt→le b lo (le-number b x up).0 (lt-number lo hi rises).0 early in
    both (le lo x) (lt x hi) (le_trans lo b x start up) (and_right (le b x) (lt x hi) w)

-- ---- one pair more, which begins past b or does not
module _ (b lo hi : Float) (l : List Float) where
  pub past_one : lt b lo ≡ true → pairs_past b (lo ∷ hi ∷ l) ≡ lo ∷ hi ∷ pairs_past b l
  unfolding pairs_past
  past_one h = rw h

  pub past-none : lt b lo ≡ false → pairs_past b (lo ∷ hi ∷ l) ≡ pairs_past b l
  unfolding pairs_past
  past-none h = rw h

  pub past_first : (x : Float) → lt b lo ≡ true → within lo hi x ≡ true → holds (pairs_past b (lo ∷ hi ∷ l)) x ≡ true
  unfolding holds
  past_first x h k = rw (past_one h) (or_left (within lo hi x) (holds (pairs_past b l) x) k)

  pub past_more : (x : Float) → holds (pairs_past b l) x ≡ true → holds (pairs_past b (lo ∷ hi ∷ l)) x ≡ true
  unfolding holds
  past_more x k = elim (by_cases (lt b lo)) [
    | inl h ↦ rw (past_one h) (or_right (within lo hi x) (holds (pairs_past b l) x) k)
    | inr h ↦ rw (past-none h) k
  ]

-- ---- the points that they hold
pub past-holds : (b : Float) (l : List Float) (x : Float) → holds (pairs_past b l) x ≡ true → holds l x ≡ true
unfolding pairs_past holds
past-holds b [] x k = k
past-holds b (lo ∷ []) x k = k
past-holds b (lo ∷ hi ∷ l) x k = elim (by_cases (lt b lo)) [
  | inl h ↦ elim (or_cases (within lo hi x) (holds (pairs_past b l) x) (rw h at k)) [
    | inl w ↦ or_left (within lo hi x) (holds l x) w
    | inr w ↦ or_right (within lo hi x) (holds l x) (past-holds b l x w)
  ]
  | inr h ↦ or_right (within lo hi x) (holds l x) (past-holds b l x (rw h at k))
]

pub past-above : (b : Float) (l : List Float) (x : Float) → holds (pairs_past b l) x ≡ true → lt b x ≡ true
unfolding pairs_past holds
past-above b [] x k = absurd (false≢true k)
past-above b (lo ∷ []) x k = absurd (false≢true k)
past-above b (lo ∷ hi ∷ l) x k = elim (by_cases (lt b lo)) [
  | inl h ↦ elim (or_cases (within lo hi x) (holds (pairs_past b l) x) (rw h at k)) [
    | inl w ↦ lt-le-trans b lo x h (and_left (le lo x) (lt x hi) w)
    | inr w ↦ past-above b l x w
  ]
  | inr h ↦ past-above b l x (rw h at k)
]

-- ---- how many there are
module _ (b u : Float) (up : le b u ≡ true) where
  pub past-fewer : (l : List Float) → length (pairs_past u l) ≤ length (pairs_past b l)
  unfolding pairs_past
  past-fewer [] = omega arith
  past-fewer (lo ∷ []) = omega arith
  past-fewer (lo ∷ hi ∷ l) = elim (by_cases (lt u lo)) [
    | inl g ↦ rw (g, le_lt_trans b u lo up g) (omega (arith, past-fewer l))
    | inr g ↦ rw g (elim (by_cases (lt b lo)) [
      | inl h ↦ rw h (omega (arith, past-fewer l))
      | inr h ↦ rw h (past-fewer l)
    ])
  ]

  -- the pair that holds u begins past b, but not past u
  pub past-falls : (l : List Float) → holds (pairs_past b l) u ≡ true → length (pairs_past u l) < length (pairs_past b l)
  unfolding pairs_past holds
  past-falls [] k = absurd (false≢true k)
  past-falls (lo ∷ []) k = absurd (false≢true k)
  past-falls (lo ∷ hi ∷ l) k = elim (by_cases (lt b lo)) [
    | inl h ↦ rw h (elim (or_cases (within lo hi u) (holds (pairs_past b l) u) (rw h at k)) [
      | inl w ↦ rw (le→not-lt lo u (and_left (le lo u) (lt u hi) w)) (omega (arith, past-fewer l))
      | inr w ↦ elim (by_cases (lt u lo)) [
        | inl g ↦ rw g (omega (arith, past-falls l w))
        | inr g ↦ rw g (omega (arith, past-falls l w))
      ]
    ])
    | inr h ↦ elim (by_cases (lt u lo)) [
      | inl g ↦ absurd (clash (lt b lo) (le_lt_trans b u lo up g) h)
      | inr g ↦ rw (g, h) (past-falls l (rw h at k))
    ]
  ]
