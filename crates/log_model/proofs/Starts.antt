-- The sound list of (l less hits) has one pair for each distinct number among the los of l and the his of the hits
-- that is in l and in no hit. A pair starts where a point is held and nothing just below it is: at a lo of l, or
-- where a hit ends. The los of a sound list are distinct, so counting distinct starts counts its pairs.
use mathlib.Core.Path.{◌≡◌, refl, sym, ap, ap₂, ◌∙◌}
use mathlib.Core.Bool.{Bool, true, false, cond, not, ◌&&◌, ◌||◌, false≢true}
use mathlib.Core.List.{List, [], ◌∷◌, ◌++◌}
use mathlib.Core.Logic.{◌⊎◌, inl, inr}
use Prim.Native.Nat.{ℕ, suc, ◌/◌}
use native.Mathlib.Omega.{arith}
use lib.ListN.{length}
use lib.Ieee.{Float, lt, le, eq}
use Rattle.doubles.specs.Doubles.{Number}
use Rattle.logic.proofs.Bools.{or_cases, or_left, or_right, and_left, and_right, both, by_cases, clash, not-true}
use Rattle.doubles.proofs.Order.{lt-number, le_refl, le_trans, le_total, lt→le, not-lt→le, not-le→lt, lt-le-trans}
use Rattle.doubles.proofs.Order.{lt→not-le, le→not-lt, lt_trans, eq→le, eq→ge, eq_refl, eq-sym, eq_trans, le-cases}
use Rattle.spans.specs.Spans.{within, holds, rising, sound, ListOf}
use Rattle.spans.proofs.Ends.{All, Above, all_map, rising-tail, rising-above, rising-cons}
use Rattle.spans.proofs.Sets.{one-point, sound-rising}
use Rattle.spans.proofs.Points.{held_number, empty-pair}
use Rattle.log_model.specs.Counts.{los_of, his_of, member_eq, count_distinct, starts_left}

-- ---- counting distinct numbers

-- equal numbers stand in the same lists
pub member-eq : (x y : Float) (l : List Float) → eq x y ≡ true → member_eq x l ≡ true → member_eq y l ≡ true
unfolding member_eq
member-eq x y [] e h = h
member-eq x y (z ∷ l) e h = elim (or_cases (eq x z) (member_eq x l) h) [
  | inl u ↦ or_left (eq y z) (member_eq y l) (eq_trans y x z (eq-sym x y e) u)
  | inr u ↦ or_right (eq y z) (member_eq y l) (member-eq x y l e u)
]

-- the list without the numbers that are equal to x
pub remove : Float → List Float → List Float
remove x [] = []
remove x (y ∷ l) = cond (eq x y) (remove x l) (y ∷ remove x l)

remove-none : (x : Float) (l : List Float) → member_eq x l ≡ false → remove x l ≡ l
unfolding remove member_eq
remove-none x [] h = refl
remove-none x (y ∷ l) h = go (eq x y) refl (remove-none x l)
  where
    go : (b : Bool) → eq x y ≡ b → (member_eq x l ≡ false → remove x l ≡ l) → cond b (remove x l) (y ∷ remove x l) ≡ y ∷ l
    go true e f = absurd (clash (eq x y || member_eq x l) (or_left (eq x y) (member_eq x l) e) h)
    go false e f = ap (λ (m : List Float). y ∷ m) (f (sym (ap (λ (b : Bool). b || member_eq x l) e) ∙ h))

pub removed : (x : Float) (l : List Float) → member_eq x (remove x l) ≡ false
unfolding remove member_eq
removed x [] = refl
removed x (y ∷ l) = go (eq x y) refl (removed x l)
  where
    go : (b : Bool) → eq x y ≡ b → member_eq x (remove x l) ≡ false → member_eq x (cond b (remove x l) (y ∷ remove x l)) ≡ false
    go true e f = f
    go false e f = rw e f

pub remove-other : (x z : Float) (l : List Float) → eq z x ≡ false → member_eq z (remove x l) ≡ member_eq z l
unfolding remove member_eq
remove-other x z [] n = refl
remove-other x z (y ∷ l) n = go (eq x y) refl (remove-other x z l n)
  where
    apart : eq x y ≡ true → eq z y ≡ false
    apart e = elim (by_cases (eq z y)) [ inl u ↦ absurd (clash (eq z x) (eq_trans z y x u (eq-sym x y e)) n) | inr u ↦ u ]

    go : (b : Bool) → eq x y ≡ b → member_eq z (remove x l) ≡ member_eq z l
        → member_eq z (cond b (remove x l) (y ∷ remove x l)) ≡ (eq z y || member_eq z l)
    go true e f = f ∙ ap (λ (b : Bool). b || member_eq z l) (sym (apart e))
    go false e f = ap (◌||◌ (eq z y)) f

module _ (test : Float → Bool) (number : (x : Float) → test x ≡ true → Number x) (same : (x y : Float) → eq x y ≡ true
    → test x ≡ test y) where
  pub distinct_remove : (x : Float) (l : List Float) → test x ≡ true → member_eq x l ≡ true
      → count_distinct test l ≡ suc (count_distinct test (remove x l))
  unfolding remove member_eq count_distinct
  distinct_remove x [] t h = absurd (false≢true h)
  distinct_remove x (y ∷ l) t h = go (eq x y) refl (distinct_remove x l t)
    where
      none : member_eq y l ≡ false → eq x y ≡ true → member_eq x l ≡ false
      none a e = elim (by_cases (member_eq x l)) [ inl u ↦ absurd (clash (member_eq y l) (member-eq x y l e u) a) | inr u ↦ u ]

      here : (b : Bool) → member_eq y l ≡ b → eq x y ≡ true
          → (member_eq x l ≡ true → count_distinct test l ≡ suc (count_distinct test (remove x l)))
          → cond (test y && not b) (suc (count_distinct test l)) (count_distinct test l) ≡ suc (count_distinct test (remove x l))
      here true a e f = ap (λ (c : Bool). cond (c && false) (suc (count_distinct test l)) (count_distinct test l))
          (sym (same x y e) ∙ t) ∙ f (member-eq y x l (eq-sym x y e) a)
      here false a e f =
          ap (λ (c : Bool). cond (c && true) (suc (count_distinct test l)) (count_distinct test l)) (sym (same x y e) ∙ t)
          ∙ ap (λ (m : List Float). suc (count_distinct test m)) (sym (remove-none x l (none a e)))

      one_more : (b : Bool) (n m : ℕ) → n ≡ suc m → cond b (suc n) n ≡ suc (cond b (suc m) m)
      one_more true n m e = ap suc e
      one_more false n m e = e

      swapped : eq x y ≡ false → eq y x ≡ false
      swapped e = elim (by_cases (eq y x)) [ inl u ↦ absurd (clash (eq x y) (eq-sym y x u) e) | inr u ↦ u ]

      go : (b : Bool) → eq x y ≡ b → (member_eq x l ≡ true → count_distinct test l ≡ suc (count_distinct test (remove x l)))
          → cond (test y && not (member_eq y l)) (suc (count_distinct test l)) (count_distinct test l)
          ≡ suc (count_distinct test (cond b (remove x l) (y ∷ remove x l)))
      go true e f = here (member_eq y l) refl e f
      go false e f =
          one_more (test y && not (member_eq y l)) (count_distinct test l) (count_distinct test (remove x l))
          (f (sym (ap (λ (b : Bool). b || member_eq x l) e) ∙ h))
          ∙ ap (λ (b : Bool). suc (cond (test y && not b) (suc (count_distinct test (remove x l)))
          (count_distinct test (remove x l)))) (sym (remove-other x y l (swapped e)))

  pub none_left : (l : List Float) → ((z : Float) → member_eq z l ≡ true → test z ≡ true → ⊥) → count_distinct test l ≡ 0
  unfolding member_eq count_distinct
  none_left [] f = refl
  none_left (y ∷ l) f = elim (by_cases (test y)) [
    | inl t ↦ absurd (f y (or_left (eq y y) (member_eq y l) (eq_refl y (number y t))) t)
    | inr t ↦ rw t (none_left l (λ z a. f z (or_right (eq z y) (member_eq z l) a)))
  ]

  -- a rising list with the same numbers that pass the test has as many as there are distinct ones
  distinct-count : (a l : List Float) → rising a ≡ true → All (λ x. test x ≡ true) a → All (λ x. member_eq x l ≡ true) a
      → ((z : Float) → member_eq z l ≡ true → test z ≡ true → member_eq z a ≡ true) → count_distinct test l ≡ length a
  unfolding member_eq
  distinct-count [] l r t i f = none_left l (λ z u v. false≢true (f z u v))
  distinct-count (x ∷ a) l r t i f =
      distinct_remove x l t.0 i.0
      ∙ ap suc (distinct-count a (remove x l) (rising-tail x a r) t.1 (still a (rising-above x a r) i.1) back)
    where
      apart : (z : Float) → lt x z ≡ true → eq z x ≡ false
      apart z h = elim (by_cases (eq z x)) [ inl e ↦ absurd (clash (le z x) (eq→le z x e) (lt→not-le x z h)) | inr e ↦ e ]

      still : (b : List Float) → Above x b → All (λ z. member_eq z l ≡ true) b → All (λ z. member_eq z (remove x l) ≡ true) b
      still [] u v = tt
      still (z ∷ b) u v = (remove-other x z l (apart z u.0) ∙ v.0, still b u.1 v.1)

      back : (z : Float) → member_eq z (remove x l) ≡ true → test z ≡ true → member_eq z a ≡ true
      back z u v = elim (by_cases (eq z x)) [
        | inl e ↦ absurd (clash (member_eq x (remove x l)) (member-eq z x (remove x l) e u) (removed x l))
        | inr e ↦ elim (or_cases (eq z x) (member_eq z a) (f z (sym (remove-other x z l e) ∙ u) v)) [
          | inl d ↦ absurd (clash (eq z x) d e)
          | inr d ↦ d
        ]
      ]

-- ---- points of lists

-- of two numbers below a, one is at least both
highest : (x y a : Float) → lt x a ≡ true → lt y a ≡ true → (z : Float) × (le x z ≡ true) × (le y z ≡ true) × (lt z a ≡ true)
highest x y a h k = elim (le_total x y (lt-number x a h).0 (lt-number y a k).0) [
  | inl e ↦ (y, e, le_refl y (lt-number y a k).0, k)
  | inr e ↦ (x, le_refl x (lt-number x a h).0, e, h)
]

-- a rising list holds nothing below its first end
from_first : (x : Float) (l : List Float) (p : Float) → Above x l → holds l p ≡ true → lt x p ≡ true
unfolding holds
from_first x [] p a h = absurd (false≢true h)
from_first x (lo ∷ []) p a h = absurd (false≢true h)
from_first x (lo ∷ hi ∷ l) p a h = elim (or_cases (within lo hi p) (holds l p) h) [
  | inl u ↦ lt-le-trans x lo p a.0 (and_left (le lo p) (lt p hi) u)
  | inr u ↦ from_first x l p a.1.1 u
]

none-up-to : (x : Float) (l : List Float) (p : Float) → Above x l → le p x ≡ true → holds l p ≡ false
none-up-to x l p a h = elim (by_cases (holds l p)) [
  | inl u ↦ absurd (clash (le p x) h (lt→not-le x p (from_first x l p a u)))
  | inr u ↦ u
]

outside : (lo hi p : Float) → le hi p ≡ true → within lo hi p ≡ false
outside lo hi p h = elim (by_cases (within lo hi p))
    [ inl u ↦ absurd (clash (lt p hi) (and_right (le lo p) (lt p hi) u) (le→not-lt hi p h)) | inr u ↦ u ]

under : (lo hi p : Float) → lt p lo ≡ true → within lo hi p ≡ false
under lo hi p h = elim (by_cases (within lo hi p))
    [ inl u ↦ absurd (clash (le lo p) (and_left (le lo p) (lt p hi) u) (lt→not-le p lo h)) | inr u ↦ u ]

rest_of : (lo hi : Float) (l : List Float) (p : Float) → within lo hi p ≡ false → holds (lo ∷ hi ∷ l) p ≡ true → holds l p ≡ true
unfolding holds
rest_of lo hi l p n h = elim (or_cases (within lo hi p) (holds l p) h) [ inl u ↦ absurd (clash (within lo hi p) u n) | inr u ↦ u ]

-- ---- the los of a rising list

above-los : (x : Float) (l : List Float) → Above x l → Above x (los_of l)
unfolding los_of
above-los x [] a = tt
above-los x (lo ∷ []) a = tt
above-los x (lo ∷ hi ∷ l) a = (a.0, above-los x l a.1.1)

los-rising : (l : List Float) → rising l ≡ true → rising (los_of l) ≡ true
unfolding los_of
los-rising [] r = r
los-rising (lo ∷ []) r = rising-tail lo [] r
los-rising (lo ∷ hi ∷ l) r =
    rising-cons lo (los_of l) (above-los lo l (rising-above lo (hi ∷ l) r).1) (los-rising l (rising-tail hi l (rising-tail lo (hi ∷ l) r)))

los-length : (l : List Float) → length (los_of l) ≡ length l / 2
unfolding los_of
los-length [] = refl
los-length (lo ∷ []) = refl
los-length (lo ∷ hi ∷ l) = ap suc (los-length l) ∙ half (length l)
  where
    half : (n : ℕ) → suc (n / 2) ≡ suc (suc n) / 2
    half n = omega arith

los-held : (l : List Float) → rising l ≡ true → All (λ x. holds l x ≡ true) (los_of l)
unfolding los_of holds
los-held [] r = tt
los-held (lo ∷ []) r = tt
los-held (lo ∷ hi ∷ l) r =
    let h : lt lo hi ≡ true = (rising-above lo (hi ∷ l) r).0 in (
      or_left (within lo hi lo) (holds l lo) (both (le lo lo) (lt lo hi) (le_refl lo (lt-number lo hi h).0) h),
      all_map (λ x. holds l x ≡ true) (λ x. (within lo hi x || holds l x) ≡ true) (λ x t. or_right (within lo hi x) (holds l x) t) (los_of l)
          (los-held l (rising-tail hi l (rising-tail lo (hi ∷ l) r))),
    )

-- a held point is a lo, or some of what is just below it is held too
lo-or-inside : (l : List Float) (x : Float) → holds l x ≡ true
    → (member_eq x (los_of l) ≡ true) ⊎ ((a : Float) × (lt a x ≡ true) × ((p : Float) → le a p ≡ true → lt p x ≡ true → holds l p ≡ true))
unfolding holds los_of member_eq
lo-or-inside [] x h = absurd (false≢true h)
lo-or-inside (lo ∷ []) x h = absurd (false≢true h)
lo-or-inside (lo ∷ hi ∷ l) x h = elim (or_cases (within lo hi x) (holds l x) h) [
  | inl u ↦ elim (le-cases lo x (and_left (le lo x) (lt x hi) u)) [
    | inl k ↦ inr (
      lo,
      k,
      λ p a b. or_left (within lo hi p) (holds l p)
          (both (le lo p) (lt p hi) a (lt_trans p x hi b (and_right (le lo x) (lt x hi) u))),
    )
    | inr k ↦ inl (or_left (eq x lo) (member_eq x (los_of l)) (eq-sym lo x k))
  ]
  | inr u ↦ elim (lo-or-inside l x u) [
    | inl k ↦ inl (or_right (eq x lo) (member_eq x (los_of l)) k)
    | inr (a, k, f) ↦ inr (a, k, λ p b c. or_right (within lo hi p) (holds l p) (f p b c))
  ]
]

-- what is just below a lo is not held
start-gap : (l : List Float) → rising l ≡ true → (x a : Float) → member_eq x (los_of l) ≡ true → lt a x ≡ true
    → ((p : Float) → le a p ≡ true → lt p x ≡ true → holds l p ≡ true) → ⊥
unfolding los_of member_eq holds
start-gap [] r x a h k f = false≢true h
start-gap (lo ∷ []) r x a h k f = false≢true h
start-gap (lo ∷ hi ∷ l) r x a h k f = elim (or_cases (eq x lo) (member_eq x (los_of l)) h) [
  | inl e ↦
      let low : lt a lo ≡ true = lt-le-trans a x lo k (eq→le x lo e) in
      clash (le lo a) (first a (f a (le_refl a (lt-number a x k).0) k)) (lt→not-le a lo low)
  | inr i ↦ elim (by_cases (lt a hi)) [
    | inl u ↦
        let hi-up : Above hi l = rising-above hi l (rising-tail lo (hi ∷ l) r) in
        clash (holds l hi)
        (rest_of lo hi l hi (outside lo hi hi (le_refl hi (lt-number a hi u).1)) (f hi (lt→le a hi u) (below x l i hi-up)))
        (none-up-to hi l hi hi-up (le_refl hi (lt-number a hi u).1))
    | inr u ↦
        start-gap l (rising-tail hi l (rising-tail lo (hi ∷ l) r)) x a i k λ p b c.
        rest_of lo hi l p
        (outside lo hi p (le_trans hi a p (not-lt→le a hi (lt-number a x k).0 (lt-number lo hi (rising-above lo (hi ∷ l) r).0).1 u) b))
        (f p b c)
  ]
]
  where
    first : (p : Float) → holds (lo ∷ hi ∷ l) p ≡ true → le lo p ≡ true
    first p t = elim (or_cases (within lo hi p) (holds l p) t) [
      | inl u ↦ and_left (le lo p) (lt p hi) u
      | inr u ↦ lt→le lo p (from_first lo l p (rising-above lo (hi ∷ l) r).1 u)
    ]

    below : (x : Float) (m : List Float) → member_eq x (los_of m) ≡ true → Above hi m → lt hi x ≡ true
    below x [] t a = absurd (false≢true t)
    below x (y ∷ []) t a = absurd (false≢true t)
    below x (y ∷ z ∷ m) t a = elim (or_cases (eq x y) (member_eq x (los_of m)) t) [
      | inl e ↦ lt-le-trans hi y x a.0 (eq→ge x y e)
      | inr i ↦ below x m i a.1.1
    ]

-- some of what is just below the hi of a hit is in the hit
end-gap : (hits : List Float) (x a : Float) → member_eq x (his_of hits) ≡ true → lt a x ≡ true
    → ((p : Float) → le a p ≡ true → lt p x ≡ true → holds hits p ≡ false) → ⊥
unfolding his_of member_eq holds
end-gap [] x a h k f = false≢true h
end-gap (lo ∷ []) x a h k f = false≢true h
end-gap (lo ∷ hi ∷ hits) x a h k f = go (lt lo hi) refl (λ i. end-gap hits x a i k later)
  where
    later : (p : Float) → le a p ≡ true → lt p x ≡ true → holds hits p ≡ false
    later p b c = elim (by_cases (holds hits p)) [
      | inl u ↦ absurd (clash (within lo hi p || holds hits p) (or_right (within lo hi p) (holds hits p) u) (f p b c))
      | inr u ↦ u
    ]

    here : lt lo hi ≡ true → eq x hi ≡ true → ⊥
    here h e =
        let (q, b, c, d) = highest a lo x k (lt-le-trans lo hi x h (eq→ge x hi e)) in
        clash (within lo hi q || holds hits q)
        (or_left (within lo hi q) (holds hits q)
        (both (le lo q) (lt q hi) c (lt-le-trans q x hi d (eq→le x hi e)))) (f q b d)

    go : (b : Bool) → lt lo hi ≡ b → (member_eq x (his_of hits) ≡ true → ⊥) → ⊥
    go true t more = elim (or_cases (eq x hi) (member_eq x (his_of hits)) (rw t at h)) [ inl e ↦ here t e | inr i ↦ more i ]
    go false t more = more (rw t at h)

-- where hits hold all that is just below a, and not a, then a is the hi of one
covered-end : (hits : List Float) (q a : Float) → lt q a ≡ true → ((p : Float) → le q p ≡ true → lt p a ≡ true → holds hits p ≡ true)
    → holds hits a ≡ false → member_eq a (his_of hits) ≡ true
unfolding his_of member_eq holds
covered-end [] q a k f n = absurd (false≢true (f q (le_refl q (lt-number q a k).0) k))
covered-end (lo ∷ []) q a k f n = absurd (false≢true (f q (le_refl q (lt-number q a k).0) k))
covered-end (lo ∷ hi ∷ hits) q a k f n = go (lt lo hi) refl (λ z j g. covered-end hits z a j g not-later)
  where
    Later : Type 0
    Later = (z : Float) → lt z a ≡ true → ((p : Float) → le z p ≡ true → lt p a ≡ true → holds hits p ≡ true)
        → member_eq a (his_of hits) ≡ true

    not-here : within lo hi a ≡ false
    not-here = elim (by_cases (within lo hi a))
        [ inl u ↦ absurd (clash (within lo hi a || holds hits a) (or_left (within lo hi a) (holds hits a) u) n) | inr u ↦ u ]

    not-later : holds hits a ≡ false
    not-later = elim (by_cases (holds hits a))
        [ inl u ↦ absurd (clash (within lo hi a || holds hits a) (or_right (within lo hi a) (holds hits a) u) n) | inr u ↦ u ]

    -- the later hits hold what is just below a, from some q on
    later : Later → (q : Float) → lt q a ≡ true → ((p : Float) → le q p ≡ true → lt p a ≡ true → holds (lo ∷ hi ∷ hits) p ≡ true)
        → ((p : Float) → le q p ≡ true → lt p a ≡ true → within lo hi p ≡ false) → member_eq a (his_of hits) ≡ true
    later more q k f g = more q k (λ p b c. rest_of lo hi hits p (g p b c) (f p b c))

    -- a is no number of the pair, so it is past it or below it
    placed : Later → lt lo hi ≡ true → member_eq a (hi ∷ his_of hits) ≡ true
    placed more h = elim (by_cases (le lo a)) [
      | inr u ↦
          or_right (eq a hi) (member_eq a (his_of hits))
          (later more q k f (λ p b c. under lo hi p (lt_trans p a lo c (not-le→lt lo a (lt-number lo hi h).0 (lt-number q a k).1 u))))
      | inl u ↦
          let past : le hi a ≡ true = not-lt→le a hi (lt-number q a k).1 (lt-number lo hi h).1 (no_lt u) in
          elim (le-cases hi a past) [
            | inl v ↦
                let (z, b, c, d) = highest q hi a k v in
                or_right (eq a hi) (member_eq a (his_of hits))
                (later more z d (λ p x y. f p (le_trans q z p b x) y) (λ p x y. outside lo hi p (le_trans hi z p c x)))
            | inr v ↦ or_left (eq a hi) (member_eq a (his_of hits)) (eq-sym hi a v)
          ]
    ]
      where
        no_lt : le lo a ≡ true → lt a hi ≡ false
        no_lt u = elim (by_cases (lt a hi)) [ inl v ↦ absurd (clash (within lo hi a) (both (le lo a) (lt a hi) u v) not-here) | inr v ↦ v ]

    go : (b : Bool) → lt lo hi ≡ b → Later → member_eq a (cond b (hi ∷ his_of hits) (his_of hits)) ≡ true
    go true h more = placed more h
    go false h more = later more q k f (λ p b c. empty-pair lo hi p h)

-- just below a nothing of m is held
Fresh : List Float → Float → Type 0
Fresh m a = (c : Float) → lt c a ≡ true → (q : Float) × (le c q ≡ true) × (lt q a ≡ true)
    × ((p : Float) → le q p ≡ true → lt p a ≡ true → holds m p ≡ false)

fresh-los : (m : List Float) → rising m ≡ true → All (Fresh m) (los_of m)
unfolding los_of Fresh holds
fresh-los [] r = tt
fresh-los (lo ∷ []) r = tt
fresh-los (lo ∷ hi ∷ m) r = (first, rest (los_of m) (above-los hi m hi-up) (fresh-los m (rising-tail hi m (rising-tail lo (hi ∷ m) r))))
  where
    hi-up : Above hi m
    hi-up = rising-above hi m (rising-tail lo (hi ∷ m) r)

    first : (c : Float) → lt c lo ≡ true → (q : Float) × (le c q ≡ true) × (lt q lo ≡ true)
        × ((p : Float) → le q p ≡ true → lt p lo ≡ true → (within lo hi p || holds m p) ≡ false)
    first c k = (
      c,
      le_refl c (lt-number c lo k).0,
      k,
      λ p a b. rw (under lo hi p b) (none-up-to lo m p (rising-above lo (hi ∷ m) r).1 (lt→le p lo b)),
    )

    rest : (l : List Float) → Above hi l → All (Fresh m) l
        → All (λ a. (c : Float) → lt c a ≡ true → (q : Float) × (le c q ≡ true) × (lt q a ≡ true)
        × ((p : Float) → le q p ≡ true → lt p a ≡ true → (within lo hi p || holds m p) ≡ false)) l
    rest [] u v = tt
    rest (a ∷ l) u v = (one, rest l u.1 v.1)
      where
        one : (c : Float) → lt c a ≡ true → (q : Float) × (le c q ≡ true) × (lt q a ≡ true)
            × ((p : Float) → le q p ≡ true → lt p a ≡ true → (within lo hi p || holds m p) ≡ false)
        one c k =
            let (q, b, d, f) = v.0 c k in
            let (z, e, g, h) = highest q hi a d u.0 in
            (z, le_trans c q z b e, h, λ p x y. rw (outside lo hi p (le_trans hi z p g x)) (f p (le_trans q z p e x) y))

-- ---- THE LAW

member-left : (x : Float) (a b : List Float) → member_eq x a ≡ true → member_eq x (a ++ b) ≡ true
unfolding member_eq
member-left x [] b h = absurd (false≢true h)
member-left x (y ∷ a) b h = elim (or_cases (eq x y) (member_eq x a) h) [
  | inl u ↦ or_left (eq x y) (member_eq x (a ++ b)) u
  | inr u ↦ or_right (eq x y) (member_eq x (a ++ b))
      (member-left x a b u)
]

member_right : (x : Float) (a b : List Float) → member_eq x b ≡ true → member_eq x (a ++ b) ≡ true
unfolding member_eq
member_right x [] b h = h
member_right x (y ∷ a) b h = or_right (eq x y) (member_eq x (a ++ b)) (member_right x a b h)

member-cases : (x : Float) (a b : List Float) → member_eq x (a ++ b) ≡ true → (member_eq x a ≡ true) ⊎ (member_eq x b ≡ true)
unfolding member_eq
member-cases x [] b h = inr h
member-cases x (y ∷ a) b h = elim (or_cases (eq x y) (member_eq x (a ++ b)) h) [
  | inl u ↦ inl (or_left (eq x y) (member_eq x a) u)
  | inr u ↦ elim (member-cases x a b u) [ inl v ↦ inl (or_right (eq x y) (member_eq x a) v) | inr v ↦ inr v ]
]

module _ (l hits m : List Float) (sound-l : sound l ≡ true) (list : ListOf (λ p. holds l p && not (holds hits p)) m) where
  in_list : (p : Float) → holds m p ≡ true → holds l p ≡ true
  in_list p t = and_left (holds l p) (not (holds hits p)) (sym (list.points p) ∙ t)

  in-no-hit : (p : Float) → holds m p ≡ true → holds hits p ≡ false
  in-no-hit p t = not-true (holds hits p) (and_right (holds l p) (not (holds hits p)) (sym (list.points p) ∙ t))

  -- a start that is left is a lo of the new list
  left-start : (x : Float) → member_eq x (los_of l ++ his_of hits) ≡ true → holds m x ≡ true → member_eq x (los_of m) ≡ true
  left-start x h t = elim (lo-or-inside m x t) [
    | inl u ↦ u
    | inr (a, k, f) ↦ elim (member-cases x (los_of l) (his_of hits) h) [
      | inl v ↦ absurd (start-gap l (sound-rising l sound-l) x a v k (λ p b c. in_list p (f p b c)))
      | inr v ↦ absurd (end-gap hits x a v k (λ p b c. in-no-hit p (f p b c)))
    ]
  ]

  -- a lo of the new list is such a start
  is-start : (a : Float) → holds m a ≡ true → Fresh m a → member_eq a (los_of l ++ his_of hits) ≡ true
  unfolding Fresh
  is-start a t g = elim (lo-or-inside l a (in_list a t)) [
    | inl u ↦ member-left a (los_of l) (his_of hits) u
    | inr (c, k, f) ↦
        let (q, b, d, n) = g c k in
        member_right a (los_of l) (his_of hits)
        (covered-end hits q a d (λ p x y. hit p (f p (le_trans c q p b x) y) (n p x y)) (in-no-hit a t))
  ]
    where
      hit : (p : Float) → holds l p ≡ true → holds m p ≡ false → holds hits p ≡ true
      hit p x y = elim (by_cases (holds hits p)) [
        | inl u ↦ u
        | inr u ↦ absurd (clash (holds m p) (list.points p ∙ both (holds l p) (not (holds hits p)) x (ap not u)) y)
      ]

  starts : (b : List Float) → All (λ x. holds m x ≡ true) b → All (Fresh m) b → All (λ x. member_eq x (los_of l ++ his_of hits) ≡ true) b
  starts [] u v = tt
  starts (a ∷ b) u v = (is-start a u.0 v.0, starts b u.1 v.1)

  pub pairs-left : length m / 2 ≡ starts_left l hits
  unfolding starts_left
  pairs-left =
      let r = sound-rising m list.is_sound in
      sym (los-length m)
      ∙ sym (distinct-count (λ x. holds l x && not (holds hits x))
      (λ x t. held_number l x (and_left (holds l x) (not (holds hits x)) t))
      (λ x y e. ap₂ (λ (b c : Bool). b && not c) (one-point l x y e) (one-point hits x y e))
      (los_of m) (los_of l ++ his_of hits) (los-rising m r)
      (all_map (λ x. holds m x ≡ true) (λ x. (holds l x && not (holds hits x)) ≡ true)
      (λ x t. sym (list.points x) ∙ t) (los_of m) (los-held m r))
      (starts (los_of m) (los-held m r) (fresh-los m r))
      (λ z u v. left-start z u (list.points z ∙ v)))
