-- A sound list less arbitrary pairs has a sound list: so each set that a log leaves has one, and the model's interval count exists.
use mathlib.Core.Path.{◌≡◌, refl, sym, ap, ◌∙◌}
use mathlib.Core.Bool.{Bool, true, false, cond, not, ◌&&◌, ◌||◌, true≢false, false≢true}
use mathlib.Core.List.{List, [], ◌∷◌}
use mathlib.Core.Logic.{inl, inr}
use lib.ListN.{length}
use lib.Ieee.{Float, lt, le}
use Rattle.doubles.specs.Doubles.{Number}
use Rattle.logic.proofs.Bools.{or_cases, or_left, or_right, and_left, and_right, both, and-true, by_cases, clash, same_if, and-not-or}
use Rattle.doubles.proofs.Order.{lt-number, le-number, le_refl, le_trans, lt→le, not-lt→le, le_lt_trans, lt-le-trans, lt→not-le, le→not-lt}
use Rattle.spans.specs.Spans.{within, holds, rising, ListOf}
use Rattle.spans.proofs.Ends.{odd_n, Above, not-not, above-less, rising-tail, rising-above, rising-cons}
use Rattle.spans.proofs.Sets.{sound-rising, sound-even, make-sound, mod-odd_n}
use Rattle.spans.proofs.Points.{empty-pair}

-- the pair [x, y) in front of a list, where x < y
unfoldable pub piece : Float → Float → List Float → List Float
piece x y l = cond (lt x y) (x ∷ y ∷ l) l

unfoldable pub lower : Float → Float → Float
lower x y = cond (lt y x) y x

unfoldable pub higher : Float → Float → Float
higher x y = cond (lt x y) y x

-- l less the pair [lo, hi)
unfoldable pub less_pair : Float → Float → List Float → List Float
unfolding piece lower higher
less_pair lo hi [] = []
less_pair lo hi (a ∷ []) = []
less_pair lo hi (a ∷ b ∷ l) = piece a (lower b lo) (piece (higher a hi) b (less_pair lo hi l))

-- l less arbitrary pairs
unfoldable pub less : List Float → List Float → List Float
unfolding less_pair
less l [] = l
less l (lo ∷ []) = l
less l (lo ∷ hi ∷ hits) = less (cond (lt lo hi) (less_pair lo hi l) l) hits

-- ---- the lower and the higher of two numbers

module _ (x y : Float) (nx : Number x) (ny : Number y) where
  lower-left : le (lower x y) x ≡ true
  unfolding lower
  lower-left = go (lt y x) refl
    where
      go : (b : Bool) → lt y x ≡ b → le (cond b y x) x ≡ true
      go true h = lt→le y x h
      go false h = le_refl x nx

  lower-right : le (lower x y) y ≡ true
  unfolding lower
  lower-right = go (lt y x) refl
    where
      go : (b : Bool) → lt y x ≡ b → le (cond b y x) y ≡ true
      go true h = le_refl y ny
      go false h = not-lt→le y x ny nx h

  higher-left : le x (higher x y) ≡ true
  unfolding higher
  higher-left = go (lt x y) refl
    where
      go : (b : Bool) → lt x y ≡ b → le x (cond b y x) ≡ true
      go true h = lt→le x y h
      go false h = le_refl x nx

  higher-right : le y (higher x y) ≡ true
  unfolding higher
  higher-right = go (lt x y) refl
    where
      go : (b : Bool) → lt x y ≡ b → le y (cond b y x) ≡ true
      go true h = le_refl y ny
      go false h = not-lt→le x y nx ny h

below-lower : (x y p : Float) → lt p x ≡ true → lt p y ≡ true → lt p (lower x y) ≡ true
unfolding lower
below-lower x y p s t = go (lt y x)
  where
    go : (b : Bool) → lt p (cond b y x) ≡ true
    go true = t
    go false = s

above-higher : (x y p : Float) → le x p ≡ true → le y p ≡ true → le (higher x y) p ≡ true
unfolding higher
above-higher x y p s t = go (lt x y)
  where
    go : (b : Bool) → le (cond b y x) p ≡ true
    go true = t
    go false = s

-- ---- a piece

module _ (x y : Float) (l : List Float) where
  piece-holds : (p : Float) → holds (piece x y l) p ≡ (within x y p || holds l p)
  unfolding piece holds
  piece-holds p = go (lt x y) refl
    where
      go : (b : Bool) → lt x y ≡ b → holds (cond b (x ∷ y ∷ l) l) p ≡ (within x y p || holds l p)
      go true h = refl
      go false h = sym (ap (λ (b : Bool). b || holds l p) (empty-pair x y p h))

  piece-above : (z : Float) → lt z x ≡ true → Above z l → Above z (piece x y l)
  unfolding piece
  piece-above z a b = go (lt x y) refl
    where
      go : (c : Bool) → lt x y ≡ c → Above z (cond c (x ∷ y ∷ l) l)
      go true h = (a, (lt-le-trans z x y a (lt→le x y h), b))
      go false h = b

  piece-rising : Above y l → rising l ≡ true → rising (piece x y l) ≡ true
  unfolding piece
  piece-rising a r = go (lt x y) refl
    where
      go : (c : Bool) → lt x y ≡ c → rising (cond c (x ∷ y ∷ l) l) ≡ true
      go true h = rising-cons x (y ∷ l) (h, above-less x y (lt→le x y h) l a) (rising-cons y l a r)
      go false h = r

  piece-even : odd_n (length (piece x y l)) ≡ odd_n (length l)
  unfolding piece
  piece-even = go (lt x y)
    where
      go : (c : Bool) → odd_n (length (cond c (x ∷ y ∷ l) l)) ≡ odd_n (length l)
      go true = not-not (odd_n (length l))
      go false = refl

-- ---- a list less a pair with lo < hi

module _ (lo hi : Float) (proper : lt lo hi ≡ true) where
  pair-above : (z : Float) (l : List Float) → rising l ≡ true → Above z l → Above z (less_pair lo hi l)
  unfolding less_pair
  pair-above z [] r b = tt
  pair-above z (a ∷ []) r b = tt
  pair-above z (a ∷ c ∷ l) r b =
      let n = lt-number a c (rising-above a (c ∷ l) r).0 in
      piece-above a (lower c lo) (piece (higher a hi) c (less_pair lo hi l)) z b.0
      (piece-above (higher a hi) c (less_pair lo hi l) z
      (lt-le-trans z a (higher a hi) b.0 (higher-left a hi n.0 (lt-number lo hi proper).1))
      (pair-above z l (rising-tail c l (rising-tail a (c ∷ l) r)) b.1.1))

  pair-rising : (l : List Float) → rising l ≡ true → rising (less_pair lo hi l) ≡ true
  unfolding less_pair
  pair-rising [] r = r
  pair-rising (a ∷ []) r = rising-tail a [] r
  pair-rising (a ∷ c ∷ l) r =
      let n = lt-number a c (rising-above a (c ∷ l) r).0 in
      let h = lt-number lo hi proper in
      let up = rising-tail a (c ∷ l) r in
      let above : Above c (less_pair lo hi l) = pair-above c l (rising-tail c l up) (rising-above c l up) in
      piece-rising a (lower c lo) (piece (higher a hi) c (less_pair lo hi l))
      (piece-above (higher a hi) c (less_pair lo hi l) (lower c lo)
      (lt-le-trans (lower c lo) hi (higher a hi)
      (le_lt_trans (lower c lo) lo hi (lower-right c lo n.1 h.0) proper) (higher-right a hi n.0 h.1))
      (above-less (lower c lo) c (lower-left c lo n.1 h.0) (less_pair lo hi l) above))
      (piece-rising (higher a hi) c (less_pair lo hi l) above (pair-rising l (rising-tail c l up)))

  pair-even : (l : List Float) → odd_n (length l) ≡ false → odd_n (length (less_pair lo hi l)) ≡ false
  unfolding less_pair
  pair-even [] e = e
  pair-even (a ∷ []) e = absurd (true≢false e)
  pair-even (a ∷ c ∷ l) e =
      piece-even a (lower c lo) (piece (higher a hi) c (less_pair lo hi l)) ∙ piece-even (higher a hi) c (less_pair lo hi l)
      ∙ pair-even l (sym (not-not (odd_n (length l))) ∙ e)

  -- one pair [a, c) less [lo, hi)
  split : (a c p : Float) → lt a c ≡ true → (within a (lower c lo) p || within (higher a hi) c p) ≡ (within a c p && not (within lo hi p))
  split a c p ac = same_if (within a (lower c lo) p || within (higher a hi) c p) (within a c p && not (within lo hi p)) to from
    where
      low : within a (lower c lo) p ≡ true → (within a c p && not (within lo hi p)) ≡ true
      low u =
          let top = and_right (le a p) (lt p (lower c lo)) u in
          both (within a c p) (not (within lo hi p))
          (both (le a p) (lt p c) (and_left (le a p) (lt p (lower c lo)) u)
          (lt-le-trans p (lower c lo) c top (lower-left c lo (lt-number a c ac).1 (lt-number lo hi proper).0)))
          (ap not (out (lt-le-trans p (lower c lo) lo top (lower-right c lo (lt-number a c ac).1 (lt-number lo hi proper).0))))
        where
          out : lt p lo ≡ true → within lo hi p ≡ false
          out h = ap (λ (b : Bool). b && lt p hi) (lt→not-le p lo h)

      high : within (higher a hi) c p ≡ true → (within a c p && not (within lo hi p)) ≡ true
      high u =
          let bottom = and_left (le (higher a hi) p) (lt p c) u in
          both (within a c p) (not (within lo hi p))
          (both (le a p) (lt p c) (le_trans a (higher a hi) p
          (higher-left a hi (lt-number a c ac).0 (lt-number lo hi proper).1) bottom)
          (and_right (le (higher a hi) p) (lt p c) u))
          (ap not (out (le_trans hi (higher a hi) p (higher-right a hi (lt-number a c ac).0 (lt-number lo hi proper).1) bottom)))
        where
          out : le hi p ≡ true → within lo hi p ≡ false
          out h = elim (by_cases (within lo hi p))
              [ inl v ↦ absurd (clash (lt p hi) (and_right (le lo p) (lt p hi) v) (le→not-lt hi p h)) | inr v ↦ v ]

      to : (within a (lower c lo) p || within (higher a hi) c p) ≡ true → (within a c p && not (within lo hi p)) ≡ true
      to t = elim (or_cases (within a (lower c lo) p) (within (higher a hi) c p) t) [ inl u ↦ low u | inr u ↦ high u ]

      from : (within a c p && not (within lo hi p)) ≡ true → (within a (lower c lo) p || within (higher a hi) c p) ≡ true
      from t =
          let u = and_left (within a c p) (not (within lo hi p)) t in
          let ap₁ = and_left (le a p) (lt p c) u in
          let pc = and_right (le a p) (lt p c) u in
          let np = (le-number a p ap₁).1 in
          elim (by_cases (lt p lo)) [
            | inl v ↦ or_left (within a (lower c lo) p) (within (higher a hi) c p)
                (both (le a p) (lt p (lower c lo)) ap₁ (below-lower c lo p pc v))
            | inr v ↦
                or_right (within a (lower c lo) p) (within (higher a hi) c p)
                (both (le (higher a hi) p) (lt p c)
                (above-higher a hi p ap₁
                (not-lt→le p hi np (lt-number lo hi proper).1
                (out (not-lt→le p lo np (lt-number lo hi proper).0 v)
                (and_right (within a c p) (not (within lo hi p)) t))))
                pc)
          ]
        where
          out : le lo p ≡ true → not (within lo hi p) ≡ true → lt p hi ≡ false
          out h k = elim (by_cases (lt p hi)) [ inl v ↦ absurd (false≢true (sym (ap not (both (le lo p) (lt p hi) h v)) ∙ k)) | inr v ↦ v ]

  regroup : (a b x y : Bool) → (a || b) ≡ (x && not y) → (z : Bool) → (a || (b || (z && not y))) ≡ ((x || z) && not y)
  regroup true b true y h z = h
  regroup true b false y h z = absurd (true≢false h)
  regroup false true true y h z = h
  regroup false true false y h z = absurd (true≢false h)
  regroup false false true true h true = refl
  regroup false false true true h false = refl
  regroup false false true false h z = absurd (false≢true h)
  regroup false false false y h z = refl

  pair-holds : (l : List Float) (p : Float) → rising l ≡ true → holds (less_pair lo hi l) p ≡ (holds l p && not (within lo hi p))
  unfolding less_pair holds
  pair-holds [] p r = refl
  pair-holds (a ∷ []) p r = refl
  pair-holds (a ∷ c ∷ l) p r =
      piece-holds a (lower c lo) (piece (higher a hi) c (less_pair lo hi l)) p
      ∙ ap (◌||◌ (within a (lower c lo) p))
      (piece-holds (higher a hi) c (less_pair lo hi l) p
      ∙ ap (◌||◌ (within (higher a hi) c p)) (pair-holds l p (rising-tail c l (rising-tail a (c ∷ l) r))))
      ∙ regroup (within a (lower c lo) p) (within (higher a hi) c p) (within a c p) (within lo hi p)
      (split a c p (rising-above a (c ∷ l) r).0) (holds l p)

  pub pair-list : (s : Float → Bool) (l : List Float) → ListOf s l → ListOf (λ p. s p && not (within lo hi p)) (less_pair lo hi l)
  pair-list s l x =
      let r = sound-rising l x.is_sound in
      record {
        is_sound = make-sound (less_pair lo hi l)
            (mod-odd_n (length (less_pair lo hi l)) (pair-even l (sound-even l x.is_sound))) (pair-rising l r);
        points = λ p. pair-holds l p r ∙ ap (λ (b : Bool). b && not (within lo hi p)) (x.points p);
      }

-- ---- a list less arbitrary pairs

pub same-list : (s t : Float → Bool) (l : List Float) → ((p : Float) → s p ≡ t p) → ListOf s l → ListOf t l
same-list s t l e x = record { is_sound = x.is_sound; points = λ p. x.points p ∙ e p }

-- THE LAW
pub less-list : (s : Float → Bool) (l hits : List Float) → ListOf s l → ListOf (λ p. s p && not (holds hits p)) (less l hits)
unfolding less holds
less-list s l [] x = same-list s (λ p. s p && true) l (λ p. sym (and-true (s p))) x
less-list s l (lo ∷ []) x = same-list s (λ p. s p && true) l (λ p. sym (and-true (s p))) x
less-list s l (lo ∷ hi ∷ hits) x = go (lt lo hi) refl (λ t m. less-list t m hits)
  where
    More : Type 0
    More = (t : Float → Bool) (m : List Float) → ListOf t m → ListOf (λ p. t p && not (holds hits p)) (less m hits)

    go : (b : Bool) → lt lo hi ≡ b → More
        → ListOf (λ p. s p && not (within lo hi p || holds hits p)) (less (cond b (less_pair lo hi l) l) hits)
    go true h more =
        same-list (λ p. (s p && not (within lo hi p)) && not (holds hits p))
        (λ p. s p && not (within lo hi p || holds hits p)) (less (less_pair lo hi l) hits)
        (λ p. and-not-or (s p) (within lo hi p) (holds hits p))
        (more (λ p. s p && not (within lo hi p)) (less_pair lo hi l) (pair-list lo hi h s l x))
    go false h more =
        same-list (λ p. s p && not (holds hits p)) (λ p. s p && not (within lo hi p || holds hits p)) (less l hits)
        (λ p. ap (λ (b : Bool). s p && not (b || holds hits p)) (sym (empty-pair lo hi p h))) (more s l x)
