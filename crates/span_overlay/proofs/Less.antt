-- `less_of` is the sound list of the points of a that are not in b.
use mathlib.Core.Path.{◌≡◌, refl, sym, ◌∙◌, ap, ap₂}
use mathlib.Core.Logic.{inl, inr}
use mathlib.Core.Bool.{Bool, true, false, not, ◌&&◌, ◌||◌, true≢false}
use mathlib.Core.List.{List, [], ◌∷◌, ◌++◌}
use Prim.Native.Nat.{◌%◌}
use native.Mathlib.Omega.{arith}
use lib.ListN.{length, length-append}
use lib.Ieee.{Float, lt, le}
use Rattle.spans.specs.Spans.{within, holds, rising, sound, equal, less, ListOf, Apart, pair_if}
use Rattle.spans.specs.Overlay.{higher_of, lower_of, cut_by, less_of}
use Rattle.doubles.specs.Doubles.{Number}
use Rattle.logic.proofs.Bools.{or_left, or_right, or-neither, and_left, and_right, and-true, both, by_cases, clash}
use Rattle.doubles.proofs.Order.{lt-number, le-number, lt→le, lt→not-le, le→not-lt, not-lt→le, le_refl, le_trans, le_lt_trans}
use Rattle.doubles.proofs.Order.{lt_trans, lt-le-trans}
use Rattle.spans.proofs.Ends.{not-not, odd_n, All, all_append, all_map, Over, AtMost, Above, above-less, rising-tail, rising-above}
use Rattle.spans.proofs.Ends.{rising-append}
use Rattle.spans.proofs.Sets.{odd_n-mod, equal-holds, sound-rising, sound-even, make-sound}
use Rattle.spans.proofs.Points.{or-false, holds-append, holds-above, empty-pair, numbers_of}

-- ---- the higher and the lower of two ends
pub higher-first : (x y : Float) → Number x → le x (higher_of x y) ≡ true
higher-first x y n = elim (by_cases (lt x y)) [ inl h ↦ rw h (lt→le x y h) | inr h ↦ rw h (le_refl x n) ]

pub higher-second : (x y : Float) → Number x → Number y → le y (higher_of x y) ≡ true
higher-second x y n m = elim (by_cases (lt x y)) [ inl h ↦ rw h (le_refl y m) | inr h ↦ rw h (not-lt→le x y n m h) ]

pub higher-both : (P : Float → Type 0) (x y : Float) → P x → P y → P (higher_of x y)
higher-both P x y h k = elim (by_cases (lt x y)) [ inl t ↦ rw t k | inr t ↦ rw t h ]

pub lower-first : (x y : Float) → Number x → le (lower_of x y) x ≡ true
lower-first x y n = elim (by_cases (lt y x)) [ inl h ↦ rw h (lt→le y x h) | inr h ↦ rw h (le_refl x n) ]

pub lower-second : (x y : Float) → Number x → Number y → le (lower_of x y) y ≡ true
lower-second x y n m = elim (by_cases (lt y x)) [ inl h ↦ rw h (le_refl y m) | inr h ↦ rw h (not-lt→le y x m n h) ]

pub lower-both : (P : Float → Type 0) (x y : Float) → P x → P y → P (lower_of x y)
lower-both P x y h k = elim (by_cases (lt y x)) [ inl t ↦ rw t k | inr t ↦ rw t h ]

-- ---- a pair, or none
pub pair-all : (P : Float → Type 0) (lo hi : Float) → (lt lo hi ≡ true → P lo × P hi) → All P (pair_if lo hi)
pair-all P lo hi h = elim (by_cases (lt lo hi)) [ inl t ↦ rw t ((h t).0, ((h t).1, tt)) | inr t ↦ rw t tt ]

pub pair-even : (lo hi : Float) → length (pair_if lo hi) % 2 ≡ 0
pair-even lo hi = elim (by_cases (lt lo hi)) [ inl t ↦ rw t (omega arith) | inr t ↦ rw t (omega arith) ]

pub pair-rising : (lo hi : Float) → rising (pair_if lo hi) ≡ true
unfolding rising
pair-rising lo hi = elim (by_cases (lt lo hi)) [ inl t ↦ rw (t, t) refl | inr t ↦ rw t refl ]

pub pair-holds : (lo hi p : Float) → holds (pair_if lo hi) p ≡ within lo hi p
unfolding holds
pair-holds lo hi p = elim (by_cases (lt lo hi)) [ inl t ↦ rw t (or-false (within lo hi p)) | inr t ↦ rw t (sym (empty-pair lo hi p t)) ]

pub pair-none : (lo hi : Float) → lt lo hi ≡ false → pair_if lo hi ≡ []
pair-none lo hi h = rw h refl

-- in one of two pairs and in c
pub either : (u v c : Bool) → ((u && c) || (v && c)) ≡ ((u || v) && c)
either true true true = refl
either true true false = refl
either true false c = or-false c
either false v c = refl

-- ---- one pair less a list
module _ (hi : Float) (nh : Number hi) where
  -- nothing is left of a pair that ends at or below its start
  pub cut-none : (lo : Float) (b : List Float) → Number lo → All Number b → le hi lo ≡ true → cut_by lo hi b ≡ []
  unfolding cut_by
  cut-none lo [] nl nb h = pair-none lo hi (le→not-lt hi lo h)
  cut-none lo (x ∷ []) nl nb h = pair-none lo hi (le→not-lt hi lo h)
  cut-none lo (x ∷ y ∷ b) nl nb h =
      ap₂ ◌++◌ (pair-none lo (lower_of hi x) (le→not-lt (lower_of hi x) lo (le_trans (lower_of hi x) hi lo (lower-first hi x nh) h)))
      (cut-none (higher_of lo y) b (higher-both Number lo y nl nb.1.0) nb.1.1
      (le_trans hi lo (higher_of lo y) h (higher-first lo y nl)))

  -- a pair of the list that ends at or below the start takes nothing
  pub cut-skip : (lo x y : Float) (b : List Float) → le x lo ≡ true → le y lo ≡ true → cut_by lo hi (x ∷ y ∷ b) ≡ cut_by lo hi b
  unfolding cut_by
  cut-skip lo x y b h k =
      ap₂ ◌++◌ (pair-none lo (lower_of hi x) low) (ap (λ (l : Float). cut_by l hi b) (rw (le→not-lt y lo k) refl))
    where
      low : lt lo (lower_of hi x) ≡ false
      low = elim (by_cases (lt x hi)) [
        | inl t ↦ rw t (le→not-lt x lo h)
        | inr t ↦ rw t (le→not-lt hi lo (le_trans hi x lo (not-lt→le x hi (le-number x lo h).0 nh t) h))
      ]

  pub cut-even : (lo : Float) (b : List Float) → length (cut_by lo hi b) % 2 ≡ 0
  unfolding cut_by
  cut-even lo [] = pair-even lo hi
  cut-even lo (x ∷ []) = pair-even lo hi
  cut-even lo (x ∷ y ∷ b) =
      omega (
        arith,
        length-append (pair_if lo (lower_of hi x)) (cut_by (higher_of lo y) hi b),
        pair-even lo (lower_of hi x),
        cut-even (higher_of lo y) b,
      )

  -- its ends lie above whatever lies below the start, and up to hi
  pub cut-over : (z lo : Float) (b : List Float) → Number lo → All Number b → lt z lo ≡ true → Above z (cut_by lo hi b)
  unfolding cut_by
  cut-over z lo [] nl nb h = pair-all (Over z) lo hi (λ t. (h, lt_trans z lo hi h t))
  cut-over z lo (x ∷ []) nl nb h = pair-all (Over z) lo hi (λ t. (h, lt_trans z lo hi h t))
  cut-over z lo (x ∷ y ∷ b) nl nb h =
      all_append (Over z) (pair_if lo (lower_of hi x)) (cut_by (higher_of lo y) hi b)
      (pair-all (Over z) lo (lower_of hi x) (λ t. (h, lt_trans z lo (lower_of hi x) h t)))
      (cut-over z (higher_of lo y) b (higher-both Number lo y nl nb.1.0) nb.1.1
      (lt-le-trans z lo (higher_of lo y) h (higher-first lo y nl)))

  pub cut-up_to : (lo : Float) (b : List Float) → All (AtMost hi) (cut_by lo hi b)
  unfolding cut_by
  cut-up_to lo [] = pair-all (AtMost hi) lo hi (λ t. (lt→le lo hi t, le_refl hi nh))
  cut-up_to lo (x ∷ []) = pair-all (AtMost hi) lo hi (λ t. (lt→le lo hi t, le_refl hi nh))
  cut-up_to lo (x ∷ y ∷ b) =
      all_append (AtMost hi) (pair_if lo (lower_of hi x)) (cut_by (higher_of lo y) hi b)
      (pair-all (AtMost hi) lo (lower_of hi x)
      (λ t. (lt→le lo hi (lt-le-trans lo (lower_of hi x) hi t (lower-first hi x nh)), lower-first hi x nh)))
      (cut-up_to (higher_of lo y) b)

  pub cut-rising : (lo : Float) (b : List Float) → Number lo → All Number b → rising b ≡ true → rising (cut_by lo hi b) ≡ true
  unfolding cut_by
  cut-rising lo [] nl nb r = pair-rising lo hi
  cut-rising lo (x ∷ []) nl nb r = pair-rising lo hi
  cut-rising lo (x ∷ y ∷ b) nl nb r =
      let next = higher_of lo y in
      let nn : Number next = higher-both Number lo y nl nb.1.0 in
      let up : lt (lower_of hi x) next ≡ true =
      le_lt_trans (lower_of hi x) x next (lower-second hi x nh nb.0)
      (lt-le-trans x y next (rising-above x (y ∷ b) r).0 (higher-second lo y nl nb.1.0)) in
      rising-append (pair_if lo (lower_of hi x)) (cut_by next hi b) (pair-rising lo (lower_of hi x))
      (cut-rising next b nn nb.1.1 (rising-tail y b (rising-tail x (y ∷ b) r)))
      (pair-all (λ e. Above e (cut_by next hi b)) lo (lower_of hi x)
      (λ t. (
        cut-over lo next b nn nb.1.1 (lt_trans lo (lower_of hi x) next t up),
        cut-over (lower_of hi x) next b nn nb.1.1 up,
      )))

  -- one pair more of the list, at a point p that the pairs past it hold or not (c)
  cut-point : (lo x y p : Float) (c : Bool) → Number lo → Number x → Number y → lt x y ≡ true → (lt p x ≡ true → c ≡ false)
      → (within lo (lower_of hi x) p || (within (higher_of lo y) hi p && not c)) ≡ (within lo hi p && not (within x y p || c))
  cut-point lo x y p c nl nx ny up before = elim (by_cases (within lo hi p)) [
    | inr w ↦ rw (w, inside-low w, inside-high w)
    | inl w ↦
        let l : le lo p ≡ true = and_left (le lo p) (lt p hi) w in
        let h : lt p hi ≡ true = and_right (le lo p) (lt p hi) w in
        let np : Number p = (le-number lo p l).1 in
        elim (by_cases (lt p x)) [
          | inl t ↦ rw (l, h, lower-both (λ z. lt p z ≡ true) hi x h t, lt→not-le p x t, before t)
          | inr t ↦
              let a : le x p ≡ true = not-lt→le p x np nx t in
              let low : lt p (lower_of hi x) ≡ false =
              le→not-lt (lower_of hi x) p (le_trans (lower_of hi x) x p (lower-second hi x nh nx) a) in
              elim (by_cases (lt p y)) [
                | inl u ↦ rw (l, h, low, a, u, lt→not-le p (higher_of lo y) (lt-le-trans p y (higher_of lo y) u (higher-second lo y nl ny)))
                | inr u ↦ rw (l, h, low, a, u, higher-both (λ z. le z p ≡ true) lo y l (not-lt→le p y np ny u))
              ]
        ]
  ]
    where
      inside-low : within lo hi p ≡ false → within lo (lower_of hi x) p ≡ false
      inside-low w = elim (by_cases (within lo (lower_of hi x) p)) [
        | inr k ↦ k
        | inl k ↦ absurd (clash (within lo hi p)
            (both (le lo p) (lt p hi) (and_left (le lo p) (lt p (lower_of hi x)) k)
            (lt-le-trans p (lower_of hi x) hi (and_right (le lo p) (lt p (lower_of hi x)) k) (lower-first hi x nh))) w)
      ]

      inside-high : within lo hi p ≡ false → within (higher_of lo y) hi p ≡ false
      inside-high w = elim (by_cases (within (higher_of lo y) hi p)) [
        | inr k ↦ k
        | inl k ↦ absurd (clash (within lo hi p)
            (both (le lo p) (lt p hi) (le_trans lo (higher_of lo y) p (higher-first lo y nl)
            (and_left (le (higher_of lo y) p) (lt p hi) k)) (and_right (le (higher_of lo y) p) (lt p hi) k)) w)
      ]

  pub cut_holds : (lo : Float) (b : List Float) (p : Float) → Number lo → All Number b → rising b ≡ true → odd_n (length b) ≡ false
      → holds (cut_by lo hi b) p ≡ (within lo hi p && not (holds b p))
  unfolding cut_by holds
  cut_holds lo [] p nl nb r e = pair-holds lo hi p ∙ sym (and-true (within lo hi p))
  cut_holds lo (x ∷ []) p nl nb r e = absurd (true≢false e)
  cut_holds lo (x ∷ y ∷ b) p nl nb r e =
      let first = pair_if lo (lower_of hi x) in
      let next = higher_of lo y in
      let above = rising-above x (y ∷ b) r in
      holds-append first (cut_by next hi b) p (odd_n-mod (length first) (pair-even lo (lower_of hi x)))
      ∙ ap₂ ◌||◌ (pair-holds lo (lower_of hi x) p)
      (cut_holds next b p (higher-both Number lo y nl nb.1.0) nb.1.1
      (rising-tail y b (rising-tail x (y ∷ b) r)) (sym (not-not (odd_n (length b))) ∙ e))
      ∙ cut-point lo x y p (holds b p) nl nb.0 nb.1.0 above.0 (λ t. holds-above b p (above-less p x (lt→le p x t) b above.1))

-- ---- a list less another
less-even : (a b : List Float) → All Number a → length (less_of a b) % 2 ≡ 0
unfolding less_of
less-even [] b na = omega arith
less-even (lo ∷ []) b na = omega arith
less-even (lo ∷ hi ∷ a) b na =
    omega (arith, length-append (cut_by lo hi b) (less_of a b), cut-even hi na.1.0 lo b, less-even a b na.1.1)

less-over : (z : Float) (a b : List Float) → All Number a → All Number b → Above z a → Above z (less_of a b)
unfolding less_of
less-over z [] b na nb h = tt
less-over z (lo ∷ []) b na nb h = tt
less-over z (lo ∷ hi ∷ a) b na nb h =
    all_append (Over z) (cut_by lo hi b) (less_of a b) (cut-over hi na.1.0 z lo b na.0 nb h.0)
    (less-over z a b na.1.1 nb h.1.1)

less-rising : (a b : List Float) → All Number a → All Number b → rising a ≡ true → rising b ≡ true → rising (less_of a b) ≡ true
unfolding less_of rising
less-rising [] b na nb ra rb = refl
less-rising (lo ∷ []) b na nb ra rb = refl
less-rising (lo ∷ hi ∷ a) b na nb ra rb =
    let r : rising (hi ∷ a) ≡ true = rising-tail lo (hi ∷ a) ra in
    rising-append (cut_by lo hi b) (less_of a b) (cut-rising hi na.1.0 lo b na.0 nb rb)
    (less-rising a b na.1.1 nb (rising-tail hi a r) rb)
    (all_map (AtMost hi) (λ e. Above e (less_of a b))
    (λ e k. above-less e hi k (less_of a b) (less-over hi a b na.1.1 nb (rising-above hi a r))) (cut_by lo hi b)
    (cut-up_to hi na.1.0 lo b))

less-holds : (a b : List Float) (p : Float) → All Number a → All Number b → rising b ≡ true → odd_n (length b) ≡ false
    → holds (less_of a b) p ≡ less a b p
unfolding less_of holds
less-holds [] b p na nb rb e = refl
less-holds (lo ∷ []) b p na nb rb e = refl
less-holds (lo ∷ hi ∷ a) b p na nb rb e =
    holds-append (cut_by lo hi b) (less_of a b) p (odd_n-mod (length (cut_by lo hi b)) (cut-even hi na.1.0 lo b))
    ∙ ap₂ ◌||◌ (cut_holds hi na.1.0 lo b p na.0 nb rb e) (less-holds a b p na.1.1 nb rb e)
    ∙ either (within lo hi p) (holds a p) (not (holds b p))

-- the canonical form of the points of a that are not in b
pub less-list : (a b : List Float) → sound a ≡ true → sound b ≡ true → ListOf (less a b) (less_of a b)
less-list a b sa sb = record {
  is_sound = make-sound (less_of a b) (less-even a b (numbers_of a sa))
      (less-rising a b (numbers_of a sa) (numbers_of b sb) (sound-rising a sa) (sound-rising b sb));
  points = λ p. less-holds a b p (numbers_of a sa) (numbers_of b sb) (sound-rising b sb) (sound-even b sb);
}

-- ---- where nothing is taken the list stays, end by end
cut_apart : (lo hi : Float) (b : List Float) → lt lo hi ≡ true → All Number b → rising b ≡ true
    → ((p : Float) → within lo hi p ≡ true → holds b p ≡ false) → cut_by lo hi b ≡ lo ∷ hi ∷ []
unfolding cut_by holds
cut_apart lo hi [] h nb r f = rw h refl
cut_apart lo hi (x ∷ []) h nb r f = rw h refl
cut_apart lo hi (x ∷ y ∷ b) h nb r f =
    let n = lt-number lo hi h in
    let up : lt x y ≡ true = (rising-above x (y ∷ b) r).0 in
    elim (by_cases (lt x hi)) [
      | inl t ↦
          let low : le y lo ≡ true = elim (by_cases (lt lo y)) [
            | inr u ↦ not-lt→le lo y n.0 nb.1.0 u
            | inl u ↦
                let p = higher_of lo x in
                let in-a : within lo hi p ≡ true =
                both (le lo p) (lt p hi) (higher-first lo x n.0) (higher-both (λ e. lt e hi ≡ true) lo x h t) in
                let in_b : within x y p ≡ true =
                both (le x p) (lt p y) (higher-second lo x n.0 nb.0) (higher-both (λ e. lt e y ≡ true) lo x u up) in
                absurd (clash (within x y p || holds b p) (or_left (within x y p) (holds b p) in_b) (f p in-a))
          ] in
          cut-skip hi n.1 lo x y b (lt→le x lo (lt-le-trans x y lo up low)) low
          ∙ cut_apart lo hi b h nb.1.1 (rising-tail y b (rising-tail x (y ∷ b) r))
          (λ p w. (or-neither (within x y p) (holds b p) (f p w)).1)
      | inr t ↦
          let far : le hi x ≡ true = not-lt→le x hi nb.0 n.1 t in
          let whole : pair_if lo (lower_of hi x) ≡ lo ∷ hi ∷ [] = rw (t, h) refl in
          ap₂ ◌++◌ whole
          (cut-none hi n.1 (higher_of lo y) b (higher-both Number lo y n.0 nb.1.0) nb.1.1
          (le_trans hi x (higher_of lo y) far
          (le_trans x y (higher_of lo y) (lt→le x y up) (higher-second lo y n.0 nb.1.0))))
    ]

less-stays : (a b : List Float) → rising a ≡ true → odd_n (length a) ≡ false → All Number b → rising b ≡ true
    → ((p : Float) → holds a p ≡ true → holds b p ≡ false) → less_of a b ≡ a
unfolding less_of holds
less-stays [] b ra e nb rb f = refl
less-stays (lo ∷ []) b ra e nb rb f = absurd (true≢false e)
less-stays (lo ∷ hi ∷ a) b ra e nb rb f =
    ap₂ ◌++◌ (cut_apart lo hi b (rising-above lo (hi ∷ a) ra).0 nb rb (λ p w. f p (or_left (within lo hi p) (holds a p) w)))
    (less-stays a b (rising-tail hi a (rising-tail lo (hi ∷ a) ra)) (sym (not-not (odd_n (length a))) ∙ e) nb rb
    (λ p w. f p (or_right (within lo hi p) (holds a p) w)))

pub less-apart : (a b : List Float) → sound a ≡ true → sound b ≡ true → Apart a b → less_of a b ≡ a
less-apart a b sa sb f = less-stays a b (sound-rising a sa) (sound-even a sa) (numbers_of b sb) (sound-rising b sb) f

-- a boundary moves exactly where some point is in both lists
pub less_moves : (a b : List Float) → sound a ≡ true → sound b ≡ true → (p : Float) → holds a p ≡ true
    → holds b p ≡ true → equal a (less_of a b) ≡ false
less_moves a b sa sb p h k = elim (by_cases (equal a (less_of a b))) [
  | inr e ↦ e
  | inl e ↦ absurd (clash (holds (less_of a b) p) (sym (equal-holds a (less_of a b) e p) ∙ h)
      ((less-list a b sa sb).points p ∙ rw (h, k) refl))
]
