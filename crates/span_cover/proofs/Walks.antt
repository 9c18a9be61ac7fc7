-- Two sound lists walked pair by pair: what a turn keeps, and the point that decides.
use mathlib.Core.Path.{◌≡◌, refl, sym, ◌∙◌, ap, subst}
use mathlib.Core.Logic.{◌⊎◌, inl, inr}
use mathlib.Core.Bool.{true, false, false≢true}
use mathlib.Core.List.{List, [], ◌∷◌, Memᴰ}
use Prim.Native.Nat.{ℕ, zero, suc, ◌+◌, ◌-◌, ◌%◌, ◌≤◌, ◌<◌}
use native.Mathlib.Omega.{arith}
use native.Mathlib.Decide.{dec_lt}
use lib.ListN.{length, get_or, take}
use lib.Seq.{take_all}
use lib.Ieee.{Float, nan, lt, le}
use Rattle.spans.specs.Spans.{within, holds, sound, Within, Apart}
use Rattle.span_cover.specs.Cover.{Covers, Meets}
use Rattle.spans.proofs.Ends.{rising-at}
use Rattle.spans.proofs.Sets.{sound-rising, sound-mod}
use Rattle.spans.proofs.Points.{holds_more, front-only, in_pair, in-gap, up_to-last, pair-rises, number_at}
use Rattle.spans.specs.Overlay.{higher_of as top}
use Rattle.span_overlay.proofs.Less.{higher-first as top-first, higher-second as top-second, higher-both as top-both}
use Rattle.doubles.specs.Doubles.{Number}
use Rattle.logic.proofs.Bools.{and_left, and_right, or_cases, by_cases, clash}
use Rattle.doubles.proofs.Order.{lt-number, not-lt→le, not-le→lt, le_refl, le_trans, lt_trans, lt-le-trans}
use Rattle.spans.specs.Steps.{EndOfEither}

-- a cell of a list is one of its ends
end-at : (l : List Float) (k : ℕ) → k < length l → Memᴰ (get_or l k nan) l
end-at [] k h = absurd (omega arith)
end-at (x ∷ l) zero h = Memᴰ.head refl
end-at (x ∷ l) (suc k) h = Memᴰ.tail (end-at l k (omega arith))

-- the points of a list's first pairs and one more
one_more : (l : List Float) (k : ℕ) (p : Float) → k % 2 ≡ 0 → k + 2 ≤ length l → holds (take (k + 2) l) p ≡ true
    → (holds (take k l) p ≡ true) ⊎ (within (get_or l k nan) (get_or l (k + 1) nan) p ≡ true)
one_more l k p e fit h = or_cases (holds (take k l) p) (within (get_or l k nan) (get_or l (k + 1) nan) p) (sym (holds_more l k p e fit) ∙ h)

-- ---- the loop of `covers`
-- the first k ends of inner are covered, and the first j of outer lie below the hi that is next
pub record Covering (outer inner : List Float) (k j : ℕ) : Type 0 where
  pub k_whole : k % 2 ≡ 0
  pub k_most : k ≤ length inner
  pub j_whole : j % 2 ≡ 0
  pub j_most : j ≤ length outer
  pub within_outer : (p : Float) → holds (take k inner) p ≡ true → holds outer p ≡ true
  pub passed : k < length inner → 0 < j → lt (get_or outer (j - 1) nan) (get_or inner (k + 1) nan) ≡ true

pub cover-start : (outer inner : List Float) → Covering outer inner 0 0
unfolding holds
cover-start outer inner = record {
  k_whole = omega arith;
  k_most = omega arith;
  j_whole = omega arith;
  j_most = omega arith;
  within_outer = λ p h. absurd (false≢true h);
  passed = λ h g. absurd (omega arith);
}

pub cover-done : (outer inner : List Float) (k j : ℕ) → Covering outer inner k j → length inner ≤ k → Within outer inner
cover-done outer inner k j s h p g = s.within_outer p (ap (λ (l : List Float). holds l p) (take_all k inner h) ∙ g)

module _ (outer inner : List Float) (k j : ℕ) (so : sound outer ≡ true) (si : sound inner ≡ true)
    (s : Covering outer inner k j) (h : k < length inner) where
  abbrev lo : Float
  lo = get_or inner k nan

  abbrev hi : Float
  hi = get_or inner (k + 1) nan

  k-fits : k + 2 ≤ length inner
  k-fits = omega (arith, sound-mod inner si, s.k_whole)

  -- lo, or the last end that is passed where that is larger, is in the pair and in no pair of outer
  pub escapes : (j < length outer → lt lo (get_or outer j nan) ≡ true) → Covers outer inner false
  escapes next = elim (dec_lt 0 j) [
    | yes g ↦
        let e = get_or outer (j - 1) nan in
        let e-hi : lt e hi ≡ true = s.passed h g in
        let nlo = number_at inner k si h in
        point (top lo e) (top-both (EndOfEither outer inner) lo e (inr (end-at inner k h))
        (inl (end-at outer (j - 1) (omega (arith, s.j_most))))) (top-first lo e nlo)
        (top-both (λ x. lt x hi ≡ true) lo e (pair-rises inner k si k-fits) e-hi)
        (λ _. top-second lo e nlo (lt-number e hi e-hi).0)
        (λ f. top-both (λ x. lt x (get_or outer j nan) ≡ true) lo e (next f)
        (rising-at outer (j - 1) j (sound-rising outer so) (omega arith) f))
    | no g ↦ point lo (inr (end-at inner k h)) (le_refl lo (number_at inner k si h)) (pair-rises inner k si k-fits) (λ f. absurd (g f)) next
  ]
    where
      point : (p : Float) → EndOfEither outer inner p → le lo p ≡ true → lt p hi ≡ true
          → (0 < j → le (get_or outer (j - 1) nan) p ≡ true) → (j < length outer → lt p (get_or outer j nan) ≡ true)
          → Covers outer inner false
      point p m l u last f = (
        p,
        m,
        in_pair inner k p si s.k_whole k-fits l u,
        in-gap outer j p s.j_most so s.j_whole (up_to-last outer j p s.j_most (sound-rising outer so) last) f,
      )

  -- the pair of outer at j ends below hi
  pub cover_on : j < length outer → lt (get_or outer (j + 1) nan) hi ≡ true → Covering outer inner k (j + 2)
  cover_on g t = record {
    k_whole = s.k_whole;
    k_most = s.k_most;
    j_whole = omega (arith, s.j_whole);
    j_most = omega (arith, sound-mod outer so, s.j_whole);
    within_outer = s.within_outer;
    passed = λ _ _. subst (λ (m : ℕ). lt (get_or outer m nan) hi ≡ true) (last j) t;
  }
    where
      last : (j : ℕ) → j + 1 ≡ j + 2 - 1
      last j = omega arith

  -- it covers the pair
  pub cover-pair : j < length outer → lt (get_or outer (j + 1) nan) hi ≡ false → lt lo (get_or outer j nan) ≡ false
      → Covering outer inner (k + 2) j
  cover-pair g t u =
      let j-fits : j + 2 ≤ length outer = omega (arith, sound-mod outer so, s.j_whole) in
      let n : (q : ℕ) → q < length inner → Number (get_or inner q nan) = λ q f. number_at inner q si f in
      let high : le hi (get_or outer (j + 1) nan) ≡ true =
      not-lt→le (get_or outer (j + 1) nan) hi (number_at outer (j + 1) so (omega arith))
      (n (k + 1) (omega (arith, k-fits))) t in
      let low : le (get_or outer j nan) lo ≡ true = not-lt→le lo (get_or outer j nan) (n k h) (number_at outer j so g) u in
      record {
        k_whole = omega (arith, s.k_whole);
        k_most = k-fits;
        j_whole = s.j_whole;
        j_most = s.j_most;
        within_outer = λ p f. elim (one_more inner k p s.k_whole k-fits f) [
          | inl e ↦ s.within_outer p e
          | inr e ↦ in_pair outer j p so s.j_whole j-fits
              (le_trans (get_or outer j nan) lo p low (and_left (le lo p) (lt p hi) e))
              (lt-le-trans p hi (get_or outer (j + 1) nan) (and_right (le lo p) (lt p hi) e) high)
        ];
        passed = λ f e. lt_trans (get_or outer (j - 1) nan) hi (get_or inner (k + 2 + 1) nan) (s.passed h e)
            (rising-at inner (k + 1) (k + 2 + 1) (sound-rising inner si) (omega arith)
            (omega (arith, sound-mod inner si, s.k_whole)));
      }

-- ---- the loop of `meets`
-- no point of the first i ends of a is in b, and none of the first j of b in a
pub record Avoiding (a b : List Float) (i j : ℕ) : Type 0 where
  pub i_whole : i % 2 ≡ 0
  pub i_most : i ≤ length a
  pub j_whole : j % 2 ≡ 0
  pub j_most : j ≤ length b
  pub first : (p : Float) → holds (take i a) p ≡ true → holds b p ≡ false
  pub second : (p : Float) → holds (take j b) p ≡ true → holds a p ≡ false

pub avoid-start : (a b : List Float) → Avoiding a b 0 0
unfolding holds
avoid-start a b = record {
  i_whole = omega arith;
  i_most = omega arith;
  j_whole = omega arith;
  j_most = omega arith;
  first = λ p h. absurd (false≢true h);
  second = λ p h. absurd (false≢true h);
}

pub avoid-done : (a b : List Float) (i j : ℕ) → Avoiding a b i j → (length a ≤ i) ⊎ (length b ≤ j) → Apart a b
avoid-done a b i j s (inl h) p g = s.first p (ap (λ (l : List Float). holds l p) (take_all i a h) ∙ g)
avoid-done a b i j s (inr h) p g = elim (by_cases (holds b p)) [
  | inl k ↦ absurd (clash (holds a p) g (s.second p (ap (λ (l : List Float). holds l p) (take_all j b h) ∙ k)))
  | inr k ↦ k
]

-- a pair of l that ends in front of the next pair of m has no point of m
beside : (l m : List Float) (i j : ℕ) (p : Float) → sound l ≡ true → sound m ≡ true → i % 2 ≡ 0 → i + 2 ≤ length l
    → j % 2 ≡ 0 → j < length m
    → le (get_or l (i + 1) nan) (get_or m j nan) ≡ true → ((q : Float) → holds (take j m) q ≡ true → holds l q ≡ false)
    → within (get_or l i nan) (get_or l (i + 1) nan) p ≡ true → holds m p ≡ false
beside l m i j p sl sm ei fi ej fj t none w =
    let low : le (get_or l i nan) p ≡ true = and_left (le (get_or l i nan) p) (lt p (get_or l (i + 1) nan)) w in
    let high : lt p (get_or l (i + 1) nan) ≡ true = and_right (le (get_or l i nan) p) (lt p (get_or l (i + 1) nan)) w in
    front-only m j p (omega arith) sm ej (λ _. lt-le-trans p (get_or l (i + 1) nan) (get_or m j nan) high t)
    ∙ elim (by_cases (holds (take j m) p)) [
      | inl k ↦ absurd (clash (holds l p) (in_pair l i p sl ei fi low high) (none p k))
      | inr k ↦ k
    ]

module _ (a b : List Float) (i j : ℕ) (sa : sound a ≡ true) (sb : sound b ≡ true) (s : Avoiding a b i j)
    (h : i < length a) (g : j < length b) where
  a-fits : i + 2 ≤ length a
  a-fits = omega (arith, sound-mod a sa, s.i_whole)

  b-fits : j + 2 ≤ length b
  b-fits = omega (arith, sound-mod b sb, s.j_whole)

  pub avoid-a : le (get_or a (i + 1) nan) (get_or b j nan) ≡ true → Avoiding a b (i + 2) j
  avoid-a t = record {
    i_whole = omega (arith, s.i_whole);
    i_most = a-fits;
    j_whole = s.j_whole;
    j_most = s.j_most;
    first = λ p f. elim (one_more a i p s.i_whole a-fits f) [
      | inl e ↦ s.first p e
      | inr e ↦ beside a b i j p sa sb s.i_whole a-fits s.j_whole g t s.second e
    ];
    second = s.second;
  }

  pub avoid-b : lt (get_or a i nan) (get_or b (j + 1) nan) ≡ false → Avoiding a b i (j + 2)
  avoid-b t = record {
    i_whole = s.i_whole;
    i_most = s.i_most;
    j_whole = omega (arith, s.j_whole);
    j_most = b-fits;
    first = s.first;
    second = λ p f. elim (one_more b j p s.j_whole b-fits f) [
      | inl e ↦ s.second p e
      | inr e ↦ beside b a j i p sb sa s.j_whole b-fits s.i_whole h
          (not-lt→le (get_or a i nan) (get_or b (j + 1) nan) (number_at a i sa h)
          (number_at b (j + 1) sb (omega (arith, b-fits))) t) s.first e
    ];
  }

  -- the larger lo is in both pairs
  pub share-point : le (get_or a (i + 1) nan) (get_or b j nan) ≡ false → lt (get_or a i nan) (get_or b (j + 1) nan) ≡ true → Meets a b true
  share-point t u =
      let x = get_or a i nan in
      let y = get_or b j nan in
      let nx = number_at a i sa h in
      let ny = number_at b j sb g in (
        top x y,
        top-both (EndOfEither a b) x y (inl (end-at a i h)) (inr (end-at b j g)),
        in_pair a i (top x y) sa s.i_whole a-fits (top-first x y nx)
            (top-both (λ e. lt e (get_or a (i + 1) nan) ≡ true) x y (pair-rises a i sa a-fits)
            (not-le→lt (get_or a (i + 1) nan) y (number_at a (i + 1) sa (omega (arith, a-fits))) ny t)),
        in_pair b j (top x y) sb s.j_whole b-fits (top-second x y nx ny)
            (top-both (λ e. lt e (get_or b (j + 1) nan) ≡ true) x y u (pair-rises b j sb b-fits)),
      )
