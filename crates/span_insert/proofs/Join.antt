-- What it takes to work a pair into a sound list: the list with the pair spliced in is sound and has the points of both.
use mathlib.Core.Path.{◌≡◌, refl, sym, ◌∙◌, ap, subst}
use mathlib.Core.Logic.{inl, inr}
use mathlib.Core.Bool.{Bool, true, false, not, ◌&&◌, ◌||◌}
use mathlib.Core.List.{List, [], ◌∷◌, ◌++◌, Memᴰ}
use Prim.Native.Nat.{ℕ, suc, ◌+◌, ◌-◌, ◌%◌, ◌≤◌, ◌<◌}
use native.Mathlib.Omega.{arith}
use native.Mathlib.Decide.{dec_lt}
use borrow.Author.Tests.{eq-eqb, ne_eqb}
use lib.Dec.{eqb}
use lib.ListN.{length, get_or, take, drop, set, take-append-drop, length-drop, length-append, length-set}
use lib.Seq.{length-take-le, get_or-take, get_or-drop, get_or-set_same, get_or-set_other, take-suc, take-suc-set, take-set-le}
use lib.Ieee.{Float, nan, lt, le}
use Rattle.spans.specs.Spans.{within, holds, rising, sound, pair_if}
use Rattle.spans.specs.Steps.{PutPairPost}
use Rattle.span_insert.specs.Steps.{EndsCounted, SplicePost, InsertPost, end_if, join_at}
use Rattle.doubles.specs.Doubles.{Number}
use Rattle.logic.proofs.Bools.{and_left, and_right, and-true, and-false, both, by_cases, clash}
use Rattle.doubles.proofs.Order.{lt-number, le-number, lt_not_le, lt→le, not-lt→le, not-le→lt, le_lt_trans, lt_trans, lt-le-trans}
use Rattle.doubles.proofs.Order.{le_refl, le_trans}
use Rattle.spans.proofs.Ends.{flip, flip-false, not-not, odd_n, odd, odd-append, All, all_append, all_left, all_right, all_map}
use Rattle.spans.proofs.Ends.{all-by-place, all-at, Over, Under, Past, From, Above, Below, UpTo, odd-all, odd-none, odd-past}
use Rattle.spans.proofs.Ends.{above-less, up_to-more, below-up_to, odd_n-add, rising-cons, rising-append, rising-left, rising-right}
use Rattle.spans.proofs.Ends.{rising-at, rising-before}
use Rattle.spans.proofs.Points.{or-false, or-true, or_assoc, numbers_of, holds_more, put-list, below-by-last, up_to-last, rising-front}
use Rattle.spans.proofs.Normal.{all_in, normal-pair}
use Rattle.spans.proofs.Sets.{odd_n-mod, mod-odd_n, sound-rising, sound-even, sound-mod, sound-holds, make-sound}

pub even_odd : (n : ℕ) → eqb (n % 2) 0 ≡ not (odd_n n)
even_odd n = elim (by_cases (odd_n n)) [
  | inl h ↦ ne_eqb (n % 2) 0 (λ e. clash (odd_n n) h (odd_n-mod n e)) ∙ sym (ap not h)
  | inr h ↦ eq-eqb (n % 2) 0 (mod-odd_n n h) ∙ sym (ap not h)
]

odd-end_if : (b : Bool) (x p : Float) → odd (end_if b x) p ≡ (b && le x p)
odd-end_if true x p = flip-false (le x p)
odd-end_if false x p = refl

odd_n-end_if : (b : Bool) (x : Float) → odd_n (length (end_if b x)) ≡ b
odd_n-end_if true x = refl
odd_n-end_if false x = refl

all-end_if : (P : Float → Type 0) (b : Bool) (x : Float) → P x → All P (end_if b x)
all-end_if P true x h = (h, tt)
all-end_if P false x h = tt

rising-end_if : (b : Bool) (x : Float) (l : List Float) → Above x l → rising l ≡ true → rising (end_if b x ++ l) ≡ true
rising-end_if true x l h k = rising-cons x l h k
rising-end_if false x l h k = k

-- x is odd, so an end is put in or not; y the same at the other place
put_both : (x y d : Bool) → flip x (flip (not x) (flip (not y) d)) ≡ flip y d
put_both true true d = refl
put_both true false d = not-not d
put_both false true d = refl
put_both false false d = not-not d

put_one : (x : Bool) → flip x (flip (not x && true) (flip false false)) ≡ true
put_one true = refl
put_one false = refl

module _ (l : List Float) (lo hi : Float) (i j : ℕ) (up : rising l ≡ true) (up-pair : lt lo hi ≡ true)
    (i-fits : i ≤ length l) (j-fits : j ≤ length l)
    (below : Below lo (take i l)) (from-lo : All (From lo) (drop i l)) (up-to-hi : UpTo hi (take j l))
    (above-hi : Above hi (drop j l)) where
  joined-rising : rising (join_at l i j lo hi) ≡ true
  joined-rising =
      let tail-up : rising (drop j l) ≡ true = rising-right (take j l) (drop j l) (rw take-append-drop up) in
      let high-up = rising-end_if (eqb (j % 2) 0) hi (drop j l) above-hi tail-up in
      let above-lo : Above lo (end_if (eqb (j % 2) 0) hi ++ drop j l) =
      all_append (Over lo) (end_if (eqb (j % 2) 0) hi) (drop j l) (all-end_if (Over lo) (eqb (j % 2) 0) hi up-pair)
      (above-less lo hi (lt→le lo hi up-pair) (drop j l) above-hi) in
      let rest_up = rising-end_if (eqb (i % 2) 0) lo (end_if (eqb (j % 2) 0) hi ++ drop j l) above-lo high-up in
      let rest = end_if (eqb (i % 2) 0) lo ++ (end_if (eqb (j % 2) 0) hi ++ drop j l) in
      let rest_from : All (From lo) rest =
      all_append (From lo) (end_if (eqb (i % 2) 0) lo) (end_if (eqb (j % 2) 0) hi ++ drop j l)
      (all-end_if (From lo) (eqb (i % 2) 0) lo (le_refl lo (lt-number lo hi up-pair).0))
      (all_map (Over lo) (From lo) (λ e h. lt→le lo e h) (end_if (eqb (j % 2) 0) hi ++ drop j l) above-lo) in
      rising-append (take i l) rest (rising-front l i up) rest_up
      (all_map (Under lo) (λ x. Above x rest)
      (λ x h. all_map (From lo) (Over x) (λ e k. lt-le-trans x lo e h k) rest rest_from) (take i l) below)

  joined-even : odd_n (length (join_at l i j lo hi)) ≡ odd_n (length l)
  joined-even =
      let di : length (take i l) ≡ i = length-take-le i l i-fits in
      let dj : length (take j l) ≡ j = length-take-le j l j-fits in
      odd_n-add (take i l) (end_if (eqb (i % 2) 0) lo ++ (end_if (eqb (j % 2) 0) hi ++ drop j l))
      ∙ rw (
        odd_n-add (end_if (eqb (i % 2) 0) lo) (end_if (eqb (j % 2) 0) hi ++ drop j l),
        odd_n-add (end_if (eqb (j % 2) 0) hi) (drop j l),
        odd_n-end_if (eqb (i % 2) 0) lo,
        odd_n-end_if (eqb (j % 2) 0) hi,
        even_odd i,
        even_odd j,
        di,
      ) (put_both (odd_n i) (odd_n j) (odd_n (length (drop j l))))
      ∙ ap (λ (k : ℕ). flip (odd_n k) (odd_n (length (drop j l)))) (sym dj)
      ∙ sym (odd_n-add (take j l) (drop j l)) ∙ ap (λ (m : List Float). odd_n (length m)) (take-append-drop j l)

  -- the parity of the new list at p, in its parts
  parts : (p : Float) → odd (join_at l i j lo hi) p
      ≡ flip (odd (take i l) p) (flip (not (odd_n i) && le lo p) (flip (not (odd_n j) && le hi p) (odd (drop j l) p)))
  parts p =
      odd-append (take i l) (end_if (eqb (i % 2) 0) lo ++ (end_if (eqb (j % 2) 0) hi ++ drop j l)) p
      ∙ rw (
        odd-append (end_if (eqb (i % 2) 0) lo) (end_if (eqb (j % 2) 0) hi ++ drop j l) p,
        odd-append (end_if (eqb (j % 2) 0) hi) (drop j l) p,
        odd-end_if (eqb (i % 2) 0) lo p,
        odd-end_if (eqb (j % 2) 0) hi p,
        even_odd i,
        even_odd j,
      )

  split : (k : ℕ) (p : Float) → odd l p ≡ flip (odd (take k l) p) (odd (drop k l) p)
  split k p = ap (λ (m : List Float). odd m p) (sym (take-append-drop k l)) ∙ odd-append (take k l) (drop k l) p

  joined-odd : (p : Float) → odd (join_at l i j lo hi) p ≡ (odd l p || within lo hi p)
  joined-odd p = parts p ∙ elim (by_cases (le lo p)) [
    | inl a ↦ elim (by_cases (le hi p)) [
      | inl b ↦
          let left : odd (take i l) p ≡ odd_n i =
          odd-all (take i l) p (up_to-more lo p a (take i l) (below-up_to lo (take i l) below)) ∙ ap odd_n (length-take-le i l i-fits) in
          let right : odd (take j l) p ≡ odd_n j =
          odd-all (take j l) p (up_to-more hi p b (take j l) up-to-hi) ∙ ap odd_n (length-take-le j l j-fits) in
          rw (
            left,
            a,
            b,
            and-true (not (odd_n i)),
            and-true (not (odd_n j)),
            split j p,
            right,
            lt_not_le p hi (le-number lo p a).1 (lt-number lo hi up-pair).1,
            b,
            or-false (flip (odd_n j) (odd (drop j l) p)),
          )
          (put_both (odd_n i) (odd_n j) (odd (drop j l) p))
      | inr b ↦
          let left : odd (take i l) p ≡ odd_n i =
          odd-all (take i l) p (up_to-more lo p a (take i l) (below-up_to lo (take i l) below)) ∙ ap odd_n (length-take-le i l i-fits) in
          let p-below : lt p hi ≡ true = not-le→lt hi p (lt-number lo hi up-pair).1 (le-number lo p a).1 b in
          let none : odd (drop j l) p ≡ false = odd-none (drop j l) p (above-less p hi (lt→le p hi p-below) (drop j l) above-hi) in
          rw (left, a, b, none, and-false (not (odd_n j)) false refl, p-below, or-true (odd l p)) (put_one (odd_n i))
    ]
    | inr a ↦
        let not-past : (e : Float) → le lo e ≡ true → le e p ≡ false =
        λ e h. elim (by_cases (le e p)) [ inl k ↦ absurd (clash (le lo p) (le_trans lo e p h k) a) | inr k ↦ k ] in
        let mid : odd (drop i l) p ≡ false = odd-past (drop i l) p (all_map (From lo) (Past p) not-past (drop i l) from-lo) in
        let top : odd (drop j l) p ≡ false =
        odd-past (drop j l) p (all_map (Over hi) (Past p)
        (λ e h. not-past e (lt→le lo e (lt_trans lo hi e up-pair h))) (drop j l) above-hi) in
        let no-hi : le hi p ≡ false = not-past hi (lt→le lo hi up-pair) in
        rw (
          a,
          no-hi,
          and-false (not (odd_n i)) false refl,
          and-false (not (odd_n j)) false refl,
          top,
          split i p,
          mid,
          or-false (flip (odd (take i l) p) false),
        )
  ]

-- ---- the places that the searches find
module _ (b : List Float) (n : ℕ) (lo hi : Float) (i j : ℕ) (n-fits : n ≤ length b) (is_sound : sound (take n b) ≡ true)
    (up-pair : lt lo hi ≡ true) (to-hi : EndsCounted (λ e. le e hi) b n j) (to-lo : EndsCounted (λ e. lt e lo) b n i) where
  size : length (take n b) ≡ n
  size = length-take-le n b n-fits

  up : rising (take n b) ≡ true
  up = sound-rising (take n b) is_sound

  number_at : (k : ℕ) → k < n → Number (get_or b k nan)
  number_at k h = subst Number (get_or-take n b k nan h) (all-at Number (take n b) k (numbers_of (take n b) is_sound) (omega (arith, size)))

  all-of-drop : (P : Float → Type 0) (k : ℕ) → k ≤ n → ((q : ℕ) → k ≤ q → q < n → P (get_or b q nan)) → All P (drop k (take n b))
  all-of-drop P k g h =
      all-by-place P (drop k (take n b)) (λ q f.
      let small : k + q < n = omega (arith, length-drop k (take n b), size) in
      rw (get_or-drop k (take n b) q nan, get_or-take n b (k + q) nan small) (h (k + q) (omega arith) small))

  above_at : (k : ℕ) → j ≤ k → k < n → lt hi (get_or b k nan) ≡ true
  above_at k h g = not-le→lt (get_or b k nan) hi (number_at k g) (lt-number lo hi up-pair).1 (to-hi.past k h g)

  found-above : Above hi (drop j (take n b))
  found-above = all-of-drop (Over hi) j to-hi.most above_at

  found-up-to : UpTo hi (take j (take n b))
  found-up-to = up_to-last (take n b) j hi (omega (arith, size, to-hi.most)) up
      (λ h. rw (get_or-take n b (j - 1) nan (omega (arith, to-hi.most))) (to-hi.last h))

  found_below : Below lo (take i (take n b))
  found_below = below-by-last (take n b) i lo (omega (arith, size, to-lo.most)) (rising-front (take n b) i up)
      (λ h. rw (get_or-take n b (i - 1) nan (omega (arith, to-lo.most))) (to-lo.last h))

  found_from : All (From lo) (drop i (take n b))
  found_from = all-of-drop (From lo) i to-lo.most
      (λ q h g. not-lt→le (get_or b q nan) lo (number_at q g) (lt-number lo hi up-pair).0 (to-lo.past q h g))

  -- what is below lo is at most hi
  pub places-rise : i ≤ j
  places-rise = elim (dec_lt j i) [
    | yes a ↦ absurd (clash (le (get_or b (i - 1) nan) hi)
        (lt→le (get_or b (i - 1) nan) hi (lt_trans (get_or b (i - 1) nan) lo hi (to-lo.last (omega arith)) up-pair))
        (to-hi.past (i - 1) (omega arith) (omega (arith, to-lo.most))))
    | no a ↦ omega arith
  ]

  pub join-sound : sound (join_at (take n b) i j lo hi) ≡ true
  join-sound =
      let l = take n b in
      make-sound (join_at l i j lo hi)
      (mod-odd_n (length (join_at l i j lo hi))
      (joined-even l lo hi i j (sound-rising l is_sound) up-pair (omega (arith, size, to-hi.most, to-lo.most))
      (omega (arith, size, to-hi.most)) found_below found_from found-up-to found-above
      ∙ sound-even l is_sound))
      (joined-rising l lo hi i j (sound-rising l is_sound) up-pair (omega (arith, size, to-hi.most, to-lo.most))
      (omega (arith, size, to-hi.most)) found_below found_from found-up-to found-above)

  pub join-holds : (p : Float) → holds (join_at (take n b) i j lo hi) p ≡ (holds (take n b) p || within lo hi p)
  join-holds p =
      let l = take n b in
      sound-holds (join_at l i j lo hi) p join-sound
      ∙ joined-odd l lo hi i j (sound-rising l is_sound) up-pair (omega (arith, size, to-hi.most, to-lo.most))
      (omega (arith, size, to-hi.most)) found_below found_from found-up-to found-above p
      ∙ ap (λ (x : Bool). x || within lo hi p) (sym (sound-holds l p is_sound))

-- ---- each end was given
-- the ends of a list are among those of the list and a pair; so are those of the pair, where it is not dropped
kept : (l : List Float) (lo hi : Float) → All (λ e. Memᴰ e (l ++ pair_if lo hi)) l
kept l lo hi = all_left (λ e. Memᴰ e (l ++ pair_if lo hi)) l (pair_if lo hi) (all_in (l ++ pair_if lo hi))

from-pair : (l : List Float) (lo hi : Float) → lt lo hi ≡ true → All (λ e. Memᴰ e (l ++ pair_if lo hi)) (lo ∷ hi ∷ [])
from-pair l lo hi up = rw up (all_right (λ e. Memᴰ e (l ++ (lo ∷ hi ∷ []))) l (lo ∷ hi ∷ []) (all_in (l ++ (lo ∷ hi ∷ []))))

join-all : (P : Float → Type 0) (l : List Float) (i j : ℕ) (lo hi : Float) → All P l → P lo → P hi → All P (join_at l i j lo hi)
join-all P l i j lo hi h a b =
    all_append P (take i l) (end_if (eqb (i % 2) 0) lo ++ (end_if (eqb (j % 2) 0) hi ++ drop j l))
    (all_left P (take i l) (drop i l) (rw take-append-drop h))
    (all_append P (end_if (eqb (i % 2) 0) lo) (end_if (eqb (j % 2) 0) hi ++ drop j l) (all-end_if P (eqb (i % 2) 0) lo a)
    (all_append P (end_if (eqb (j % 2) 0) hi) (drop j l) (all-end_if P (eqb (j % 2) 0) hi b)
    (all_right P (take j l) (drop j l) (rw take-append-drop h))))

-- ---- the step: what `insert` leaves
pub insert-done : (b b' : List Float) (n : ℕ) (lo hi : Float) (i j r : ℕ) → n ≤ length b → sound (take n b) ≡ true → lt lo hi ≡ true
    → EndsCounted (λ e. lt e lo) b n i → EndsCounted (λ e. le e hi) b n j → SplicePost b n i j lo hi b' r → InsertPost b n lo hi b' r
insert-done b b' n lo hi i j r fit s up ci cj m = record {
  size = m.size;
  most = m.most;
  list = rw m.ends (normal-pair (take n b) (join_at (take n b) i j lo hi) lo hi s
      (record { is_sound = join-sound b n lo hi i j fit s up cj ci; points = join-holds b n lo hi i j fit s up cj ci })
      (join-all (λ e. Memᴰ e (take n b ++ pair_if lo hi)) (take n b) i j lo hi (kept (take n b) lo hi)
      (from-pair (take n b) lo hi up).0 (from-pair (take n b) lo hi up).1.0));
  rest = m.rest;
}

-- all ends are below lo: the pair comes last
pub insert-last : (b b' : List Float) (n : ℕ) (lo hi : Float) (r : ℕ) → n ≤ length b → sound (take n b) ≡ true
    → (0 < n → lt (get_or b (n - 1) nan) lo ≡ true) → PutPairPost b n lo hi b' r → InsertPost b n lo hi b' r
insert-last b b' n lo hi r fit s last m = record {
  size = m.size;
  most = m.most;
  list = normal-pair (take n b) (take r b') lo hi s
      (put-list b b' n lo hi r fit s (below-by-last b n lo fit (sound-rising (take n b) s) last) m)
      (rw m.ends (all_in (take n b ++ pair_if lo hi)));
  rest = m.rest;
}

pub insert-none : (b : List Float) (n : ℕ) (lo hi : Float) → sound (take n b) ≡ true
    → ((p : Float) → within lo hi p ≡ true → holds (take n b) p ≡ true) → InsertPost b n lo hi b n
insert-none b n lo hi s inside = record {
  size = refl;
  most = omega arith;
  list = normal-pair (take n b) (take n b) lo hi s (record {
    is_sound = s;
    points = λ p. elim (by_cases (within lo hi p)) [
      | inl w ↦ rw (w, inside p w)
      | inr w ↦ rw (w, or-false (holds (take n b) p))
    ];
  }) (kept (take n b) lo hi);
  rest = λ q h. refl;
}

-- the pair touches the last one, [x, y)
module _ (b : List Float) (n : ℕ) (lo hi : Float) (fit : n ≤ length b) (s : sound (take n b) ≡ true) (pos : 0 < n)
    (low : le (get_or b (n - 2) nan) lo ≡ true) (near : lt (get_or b (n - 1) nan) lo ≡ false) where
  abbrev x : Float
  x = get_or b (n - 2) nan

  abbrev y : Float
  y = get_or b (n - 1) nan

  two : n ≡ n - 2 + 2
  two = omega (arith, sound-mod (take n b) s, length-take-le n b fit)

  one : n - 2 + 1 ≡ n - 1
  one = omega (arith, sound-mod (take n b) s, length-take-le n b fit)

  whole : (n - 2) % 2 ≡ 0
  whole = omega (arith, sound-mod (take n b) s, length-take-le n b fit)

  at : (k : ℕ) → k < n → get_or (take n b) k nan ≡ get_or b k nan
  at k h = get_or-take n b k nan h

  rises : lt x y ≡ true
  rises = rw (at (n - 2) (omega arith), at (n - 1) (omega arith))
      at (rising-at (take n b) (n - 2) (n - 1) (sound-rising (take n b) s) (omega (arith, two)) (omega (arith, length-take-le n b fit)))

  reaches : le lo y ≡ true
  reaches = not-lt→le y lo (lt-number x y rises).1 (le-number x lo low).1 near

  -- the points of the list, its last pair apart
  last_apart : (p : Float) → holds (take n b) p ≡ (holds (take (n - 2) b) p || within x y p)
  last_apart p =
      ap (λ (k : ℕ). holds (take k b) p) two ∙ holds_more b (n - 2) p whole (omega (arith, two))
      ∙ ap (λ (k : ℕ). holds (take (n - 2) b) p || within x (get_or b k nan) p) one

  pub insert-inside : lt y hi ≡ false → InsertPost b n lo hi b n
  insert-inside h = insert-none b n lo hi s (λ p w. last_apart p ∙ rw (inside p w) (or-true (holds (take (n - 2) b) p)))
    where
      inside : (p : Float) → within lo hi p ≡ true → within x y p ≡ true
      inside p w = both (le x p) (lt p y) (le_trans x lo p low (and_left (le lo p) (lt p hi) w))
          (lt-le-trans p hi y (and_right (le lo p) (lt p hi) w)
          (not-lt→le y hi (lt-number x y rises).1 (lt-number p hi (and_right (le lo p) (lt p hi) w)).1 h))

  pub insert-extends : n + 2 ≤ length b → lt y hi ≡ true → InsertPost b n lo hi (set b (n - 1) hi) n
  insert-extends room h = record {
    size = length-set b (n - 1) hi;
    most = omega arith;
    list = normal-pair (take n b) (take n (set b (n - 1) hi)) lo hi s (record {
      is_sound = sound-now;
      points = λ p. now_apart p ∙ ap (◌||◌ (holds (take (n - 2) b) p)) (spread p)
          ∙ sym (or_assoc (holds (take (n - 2) b) p) (within x y p) (within lo hi p))
          ∙ ap (λ (c : Bool). c || within lo hi p) (sym (last_apart p));
    }) drawn;
    rest = λ q g. get_or-set_other b (n - 1) q hi nan (λ e. omega arith);
  }
    where
      ends : take n (set b (n - 1) hi) ≡ take (n - 1) b ++ (hi ∷ [])
      ends = ap (λ (k : ℕ). take k (set b (n - 1) hi)) back ∙ take-suc-set b (n - 1) hi (omega arith)
        where
          back : n ≡ suc (n - 1)
          back = omega arith

      all-before : take n b ≡ take (n - 1) b ++ (y ∷ [])
      all-before = ap (λ (k : ℕ). take k b) back ∙ take-suc b (n - 1) nan (omega arith)
        where
          back : n ≡ suc (n - 1)
          back = omega arith

      -- the pair is not dropped, since lo ≤ y < hi
      drawn : All (λ e. Memᴰ e (take n b ++ pair_if lo hi)) (take n (set b (n - 1) hi))
      drawn =
          let P : Float → Type 0 = λ e. Memᴰ e (take n b ++ pair_if lo hi) in
          rw ends (all_append P (take (n - 1) b) (hi ∷ [])
          (all_left P (take (n - 1) b) (y ∷ []) (subst (All P) all-before (kept (take n b) lo hi)))
          (from-pair (take n b) lo hi (le_lt_trans lo y hi reaches h)).1)

      sound-now : sound (take n (set b (n - 1) hi)) ≡ true
      sound-now = rw ends (make-sound (take (n - 1) b ++ (hi ∷ []))
          (omega (
            arith,
            length-append (take (n - 1) b) (hi ∷ []),
            length-take-le (n - 1) b (omega arith),
            sound-mod (take n b) s,
            length-take-le n b fit,
          ))
          (rising-append (take (n - 1) b) (hi ∷ [])
          (rising-left (take (n - 1) b) (y ∷ []) (rw all-before at (sound-rising (take n b) s)))
          (rising-cons hi [] tt (unfold rising in refl))
          (all_map (λ e. Above e (y ∷ [])) (λ e. Above e (hi ∷ [])) (λ e k. (lt_trans e y hi k.0 h, tt))
          (take (n - 1) b) (rising-before (take (n - 1) b) (y ∷ []) (rw all-before at (sound-rising (take n b) s))))))

      now_apart : (p : Float) → holds (take n (set b (n - 1) hi)) p ≡ (holds (take (n - 2) b) p || within x hi p)
      now_apart p =
          ap (λ (k : ℕ). holds (take k (set b (n - 1) hi)) p) two
          ∙ holds_more (set b (n - 1) hi) (n - 2) p whole (omega (arith, two, length-set b (n - 1) hi))
          ∙ rw (
            one,
            take-set-le (n - 2) b (n - 1) hi (omega arith),
            get_or-set_other b (n - 1) (n - 2) hi nan (λ e. omega (arith, two)),
            get_or-set_same b (n - 1) hi nan (omega arith),
          )

      spread : (p : Float) → within x hi p ≡ (within x y p || within lo hi p)
      spread p = elim (by_cases (le x p)) [
        | inr k ↦ rw (k, not-lo k)
        | inl k ↦ rw k (elim (by_cases (lt p y)) [
          | inl t ↦ rw (t, lt_trans p y hi t h)
          | inr t ↦ rw (t, le_trans lo y p reaches (not-lt→le p y (le-number x p k).1 (lt-number x y rises).1 t))
        ])
      ]
        where
          not-lo : le x p ≡ false → le lo p ≡ false
          not-lo k = elim (by_cases (le lo p)) [ inl t ↦ absurd (clash (le x p) (le_trans x lo p low t) k) | inr t ↦ t ]
