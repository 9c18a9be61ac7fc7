-- The loops of `cut_pair` and `subtract_into`: what is written and what is still to come make up the whole list.
use mathlib.Core.Path.{◌≡◌, refl, sym, ◌∙◌, ap, ap₂, subst}
use mathlib.Core.Bool.{true, false}
use mathlib.Core.List.{List, [], ◌∷◌, ◌++◌, append-nil, append_assoc}
use Prim.Native.Nat.{ℕ, zero, suc, ◌+◌, ◌-◌, ◌%◌, ◌≤◌, ◌<◌}
use native.Mathlib.Omega.{arith}
use native.Mathlib.Decide.{dec_lt}
use lib.ListN.{length, get_or, take, drop, length-drop, drop_of_length-le}
use lib.Seq.{take-add}
use lib.Ieee.{Float, nan, lt, le}
use Rattle.spans.specs.Spans.{sound, pair_if}
use Rattle.spans.specs.Steps.{PutPairPost, FilledFront}
use Rattle.spans.specs.Overlay.{higher_of, lower_of, cut_by, less_of}
use Rattle.span_overlay.specs.Steps.{OverlayCutPre, OverlayCutPost}
use Rattle.spans.specs.declared.Place.{Place}
use Rattle.doubles.specs.Doubles.{Number}
use Rattle.doubles.proofs.Order.{lt-number, lt→le, le→not-lt, not-le→lt, le_trans}
use Rattle.spans.proofs.Ends.{all_append, All, AtMost, UpTo, up_to-more, rising-at}
use Rattle.spans.proofs.Sets.{sound-rising, sound-mod}
use Rattle.spans.proofs.Points.{numbers_of, drop-pair, pair-rises, number_at, up_to-last, drop-sound}
use Rattle.span_overlay.proofs.TwoLists.{BothPassed, none_passed, all-filled}
use Rattle.span_overlay.proofs.Less.{higher-second, higher-both, cut-none, cut-skip}

-- ---- the loop of `cut_pair`
pub record Cutting (rest : List Float) (from hi : Float) (before : List Float) (n : ℕ) (lo : Float) (j end : ℕ)
    (out : List Float) : Type 0 where
  pub size : length out ≡ length before
  pub whole : j % 2 ≡ 0
  pub j_most : j ≤ length rest
  pub most : end ≤ n + j
  pub under : lt lo hi ≡ true
  pub passed : UpTo hi (take j rest)
  pub ends : take end out ++ cut_by lo hi (drop j rest) ≡ take n before ++ cut_by from hi rest

pub cut-start : (rest : List Float) (from hi : Float) (before : List Float) (n : ℕ)
    → OverlayCutPre rest from hi before n → Cutting rest from hi before n from 0 n before
cut-start rest from hi before n s = record {
  size = refl;
  whole = omega arith;
  j_most = omega arith;
  most = omega arith;
  under = s.pair;
  passed = tt;
  ends = refl;
}

module _ (rest : List Float) (from hi : Float) (before : List Float) (n : ℕ) (lo : Float) (j end : ℕ) (out out' : List Float) (r : ℕ)
    (ready : OverlayCutPre rest from hi before n) (s : Cutting rest from hi before n lo j end out) where
  nlo : Number lo
  nlo = (lt-number lo hi s.under).0

  nhi : Number hi
  nhi = (lt-number lo hi s.under).1

  -- the pair [lo, x) is put, and the rest is m
  put-ends : (x : Float) (m : List Float) → PutPairPost out end lo x out' r → cut_by lo hi (drop j rest) ≡ pair_if lo x
      ++ m → take r out' ++ m ≡ take n before ++ cut_by from hi rest
  put-ends x m p e = ap (λ (l : List Float). l ++ m) p.ends ∙ append_assoc (take end out) (pair_if lo x) m
      ∙ ap (λ (l : List Float). take end out ++ l) (sym e) ∙ s.ends

  put-all-ends : (x : Float) → PutPairPost out end lo x out' r → cut_by lo hi (drop j rest) ≡ pair_if lo x ++ []
      → take r out' ≡ take n before ++ cut_by from hi rest
  put-all-ends x p e = sym (append-nil (take r out')) ∙ put-ends x [] p e

  -- the pair at place j, where there is one
  module _ (fit : j < length rest) where
    abbrev x : Float
    x = get_or rest j nan

    abbrev y : Float
    y = get_or rest (j + 1) nan

    pair_fits : j + 2 ≤ length rest
    pair_fits = omega (arith, sound-mod rest ready.rest_sound, s.whole)

    nx : Number x
    nx = number_at rest j ready.rest_sound fit

    ny : Number y
    ny = number_at rest (j + 1) ready.rest_sound (omega (arith, pair_fits))

    tail-numbers : All Number (drop (j + 2) rest)
    tail-numbers = numbers_of (drop (j + 2) rest) (drop-sound rest (j + 2) nan pair_fits ready.rest_sound (omega (arith, s.whole)))

    first : cut_by lo hi (drop j rest) ≡ pair_if lo (lower_of hi x) ++ cut_by (higher_of lo y) hi (drop (j + 2) rest)
    unfolding cut_by
    first = ap (cut_by lo hi) (drop-pair rest j pair_fits)

    -- nothing is left past a pair that reaches hi
    none_left : le hi y ≡ true → cut_by (higher_of lo y) hi (drop (j + 2) rest) ≡ []
    none_left h = cut-none hi nhi (higher_of lo y) (drop (j + 2) rest) (higher-both Number lo y nlo ny) tail-numbers
        (le_trans hi y (higher_of lo y) h (higher-second lo y nlo ny))

  -- the end of the list or an end from hi on comes next: the rest of the pair stays
  pub cut-last : PutPairPost out end lo hi out' r → (j < length rest → le hi (get_or rest j nan) ≡ true)
      → OverlayCutPost rest from hi before n out' (record { passed = j; end = r })
  unfolding cut_by
  cut-last m next = record {
    size = m.size ∙ s.size;
    passed_most = s.j_most;
    passed_even = s.whole;
    passed_up_to = s.passed;
    most = omega (arith, m.most, s.most);
    ends = put-all-ends hi m (elim (dec_lt j (length rest)) [ yes f ↦ more f | no f ↦ past f ]);
  }
    where
      past : (j < length rest → ⊥) → cut_by lo hi (drop j rest) ≡ pair_if lo hi ++ []
      past f = ap (cut_by lo hi) (drop_of_length-le rest {i = j} (omega arith)) ∙ sym (append-nil (pair_if lo hi))

      more : j < length rest → cut_by lo hi (drop j rest) ≡ pair_if lo hi ++ []
      more f = first f ∙ ap₂ (λ (z : Float) (l : List Float). pair_if lo z ++ l) (rw (le→not-lt hi (x f) (next f)) refl)
          (none_left f (le_trans hi (x f) (y f) (next f) (lt→le (x f) (y f) (pair-rises rest j ready.rest_sound (pair_fits f)))))

  -- the pair at place j starts below hi
  module _ (fit : j < length rest) (below-hi : le hi (get_or rest j nan) ≡ false) (m : PutPairPost out end lo (get_or rest j nan) out' r) where
    starts : cut_by lo hi (drop j rest) ≡ pair_if lo (x fit) ++ cut_by (higher_of lo (y fit)) hi (drop (j + 2) rest)
    starts = first fit ∙ ap (λ (z : Float). pair_if lo z ++ cut_by (higher_of lo (y fit)) hi (drop (j + 2) rest))
        (rw (not-le→lt hi (x fit) nhi (nx fit) below-hi) refl)

    -- it reaches hi
    pub cut-end : le hi (get_or rest (j + 1) nan) ≡ true → OverlayCutPost rest from hi before n out' (record { passed = j; end = r })
    cut-end h = record {
      size = m.size ∙ s.size;
      passed_most = s.j_most;
      passed_even = s.whole;
      passed_up_to = s.passed;
      most = omega (arith, m.most, s.most);
      ends = put-all-ends (x fit) m (starts ∙ ap (λ (l : List Float). pair_if lo (x fit) ++ l) (none_left fit h));
    }

    -- it ends below hi
    pub cut_step : le hi (get_or rest (j + 1) nan) ≡ false
        → Cutting rest from hi before n (higher_of lo (get_or rest (j + 1) nan)) (j + 2) r out'
    cut_step h =
        let up : lt (y fit) hi ≡ true = not-le→lt hi (y fit) nhi (ny fit) h in
        record {
          size = m.size ∙ s.size;
          whole = omega (arith, s.whole);
          j_most = pair_fits fit;
          most = omega (arith, m.most, s.most);
          under = higher-both (λ e. lt e hi ≡ true) lo (y fit) s.under up;
          passed = up_to-last rest (j + 2) hi (pair_fits fit) (sound-rising rest ready.rest_sound)
              (λ _. subst (λ (k : ℕ). le (get_or rest k nan) hi ≡ true) (last j) (lt→le (y fit) hi up));
          ends = put-ends (x fit) (cut_by (higher_of lo (y fit)) hi (drop (j + 2) rest)) m starts;
        }
      where
        last : (j : ℕ) → j + 1 ≡ j + 2 - 1
        last j = omega arith

-- ---- the loop of `subtract_into`
pub record Lessening (a b before : List Float) (i j n : ℕ) (out : List Float) : Type 0 where
  pub places : BothPassed a b before i j n out
  pub passed : i < length a → UpTo (get_or a i nan) (take j b)
  pub ends : take n out ++ less_of (drop i a) b ≡ less_of a b

pub less-start : (a b before : List Float) → Lessening a b before 0 0 0 before
less-start a b before = record { places = none_passed a b before; passed = λ h. tt; ends = refl }

pub less_done : (a b before : List Float) (i j n : ℕ) (out : List Float) → length a ≤ i → Lessening a b before i j n out
    → FilledFront (λ l. l ≡ less_of a b) before (length a + length b) out n
unfolding less_of
less_done a b before i j n out h s =
    all-filled s.places s.ends (ap (λ (l : List Float). less_of l b) (drop_of_length-le a h))

-- pairs that end at or below the start take nothing
skip-front : (lo hi : Float) → Number hi → (b : List Float) (j : ℕ) → j % 2 ≡ 0 → j ≤ length b → UpTo lo (take j b)
    → cut_by lo hi b ≡ cut_by lo hi (drop j b)
skip-front lo hi nh b zero e h u = refl
skip-front lo hi nh b (suc zero) e h u = absurd (omega arith)
skip-front lo hi nh [] (suc (suc j)) e h u = absurd (omega arith)
skip-front lo hi nh (x ∷ []) (suc (suc j)) e h u = absurd (omega arith)
skip-front lo hi nh (x ∷ y ∷ b) (suc (suc j)) e h u = cut-skip hi nh lo x y b u.0 u.1.0
    ∙ skip-front lo hi nh b j (omega arith) (omega arith) u.1.1

module _ (a b before : List Float) (i j n : ℕ) (out : List Float) (sa : sound a ≡ true) (sb : sound b ≡ true)
    (room : length a + length b ≤ length before) (s : Lessening a b before i j n out) (h : i < length a) where
  pair-in : i + 2 ≤ length a
  pair-in = omega (arith, sound-mod a sa, s.places.i_whole)

  pub less-ready : OverlayCutPre (drop j b) (get_or a i nan) (get_or a (i + 1) nan) out n
  less-ready = record {
    rest_sound = drop-sound b j nan s.places.j_most sb s.places.j_whole;
    pair = pair-rises a i sa pair-in;
    room = omega (arith, length-drop j b, s.places.j_most, s.places.most, pair-in, s.places.size);
  }

  pub less-step : (out' : List Float) (r : Place) → OverlayCutPost (drop j b) (get_or a i nan) (get_or a (i + 1) nan) out n out' r
      → Lessening a b before (i + 2) (j + r.passed) r.end out'
  unfolding less_of
  less-step out' r c =
      let lo = get_or a i nan in
      let hi = get_or a (i + 1) nan in
      let nh : Number hi = number_at a (i + 1) sa (omega (arith, pair-in)) in
      record {
        places = record {
          size = c.size ∙ s.places.size;
          i_whole = omega (arith, s.places.i_whole);
          i_most = pair-in;
          j_whole = omega (arith, s.places.j_whole, c.passed_even);
          j_most = omega (arith, s.places.j_most, c.passed_most, length-drop j b);
          most = omega (arith, s.places.most, c.most);
        };
        passed = λ g.
            let next = get_or a (i + 2) nan in
            let up : le hi next ≡ true = lt→le hi next (rising-at a (i + 1) (i + 2) (sound-rising a sa) (omega arith) g) in
            rw (take-add j r.passed b) (all_append (AtMost next) (take j b) (take r.passed (drop j b))
            (up_to-more lo next (le_trans lo hi next (lt→le lo hi (pair-rises a i sa pair-in)) up) (take j b) (s.passed h))
            (up_to-more hi next up (take r.passed (drop j b)) c.passed_up_to));
        ends =
            ap (λ (l : List Float). l ++ less_of (drop (i + 2) a) b) c.ends
            ∙ append_assoc (take n out) (cut_by lo hi (drop j b)) (less_of (drop (i + 2) a) b)
            ∙ ap (λ (l : List Float). take n out ++ (l ++ less_of (drop (i + 2) a) b))
            (sym (skip-front lo hi nh b j s.places.j_whole s.places.j_most (s.passed h)))
            ∙ ap (λ (l : List Float). take n out ++ less_of l b) (sym (drop-pair a i pair-in))
            ∙ s.ends;
      }
