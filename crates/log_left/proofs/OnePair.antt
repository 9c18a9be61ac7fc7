-- A hit is taken from one pair of a sound list. What stands in front of the pair ends at or below the hit's start, so what is left of the
-- pair goes between that and the pairs behind it.
use Rattle.std.proofs.Common.{◌≡◌, ◌%◌, Bool, true, false, not, ◌&&◌, ◌||◌, List, ◌∷◌, ◌++◌, length, sym, refl, ap, ◌∙◌, ap₂, inl, inr}
use Rattle.std.proofs.Common.{true≢false, arith, length-append}
use mathlib.Core.Bool.{false≢true}
use lib.Ieee.{Float, lt, le}
use Rattle.doubles.specs.Doubles.{Number}
use Rattle.logic.proofs.Bools.{and_left, and_right, and-true, and-false, or_left, or_right, both, by_cases, clash}
use Rattle.doubles.proofs.Order.{lt-number, le-number, le_refl, lt→le, lt_not_le, le_trans, lt-le-trans, lt_trans}
use Rattle.spans.specs.Spans.{within, holds, rising, sound, ListOf, pair_if}
use Rattle.spans.specs.Steps.{UpTo}
use Rattle.spans.proofs.Ends.{AtMost, Over, Above, all_append, all_map, above-less, up_to-more, rising-tail, rising-above, rising-append}
use Rattle.spans.proofs.Ends.{rising-left, rising-right, rising-before}
use Rattle.spans.proofs.Sets.{odd_n-mod, sound-rising, sound-mod, make-sound}
use Rattle.spans.proofs.Points.{or-false, holds-append, holds-up_to, holds-above}
use Rattle.spans.specs.Overlay.{higher_of}
use Rattle.span_overlay.proofs.Less.{higher-first, higher-second, higher-both, pair-all, pair-even, pair-rising, pair-holds}

-- the parts of a list with a pair in its midst
module _ (done tail : List Float) (from e : Float) (s : rising (done ++ (from ∷ e ∷ tail)) ≡ true) where
  present : rising (from ∷ e ∷ tail) ≡ true
  present = rising-right done (from ∷ e ∷ tail) s

  pub pair-up : lt from e ≡ true
  pair-up = (rising-above from (e ∷ tail) present).0

  pub behind-rising : rising tail ≡ true
  behind-rising = rising-tail e tail (rising-tail from (e ∷ tail) present)

  pub behind-above : Above e tail
  behind-above = rising-above e tail (rising-tail from (e ∷ tail) present)

  pub in-front : UpTo from done
  in-front =
      all_map (λ x. Above x (from ∷ e ∷ tail)) (AtMost from) (λ x h. lt→le x from h.0) done
      (rising-before done (from ∷ e ∷ tail) s)

-- what is decided once a hit from lo on is taken from the pair, and what is not
abbrev pub decided : List Float → Float → Float → List Float
decided done from lo = done ++ pair_if from lo

abbrev pub undecided : Float → Float → List Float → List Float
undecided hi e tail = pair_if hi e ++ tail

-- the points that the hit takes from the pair
abbrev pub taken : Float → Float → Float → Float → Float → Bool
taken from e lo hi p = within lo hi p && within from e p

-- the list of the points q with the hit taken from the pair
pub record Cut (done tail : List Float) (from e lo hi : Float) (q : Float → Bool) : Type 0 where
  pub whole : length (decided done from lo) % 2 ≡ 0
  pub passed : UpTo lo (decided done from lo)
  pub list : ListOf (λ p. q p && not (taken from e lo hi p)) (decided done from lo ++ undecided hi e tail)
  pub point : (p : Float) × (q p ≡ true) × (taken from e lo hi p ≡ true)

-- a pair less a hit is what lies in front of the hit, and past it
apart : (p from e lo hi : Float) → within from e p ≡ true → Number lo → Number hi
    → (within from lo p || within hi e p) ≡ not (within lo hi p)
apart p from e lo hi w nl nh =
    let a : le from p ≡ true = and_left (le from p) (lt p e) w in
    let b : lt p e ≡ true = and_right (le from p) (lt p e) w in
    let np : Number p = (le-number from p a).1 in
    rw (a, b, lt_not_le p lo np nl, lt_not_le p hi np nh) (outside (le lo p) (le hi p))
  where
    outside : (x y : Bool) → (not x || (y && true)) ≡ not (x && not y)
    outside true true = refl
    outside true false = refl
    outside false y = refl

-- a part of a pair holds no point that the pair does not
part_none : (a b c d p : Float) → le c a ≡ true → le b d ≡ true → within c d p ≡ false → within a b p ≡ false
part_none a b c d p h k w = elim (by_cases (within a b p)) [
  | inl u ↦
      absurd (clash (within c d p)
      (both (le c p) (lt p d) (le_trans c a p h (and_left (le a p) (lt p b) u)) (lt-le-trans p b d (and_right (le a p) (lt p b) u) k)) w)
  | inr u ↦ u
]

-- one point: d and t say whether the pairs in front and behind hold it
module _ (p from e lo hi : Float) (d t : Bool) where
  inside : within from e p ≡ true → d ≡ false → t ≡ false → (within from lo p || within hi e p) ≡ not (within lo hi p)
      → ((d || within from lo p) || (within hi e p || t)) ≡ ((d || (within from e p || t)) && not (taken from e lo hi p))
  inside w k h g = go d t (within from e p) k h w
    where
      go : (d t x : Bool) → d ≡ false → t ≡ false → x ≡ true
          → ((d || within from lo p) || (within hi e p || t)) ≡ ((d || (x || t)) && not (within lo hi p && x))
      go true t x k h w = absurd (true≢false k)
      go false true x k h w = absurd (true≢false h)
      go false false true k h w = ap (◌||◌ (within from lo p)) (or-false (within hi e p)) ∙ g ∙ sym (ap not (and-true (within lo hi p)))
      go false false false k h w = absurd (false≢true w)

  past : within from e p ≡ false → within from lo p ≡ false → within hi e p ≡ false
      → ((d || within from lo p) || (within hi e p || t)) ≡ ((d || (within from e p || t)) && not (taken from e lo hi p))
  past w a b = rw (a, b) (go (within from e p) w)
    where
      go : (x : Bool) → x ≡ false → ((d || false) || t) ≡ ((d || (x || t)) && not (within lo hi p && x))
      go true w = absurd (true≢false w)
      go false w =
          ap (λ (b : Bool). b || t) (or-false d) ∙ sym (and-true (d || t))
          ∙ sym (ap (λ (b : Bool). (d || t) && not b) (and-false (within lo hi p) false refl))

module _ (done tail : List Float) (from e lo hi : Float) (s : sound (done ++ (from ∷ e ∷ tail)) ≡ true) (whole : length done % 2 ≡ 0)
    (passed : UpTo lo done) (up : lt lo hi ≡ true) (reaches : lt from hi ≡ true) (reached : lt lo e ≡ true) where
  rises : rising (done ++ (from ∷ e ∷ tail)) ≡ true
  rises = sound-rising (done ++ (from ∷ e ∷ tail)) s

  decided-whole : length (decided done from lo) % 2 ≡ 0
  decided-whole = omega (arith, length-append done (pair_if from lo), pair-even from lo)

  decided-passed : UpTo lo (decided done from lo)
  decided-passed =
      all_append (AtMost lo) done (pair_if from lo) passed
      (pair-all (AtMost lo) from lo (λ t. (lt→le from lo t, le_refl lo (lt-number lo hi up).0)))

  undecided-above : Above lo (undecided hi e tail)
  undecided-above =
      all_append (Over lo) (pair_if hi e) tail (pair-all (Over lo) hi e (λ t. (up, reached)))
      (above-less lo e (lt→le lo e reached) tail (behind-above done tail from e rises))

  decided-rising : rising (decided done from lo) ≡ true
  decided-rising =
      rising-append done (pair_if from lo) (rising-left done (from ∷ e ∷ tail) rises) (pair-rising from lo)
      (all_map (λ x. Above x (from ∷ e ∷ tail)) (λ x. Above x (pair_if from lo))
      (λ x h. pair-all (Over x) from lo (λ t. (h.0, lt_trans x from lo h.0 t)))
      done (rising-before done (from ∷ e ∷ tail) rises))

  undecided-rising : rising (undecided hi e tail) ≡ true
  undecided-rising =
      rising-append (pair_if hi e) tail (pair-rising hi e) (behind-rising done tail from e rises)
      (pair-all (λ x. Above x tail) hi e (λ t. (above-less hi e (lt→le hi e t) tail above, above)))
    where
      above : Above e tail
      above = behind-above done tail from e rises

  cut-sound : sound (decided done from lo ++ undecided hi e tail) ≡ true
  cut-sound =
      make-sound (decided done from lo ++ undecided hi e tail)
      (omega (
        arith,
        whole,
        pair-even hi e,
        decided-whole,
        length-append (decided done from lo) (undecided hi e tail),
        length-append (pair_if hi e) tail,
        length-append done (from ∷ e ∷ tail),
        sound-mod (done ++ (from ∷ e ∷ tail)) s,
      ))
      (rising-append (decided done from lo) (undecided hi e tail) decided-rising undecided-rising
      (all_map (AtMost lo) (λ x. Above x (undecided hi e tail)) (λ x h. above-less x lo h (undecided hi e tail) undecided-above)
      (decided done from lo) decided-passed))

  cut_holds : (p : Float) → holds (decided done from lo ++ undecided hi e tail) p
      ≡ (holds (done ++ (from ∷ e ∷ tail)) p && not (taken from e lo hi p))
  unfolding holds
  cut_holds p =
      holds-append (decided done from lo) (undecided hi e tail) p (odd_n-mod (length (decided done from lo)) decided-whole)
      ∙ ap₂ ◌||◌ (holds-append done (pair_if from lo) p (odd_n-mod (length done) whole) ∙ ap (◌||◌ (holds done p)) (pair-holds from lo p))
      (holds-append (pair_if hi e) tail p (odd_n-mod (length (pair_if hi e)) (pair-even hi e))
      ∙ ap (λ (b : Bool). b || holds tail p) (pair-holds hi e p))
      ∙ elim (by_cases (within from e p)) [
        | inl w ↦
            inside p from e lo hi (holds done p) (holds tail p) w
            (holds-up_to done p (up_to-more from p (and_left (le from p) (lt p e) w) done (in-front done tail from e rises)))
            (holds-above tail p (above-less p e (lt→le p e (and_right (le from p) (lt p e) w)) tail (behind-above done tail from e rises)))
            (apart p from e lo hi w n.0 n.1)
        | inr w ↦
            past p from e lo hi (holds done p) (holds tail p) w
            (part_none from lo from e p (le_refl from m.0) (lt→le lo e reached) w)
            (part_none hi e from e p (lt→le from hi reaches) (le_refl e m.1) w)
      ]
      ∙ ap (λ (b : Bool). b && not (taken from e lo hi p)) (sym (holds-append done (from ∷ e ∷ tail) p (odd_n-mod (length done) whole)))
    where
      n : Number lo × Number hi
      n = lt-number lo hi up

      m : Number from × Number e
      m = lt-number from e (pair-up done tail from e rises)

  -- the point that the hit surely takes
  taken-point : (p : Float) × (holds (done ++ (from ∷ e ∷ tail)) p ≡ true) × (taken from e lo hi p ≡ true)
  unfolding holds
  taken-point =
      let pair = pair-up done tail from e rises in
      let m = lt-number from e pair in
      let p = higher_of from lo in
      let w : within from e p ≡ true =
      both (le from p) (lt p e) (higher-first from lo m.0) (higher-both (λ x. lt x e ≡ true) from lo pair reached) in
      let v : within lo hi p ≡ true =
      both (le lo p) (lt p hi) (higher-second from lo m.0 (lt-number lo hi up).0)
      (higher-both (λ x. lt x hi ≡ true) from lo reaches up) in
      let held = or_right (holds done p) (within from e p || holds tail p) (or_left (within from e p) (holds tail p) w) in
      (p, holds-append done (from ∷ e ∷ tail) p (odd_n-mod (length done) whole) ∙ held, both (within lo hi p) (within from e p) v w)

  pub cut_list : (q : Float → Bool) → ((p : Float) → holds (done ++ (from ∷ e ∷ tail)) p ≡ q p) → Cut done tail from e lo hi q
  cut_list q h = record {
    whole = decided-whole;
    passed = decided-passed;
    list = record { is_sound = cut-sound; points = λ p. cut_holds p ∙ ap (λ (b : Bool). b && not (taken from e lo hi p)) (h p) };
    point = let (p, a, b) = taken-point in (p, sym (h p) ∙ a, b);
  }
