-- Containment told by document 01's points alone, and a list within another: what they have in common is that list, end by end.
use mathlib.Core.Path.{◌≡◌, refl, sym, ◌∙◌, ap₂}
use mathlib.Core.Logic.{inl, inr}
use mathlib.Core.Bool.{true, false, true≢false}
use mathlib.Core.List.{List, [], ◌∷◌, ◌++◌}
use lib.ListN.{length}
use lib.Ieee.{Float, lt, le}
use Rattle.spans.specs.Spans.{Double, Point, within, holds, rising, sound, less, Within, pair_if}
use Rattle.spans.specs.Overlay.{higher_of, lower_of, cut_by, less_of, shared_by, common_of}
use Rattle.doubles.specs.Doubles.{larger_of, smaller_of, Number}
use Rattle.logic.proofs.Bools.{or_left, or_right, or_cases, and_left, and_right, both, by_cases, clash, not-false}
use Rattle.doubles.proofs.Order.{lt-number, lt→le, le→not-lt, not-lt→le, lt_irrefl, le_refl, le_trans}
use Rattle.spans.proofs.Ends.{not-not, odd_n, All, all_append, above-less, rising-tail, rising-above}
use Rattle.spans.proofs.Sets.{points-decide, sound-rising, sound-even}
use Rattle.spans.proofs.Points.{holds-above, numbers_of}
use Rattle.span_overlay.proofs.Less.{higher-first, higher-both, lower-second, lower-both, pair-all, pair-none, less-list}
use Rattle.span_overlay.proofs.Shared.{shared-is, by-none}

-- ---- what holds of each end that is given holds of each end of the difference
module _ (P : Float → Type 0) where
  cut_all : (lo hi : Float) (b : List Float) → P lo → P hi → All P b → All P (cut_by lo hi b)
  unfolding cut_by
  cut_all lo hi [] h k pb = pair-all P lo hi (λ _. (h, k))
  cut_all lo hi (x ∷ []) h k pb = pair-all P lo hi (λ _. (h, k))
  cut_all lo hi (x ∷ y ∷ b) h k pb =
      all_append P (pair_if lo (lower_of hi x)) (cut_by (higher_of lo y) hi b)
      (pair-all P lo (lower_of hi x) (λ _. (h, lower-both P hi x k pb.0)))
      (cut_all (higher_of lo y) hi b (higher-both P lo y h pb.1.0) k pb.1.1)

  pub less-all : (a b : List Float) → All P a → All P b → All P (less_of a b)
  unfolding less_of
  less-all [] b pa pb = tt
  less-all (lo ∷ []) b pa pb = tt
  less-all (lo ∷ hi ∷ a) b pa pb =
      all_append P (cut_by lo hi b) (less_of a b) (cut_all lo hi b pa.0 pa.1.0 pb) (less-all a b pa.1.1 pb)

-- ---- where each of document 01's points of the inner list is in the outer one, each number of it is
pub inside-points : (p c : List Float) → All Double p → All Double c → sound p ≡ true → sound c ≡ true
    → ((x : Float) → Point x → holds c x ≡ true → holds p x ≡ true) → (x : Float) → holds c x ≡ true → holds p x ≡ true
unfolding holds sound rising
inside-points p c dp dc sp sc f x h =
    not-false (holds p x) (sym (rw h refl) ∙ sym (points x)
    ∙ points-decide (less_of c p) [] (less-all Double c p dc dp) tt (less-list c p sc sp).is_sound refl none x)
  where
    points : (q : Float) → holds (less_of c p) q ≡ less c p q
    points = (less-list c p sc sp).points

    none : (q : Float) → Point q → holds (less_of c p) q ≡ false
    none q k = points q ∙ elim (by_cases (holds c q)) [ inl g ↦ rw (g, f q k g) refl | inr g ↦ rw g refl ]

-- ---- a pair within a list
by-within : (lo hi : Float) (b : List Float) → lt lo hi ≡ true → All Number b → rising b ≡ true
    → ((q : Float) → within lo hi q ≡ true → holds b q ≡ true) → shared_by lo hi b ≡ lo ∷ hi ∷ []
unfolding shared_by holds
by-within lo hi [] h nb r f = absurd (clash false (f lo (both (le lo lo) (lt lo hi) (le_refl lo (lt-number lo hi h).0) h)) refl)
by-within lo hi (x ∷ []) h nb r f = absurd (clash false (f lo (both (le lo lo) (lt lo hi) (le_refl lo (lt-number lo hi h).0) h)) refl)
by-within lo hi (x ∷ y ∷ b) h nb r f =
    let n = lt-number lo hi h in
    let t : rising (y ∷ b) ≡ true = rising-tail x (y ∷ b) r in
    let meet : pair_if (larger_of lo x) (smaller_of hi y) ≡ pair_if (higher_of lo x) (lower_of hi y) =
    shared-is lo hi x y n.0 n.1 nb.0 nb.1.0 in
    elim (by_cases (lt lo y)) [
      | inr u ↦
          -- the pair ends at or below lo
          let low : le y lo ≡ true = not-lt→le lo y n.0 nb.1.0 u in
          let none : lt (higher_of lo x) (lower_of hi y) ≡ false =
          le→not-lt (lower_of hi y) (higher_of lo x) (le_trans (lower_of hi y) y (higher_of lo x) (lower-second hi y n.1 nb.1.0)
          (le_trans y lo (higher_of lo x) low (higher-first lo x n.0))) in
          ap₂ ◌++◌ (meet ∙ pair-none (higher_of lo x) (lower_of hi y) none)
          (by-within lo hi b h nb.1.1 (rising-tail y b t) (λ q w. elim (or_cases (within x y q) (holds b q) (f q w)) [
            | inl v ↦ absurd (clash (lt q y) (and_right (le x q) (lt q y) v)
                (le→not-lt y q (le_trans y lo q low (and_left (le lo q) (lt q hi) w))))
            | inr v ↦ v
          ]))
      | inl u ↦
          -- lo and all below hi are in this pair: the pairs past it lie above y
          let start : le x lo ≡ true = elim
          (or_cases (within x y lo) (holds b lo) (f lo (both (le lo lo) (lt lo hi) (le_refl lo n.0) h))) [
            | inl v ↦ and_left (le x lo) (lt lo y) v
            | inr v ↦ absurd (clash (holds b lo) v (holds-above b lo (above-less lo y (lt→le lo y u) b (rising-above y b t))))
          ] in
          let end : lt y hi ≡ false = elim (by_cases (lt y hi)) [
            | inr k ↦ k
            | inl k ↦ elim (or_cases (within x y y) (holds b y) (f y (both (le lo y) (lt y hi) (lt→le lo y u) k))) [
              | inl v ↦ absurd (clash (lt y y) (and_right (le x y) (lt y y) v) (lt_irrefl y))
              | inr v ↦ absurd (clash (holds b y) v (holds-above b y (rising-above y b t)))
            ]
          ] in
          let whole : pair_if (higher_of lo x) (lower_of hi y) ≡ lo ∷ hi ∷ [] = rw (le→not-lt x lo start, end, h) refl in
          ap₂ ◌++◌ (meet ∙ whole)
          (by-none lo hi n.0 n.1 b nb.1.1
          (above-less hi y (not-lt→le y hi nb.1.0 n.1 end) b (rising-above y b t)))
    ]

common-stays : (c p : List Float) → rising c ≡ true → odd_n (length c) ≡ false → All Number p → rising p ≡ true
    → Within p c → common_of c p ≡ c
unfolding common_of holds
common-stays [] p rc e np rp f = refl
common-stays (lo ∷ []) p rc e np rp f = absurd (true≢false e)
common-stays (lo ∷ hi ∷ c) p rc e np rp f =
    ap₂ ◌++◌ (by-within lo hi p (rising-above lo (hi ∷ c) rc).0 np rp (λ q w. f q (or_left (within lo hi q) (holds c q) w)))
    (common-stays c p (rising-tail hi c (rising-tail lo (hi ∷ c) rc)) (sym (not-not (odd_n (length c))) ∙ e) np rp
    (λ q w. f q (or_right (within lo hi q) (holds c q) w)))

-- ---- a list within another is what they have in common, end by end
pub common-within : (c p : List Float) → sound c ≡ true → sound p ≡ true → Within p c → common_of c p ≡ c
common-within c p sc sp f = common-stays c p (sound-rising c sc) (sound-even c sc) (numbers_of p sp) (sound-rising p sp) f
