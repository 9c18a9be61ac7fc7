-- One pair more of the hits: it lies below the front already, it moves the front, or it is put into the cells.
use mathlib.Core.Path.{◌≡◌, refl, sym, ◌∙◌}
use mathlib.Core.Logic.{◌⊎◌, inl, inr}
use mathlib.Core.Bool.{true, false, ◌||◌}
use mathlib.Core.List.{List, ◌∷◌}
use Prim.Native.Nat.{ℕ, ◌+◌, ◌%◌, ◌≤◌}
use native.Mathlib.Omega.{arith}
use lib.ListN.{length, get_or, take, set, length-set}
use lib.Seq.{take-set-le, get_or-set_same, get_or-set_other}
use lib.Ieee.{Float, nan, lt, le}
use Rattle.spans.specs.Spans.{within, holds}
use Rattle.spans.proofs.Points.{empty-pair, holds_more}
use Rattle.logic.proofs.Bools.{and_left, and_right, or_cases, or_left, or_right, clash}
use Rattle.doubles.proofs.Order.{lt-number, le_lt_trans, lt_trans, lt-le-trans, not-le→lt}
use Rattle.log_keys.specs.Keys.{pairs_past}
use Rattle.log_keys.proofs.Past.{begun-within, past_first, past_more}
use Rattle.log_gather.specs.declared.HeldHits.{HeldHits}
use Rattle.log_gather.specs.Gathering.{WholePairs, Gathers, MakeRoomPost, PutPost}

-- a pair put past the first n cells
abbrev pub with_pair : List Float → ℕ → Float → Float → List Float
with_pair cells n lo hi = set (set cells n lo) (n + 1) hi

module _ (cells : List Float) (n : ℕ) (lo hi : Float) where
  same_size : length (with_pair cells n lo hi) ≡ length cells
  same_size = simp length-set

  holds-pair : n % 2 ≡ 0 → n + 2 ≤ length cells → (x : Float)
      → holds (take (n + 2) (with_pair cells n lo hi)) x ≡ (holds (take n cells) x || within lo hi x)
  holds-pair whole room x = holds_more (with_pair cells n lo hi) n x whole (omega (arith, same_size)) ∙ rw (front, first, second)
    where
      front : take n (with_pair cells n lo hi) ≡ take n cells
      front = take-set-le n (set cells n lo) (n + 1) hi (omega arith) ∙ take-set-le n cells n lo (omega arith)

      first : get_or (with_pair cells n lo hi) n nan ≡ lo
      first = get_or-set_other (set cells n lo) (n + 1) n hi nan (λ e. omega (arith, e)) ∙ get_or-set_same cells n lo nan (omega arith)

      second : get_or (with_pair cells n lo hi) (n + 1) nan ≡ hi
      second = get_or-set_same (set cells n lo) (n + 1) hi nan (simp length-set (omega arith))

module _ (b u f lo hi : Float) (hits cells : List Float) (h : HeldHits) (g : Gathers b u f hits cells h) where
  pair-cases : (x : Float) → holds (lo ∷ hi ∷ hits) x ≡ true → (within lo hi x ≡ true) ⊎ (holds hits x ≡ true)
  unfolding holds
  pair-cases x k = or_cases (within lo hi x) (holds hits x) k

  fronts-still : (x : Float) → within b h.front x ≡ true → (lt x f ≡ true) ⊎ (holds (lo ∷ hi ∷ hits) x ≡ true)
  unfolding holds
  fronts-still x k = elim (g.fronts x k) [
    | inl l ↦ inl l
    | inr l ↦ inr (or_right (within lo hi x) (holds hits x) l)
  ]

  past-still : (x : Float) → holds (take h.count cells) x ≡ true → holds (pairs_past b (lo ∷ hi ∷ hits)) x ≡ true
  past-still x k = past_more b lo hi hits x (g.past x k)

  ends-still : (h.end ≡ u) ⊎ ((lt h.end u ≡ true) × (holds (pairs_past b (lo ∷ hi ∷ hits)) h.end ≡ true))
  ends-still = elim g.ends [
    | inl l ↦ inl l
    | inr l ↦ inr (l.0, past_more b lo hi hits h.end l.1)
  ]

  covered : ((x : Float) → lt x h.end ≡ true → within lo hi x ≡ true → lt x h.front ≡ true) → Gathers b u f (lo ∷ hi ∷ hits) cells h
  covered low = record {
    roomy = g.roomy;
    higher = g.higher;
    fronts = fronts-still;
    past = past-still;
    all = λ x w k. elim (pair-cases x k) [
      | inl l ↦ inl (low x (and_right (le b x) (lt x h.end) w) l)
      | inr l ↦ g.all x w l
    ];
    ends = ends-still;
  }

  -- the pair begins at or before b and reaches further than the front
  moved : lt lo hi ≡ true → le hi h.front ≡ false → lt b lo ≡ false
      → Gathers b u f (lo ∷ hi ∷ hits) cells (record { count = h.count; end = h.end; front = hi })
  unfolding holds
  moved rises far early = record {
    roomy = g.roomy;
    higher = λ x k. further x (g.higher x k);
    fronts = λ x w. inr (or_left (within lo hi x) (holds hits x) (begun-within b lo hi x rises early w));
    past = past-still;
    all = λ x w k. elim (pair-cases x k) [
      | inl l ↦ inl (and_right (le lo x) (lt x hi) l)
      | inr l ↦ elim (g.all x w l) [
        | inl p ↦ inl (further x p)
        | inr p ↦ inr p
      ]
    ];
    ends = ends-still;
  }
    where
      further : (x : Float) → lt x h.front ≡ true → lt x hi ≡ true
      further x k = lt_trans x h.front hi k (not-le→lt hi h.front (lt-number lo hi rises).1 (lt-number x h.front k).1 far)

  -- the pair is put past the cells in use
  stored : lt b lo ≡ true → h.count + 2 ≤ length cells
      → Gathers b u f (lo ∷ hi ∷ hits) (with_pair cells h.count lo hi)
      (record { count = h.count + 2; end = h.end; front = h.front })
  stored late room = record {
    roomy = record { room = omega (arith, same_size cells h.count lo hi); whole = omega (arith, g.roomy.whole) };
    higher = g.higher;
    fronts = fronts-still;
    past = λ x k. elim (or_cases (holds (take h.count cells) x) (within lo hi x) (sym (more x) ∙ k)) [
      | inl l ↦ past-still x l
      | inr l ↦ past_first b lo hi hits x late l
    ];
    all = λ x w k. elim (pair-cases x k) [
      | inl l ↦ inr (more x ∙ or_right (holds (take h.count cells) x) (within lo hi x) l)
      | inr l ↦ elim (g.all x w l) [
        | inl p ↦ inl p
        | inr p ↦ inr (more x ∙ or_left (holds (take h.count cells) x) (within lo hi x) p)
      ]
    ];
    ends = ends-still;
  }
    where
      more : (x : Float)
          → holds (take (h.count + 2) (with_pair cells h.count lo hi)) x ≡ (holds (take h.count cells) x || within lo hi x)
      more = holds-pair cells h.count lo hi g.roomy.whole room

-- what `put` leaves
module _ {b lo hi : Float} {cells : List Float} {h : HeldHits} (roomy : WholePairs cells h.count) where
  puts-covered : ((x : Float) → lt x h.end ≡ true → within lo hi x ≡ true → lt x h.front ≡ true) → PutPost b lo hi cells h cells h
  puts-covered low = record { size = refl; roomy = roomy; gathers = λ u f hits g. covered b u f lo hi hits cells h g low }

  pub puts_none : lt lo hi ≡ false → PutPost b lo hi cells h cells h
  puts_none e = puts-covered (λ x k w. absurd (clash (within lo hi x) w (empty-pair lo hi x e)))

  pub puts-below : le hi h.front ≡ true → PutPost b lo hi cells h cells h
  puts-below e = puts-covered (λ x k w. lt-le-trans x hi h.front (and_right (le lo x) (lt x hi) w) e)

  pub puts-beyond : lt lo h.end ≡ false → PutPost b lo hi cells h cells h
  puts-beyond e = puts-covered (λ x k w. absurd (clash (lt lo h.end) (le_lt_trans lo x h.end (and_left (le lo x) (lt x hi) w) k) e))

  pub puts-front : lt lo hi ≡ true → le hi h.front ≡ false → lt b lo ≡ false
      → PutPost b lo hi cells h cells (record { count = h.count; end = h.end; front = hi })
  puts-front rises far early = record {
    size = refl;
    roomy = roomy;
    gathers = λ u f hits g. moved b u f lo hi hits cells h g rises far early;
  }

pub puts-cells : {b lo hi : Float} {before cells : List Float} {h w : HeldHits} → MakeRoomPost before h cells w → lt b lo ≡ true
    → PutPost b lo hi before h (with_pair cells w.count lo hi) (record { count = w.count + 2; end = w.end; front = w.front })
puts-cells {b} {lo} {hi} {cells = cells} {w = w} s late = record {
  size = size ∙ s.size;
  roomy = record { room = omega (arith, size, s.room); whole = omega (arith, s.whole) };
  gathers = λ u f hits g. stored b u f lo hi hits cells w (s.gathers b u f hits g) late s.room;
}
  where
    size : length (with_pair cells w.count lo hi) ≡ length cells
    size = same_size cells w.count lo hi
