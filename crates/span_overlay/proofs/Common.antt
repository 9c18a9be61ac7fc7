-- The loop of `intersect_into`: what is written and what is still to come make up the whole list.
use mathlib.Core.Path.{◌≡◌, refl, sym, ◌∙◌, ap}
use mathlib.Core.Logic.{◌⊎◌, inl, inr}
use mathlib.Core.Bool.{true, false}
use mathlib.Core.List.{List, [], ◌++◌, append-nil, append_assoc}
use Prim.Native.Nat.{ℕ, ◌+◌, ◌≤◌, ◌<◌}
use native.Mathlib.Omega.{arith}
use lib.ListN.{length, get_or, take, drop, drop_of_length-le}
use lib.Ieee.{Float, nan, lt}
use Rattle.spans.specs.Spans.{sound, pair_if}
use Rattle.spans.specs.Steps.{PutPairPost, FilledFront}
use Rattle.spans.specs.Overlay.{shared_by, common_of}
use Rattle.doubles.specs.Doubles.{Number, larger_of, smaller_of}
use Rattle.doubles.proofs.Order.{not-lt→le, le_lt_trans, lt_trans}
use Rattle.spans.proofs.Ends.{All, rising-at}
use Rattle.spans.proofs.Sets.{sound-rising, sound-mod}
use Rattle.spans.proofs.Points.{numbers_of, number_at, drop-pair, above-by-place, drop-sound}
use Rattle.span_overlay.proofs.TwoLists.{BothPassed, none_passed, all-filled}
use Rattle.span_overlay.proofs.Shared.{by-none, past-front, with_none}

pub record Sharing (a b before : List Float) (i j n : ℕ) (out : List Float) : Type 0 where
  pub places : BothPassed a b before i j n out
  pub ends : take n out ++ common_of (drop i a) (drop j b) ≡ common_of a b

pub share-start : (a b before : List Float) → Sharing a b before 0 0 0 before
share-start a b before = record { places = none_passed a b before; ends = refl }

pub share-done : (a b before : List Float) (i j n : ℕ) (out : List Float) → (length a ≤ i) ⊎ (length b ≤ j) → Sharing a b before i j n out
    → FilledFront (λ l. l ≡ common_of a b) before (length a + length b) out n
unfolding common_of
share-done a b before i j n out h s = all-filled s.places s.ends (elim h [ inl k ↦ used k | inr k ↦ spent k ])
  where
    spent : length b ≤ j → common_of (drop i a) (drop j b) ≡ []
    spent k = ap (common_of (drop i a)) (drop_of_length-le b k) ∙ with_none (drop i a)

    used : length a ≤ i → common_of (drop i a) (drop j b) ≡ []
    used k = ap (λ (l : List Float). common_of l (drop j b)) (drop_of_length-le a k)

-- one turn: the list whose pair ends first goes on
pub record Turned (a b before : List Float) (i j r : ℕ) (out : List Float) : Type 0 where
  pub first : lt (get_or a (i + 1) nan) (get_or b (j + 1) nan) ≡ true → Sharing a b before (i + 2) j r out
  pub second : lt (get_or a (i + 1) nan) (get_or b (j + 1) nan) ≡ false → Sharing a b before i (j + 2) r out

module _ (a b before : List Float) (i j n : ℕ) (out out' : List Float) (r : ℕ) (sa : sound a ≡ true) (sb : sound b ≡ true)
    (s : Sharing a b before i j n out) (h : i < length a) (g : j < length b)
    (m : PutPairPost out n (larger_of (get_or a i nan) (get_or b j nan)) (smaller_of (get_or a (i + 1) nan) (get_or b (j + 1) nan)) out' r) where
  a-fits : i + 2 ≤ length a
  a-fits = omega (arith, sound-mod a sa, s.places.i_whole)

  b-fits : j + 2 ≤ length b
  b-fits = omega (arith, sound-mod b sb, s.places.j_whole)

  abbrev lo : Float
  lo = get_or a i nan

  abbrev hi : Float
  hi = get_or a (i + 1) nan

  abbrev x : Float
  x = get_or b j nan

  abbrev y : Float
  y = get_or b (j + 1) nan

  abbrev rest_a : List Float
  rest_a = drop (i + 2) a

  abbrev rest_b : List Float
  rest_b = drop (j + 2) b

  nhi : Number hi
  nhi = number_at a (i + 1) sa (omega (arith, a-fits))

  ny : Number y
  ny = number_at b (j + 1) sb (omega (arith, b-fits))

  numbers-a : All Number rest_a
  numbers-a = numbers_of rest_a (drop-sound a (i + 2) nan a-fits sa (omega (arith, s.places.i_whole)))

  numbers-b : All Number rest_b
  numbers-b = numbers_of rest_b (drop-sound b (j + 2) nan b-fits sb (omega (arith, s.places.j_whole)))

  -- this pair of both, then the other pairs of b with this one of a, then the other pairs of a
  split : common_of (drop i a) (drop j b) ≡ (pair_if (larger_of lo x) (smaller_of hi y) ++ shared_by lo hi rest_b) ++ common_of rest_a (drop j b)
  unfolding common_of shared_by
  split =
      ap (λ (l : List Float). common_of l (drop j b)) (drop-pair a i a-fits)
      ∙ ap (λ (l : List Float). shared_by lo hi l ++ common_of rest_a (drop j b)) (drop-pair b j b-fits)

  next : (k : List Float) → common_of (drop i a) (drop j b) ≡ pair_if (larger_of lo x) (smaller_of hi y) ++ k → take r out' ++ k ≡ common_of a b
  next k e =
      ap (λ (l : List Float). l ++ k) m.ends ∙ append_assoc (take n out) (pair_if (larger_of lo x) (smaller_of hi y)) k
      ∙ ap (λ (l : List Float). take n out ++ l) (sym e) ∙ s.ends

  -- the pair of a ends first
  share-a : lt (get_or a (i + 1) nan) (get_or b (j + 1) nan) ≡ true → Sharing a b before (i + 2) j r out'
  share-a t = record {
    places = record {
      size = m.size ∙ s.places.size;
      i_whole = omega (arith, s.places.i_whole);
      i_most = a-fits;
      j_whole = s.places.j_whole;
      j_most = s.places.j_most;
      most = omega (arith, m.most, s.places.most);
    };
    ends = next (common_of rest_a (drop j b)) (split ∙ ap (λ (l : List Float). l ++ common_of rest_a (drop j b))
        (ap (λ (l : List Float). pair_if (larger_of lo x) (smaller_of hi y) ++ l) (by-none lo hi (number_at a i sa h) nhi rest_b numbers-b
        (above-by-place b (j + 2) hi b-fits (sound-rising b sb)
        (λ k. lt_trans hi y (get_or b (j + 2) nan) t (rising-at b (j + 1) (j + 2) (sound-rising b sb) (omega arith) k))))
        ∙ append-nil (pair_if (larger_of lo x) (smaller_of hi y))));
  }

  -- the pair of b ends first, or both at once
  share-b : lt (get_or a (i + 1) nan) (get_or b (j + 1) nan) ≡ false → Sharing a b before i (j + 2) r out'
  unfolding common_of
  share-b t = record {
    places = record {
      size = m.size ∙ s.places.size;
      i_whole = s.places.i_whole;
      i_most = s.places.i_most;
      j_whole = omega (arith, s.places.j_whole);
      j_most = b-fits;
      most = omega (arith, m.most, s.places.most);
    };
    ends = next (common_of (drop i a) rest_b) (split
        ∙ append_assoc (pair_if (larger_of lo x) (smaller_of hi y)) (shared_by lo hi rest_b) (common_of rest_a (drop j b))
        ∙ ap (λ (l : List Float). pair_if (larger_of lo x) (smaller_of hi y) ++ (shared_by lo hi rest_b ++ l))
        (ap (common_of rest_a) (drop-pair b j b-fits)
        ∙ past-front x y rest_a rest_b numbers-a (number_at b j sb g) ny
        (above-by-place a (i + 2) y a-fits (sound-rising a sa)
        (λ k. le_lt_trans y hi (get_or a (i + 2) nan) (not-lt→le hi y nhi ny t)
        (rising-at a (i + 1) (i + 2) (sound-rising a sa) (omega arith) k))))
        ∙ ap (λ (l : List Float). pair_if (larger_of lo x) (smaller_of hi y) ++ common_of l rest_b) (sym (drop-pair a i a-fits)));
  }

  pub share-turn : Turned a b before i j r out'
  share-turn = record { first = share-a; second = share-b }
