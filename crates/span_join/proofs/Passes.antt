-- What the passes over the pairs of a list keep.
use mathlib.Core.Path.{◌≡◌, refl, sym, ◌∙◌, ap, subst}
use mathlib.Core.Bool.{true}
use mathlib.Core.List.{List, [], ◌∷◌, ◌++◌, append-nil, append_assoc}
use Prim.Native.Nat.{ℕ, ◌+◌, ◌-◌, ◌%◌, ◌≤◌, ◌<◌}
use native.Mathlib.Omega.{arith}
use lib.ListN.{length, get_or, take, drop, length-drop, drop_of_length-le}
use lib.Seq.{length-take-le}
use lib.Ieee.{Float, nan}
use Rattle.spans.specs.Spans.{sound, retained, NormalOf}
use Rattle.spans.specs.Steps.{SameFrom, PutPairPost, FilledFront}
use Rattle.spans.specs.declared.Place.{Place}
use Rattle.span_insert.specs.Steps.{InsertPost}
use Rattle.span_hits.proofs.Reading.{HitAt}
use Rattle.span_join.specs.Steps.{JoinedPart, JoinedFromFront, JoinedFromBack, ListInFront}
use Rattle.spans.proofs.Points.{take-pair, drop-pair}
use Rattle.spans.proofs.Normal.{normal-none, normal-then, normal-swap}
use Rattle.spans.proofs.Sets.{sound-mod}

-- ---- the pairs of a list worked in one by one, in place
pub record Joining (b₀ : List Float) (n k : ℕ) (b : List Float) : Type 0 where
  pub size : length b ≡ length b₀
  pub whole : k % 2 ≡ 0
  pub room : n ≤ k
  pub list : NormalOf (take k b₀) (take n b)
  pub same : SameFrom k b₀ b

pub joining-start : (b : List Float) → Joining b 0 0 b
joining-start b = record { size = refl; whole = omega arith; room = omega arith; list = normal-none; same = λ q h. refl }

pub joining-step : (b₀ b b' : List Float) (n k r : ℕ) → k + 2 ≤ length b₀ → Joining b₀ n k b
    → InsertPost b n (get_or b k nan) (get_or b (k + 1) nan) b' r → Joining b₀ r (k + 2) b'
joining-step b₀ b b' n k r fit s m = record {
  size = m.size ∙ s.size;
  whole = omega (arith, s.whole);
  room = omega (arith, s.room, m.most);
  list = rw (take-pair b₀ k fit) (normal-then (take k b₀) (get_or b₀ k nan ∷ get_or b₀ (k + 1) nan ∷ []) (take n b) (take r b')
      (rw (length-take-le k b₀ (omega arith)) s.whole) s.list
      (rw (s.same k (omega arith), s.same (k + 1) (omega arith)) at m.list));
  same = λ q h. m.rest q (omega (arith, s.room)) ∙ s.same q (omega arith);
}

pub joining-done : (b₀ b : List Float) (m n k : ℕ) → k ≤ m → m ≤ k → Joining b₀ n k b → FilledFront (NormalOf (take m b₀)) b₀ m b n
joining-done b₀ b m n k h g s = record {
  size = s.size;
  most = omega (arith, s.room);
  list = subst (λ (q : ℕ). NormalOf (take q b₀) (take n b)) (same k m h g) s.list;
}
  where
    same : (k m : ℕ) → k ≤ m → m ≤ k → k ≡ m
    same k m h g = omega arith

-- ---- the pairs that are not dropped, copied as they are found: with those from place k on they are all
pub record Gathered (spans b₀ : List Float) (at n k : ℕ) (b : List Float) : Type 0 where
  pub size : length b ≡ length b₀
  pub most : k ≤ length spans
  pub room : n ≤ at + k
  pub ends : take n b ++ retained (drop k spans) ≡ take at b₀ ++ retained spans

pub gather-start : (spans b : List Float) (at : ℕ) → Gathered spans b at at 0 b
gather-start spans b at = record { size = refl; most = omega arith; room = omega arith; ends = refl }

pub gather-step : (spans b₀ b b' : List Float) (at n k m r : ℕ) (lo hi : Float) → Gathered spans b₀ at n k b → HitAt spans k m lo hi
    → PutPairPost b n lo hi b' r → Gathered spans b₀ at r m b'
gather-step spans b₀ b b' at n k m r lo hi s f p = record {
  size = p.size ∙ s.size;
  most = omega (arith, f.inside, s.most);
  room = omega (arith, f.past, s.room, p.most);
  ends = ap (λ (l : List Float). l ++ retained (drop m spans)) (rw f.rises at p.ends)
      ∙ append_assoc (take n b) (lo ∷ hi ∷ []) (retained (drop m spans))
      ∙ ap (◌++◌ (take n b)) (sym f.goes) ∙ s.ends;
}

-- none is left from place k on
pub gather-done : (spans b₀ b : List Float) (at n k : ℕ) → at + length spans ≤ length b₀ → Gathered spans b₀ at n k b
    → retained (drop k spans) ≡ [] → ListInFront (take at b₀ ++ retained spans) b₀ b n
gather-done spans b₀ b at n k fit s none =
    let e : take n b ≡ take at b₀ ++ retained spans = sym (append-nil (take n b)) ∙ ap (◌++◌ (take n b)) (sym none) ∙ s.ends in
    record {
      size = s.size;
      count = sym (length-take-le n b (omega (arith, s.size, s.room, s.most))) ∙ ap length e;
      ends = e;
    }

pub gather-all : (spans b₀ b : List Float) (at n k : ℕ) → at + length spans ≤ length b₀ → length spans ≤ k → Gathered spans b₀ at n k b
    → ListInFront (take at b₀ ++ retained spans) b₀ b n
unfolding retained
gather-all spans b₀ b at n k fit h s = gather-done spans b₀ b at n k fit s (ap retained (drop_of_length-le spans {i = k} h))

-- the sound list at the start of the buffer has whole pairs
pub filled-even : (pairs b₀ b : List Float) (limit n : ℕ) → limit ≤ length b₀ → FilledFront (NormalOf pairs) b₀ limit b n → n % 2 ≡ 0
filled-even pairs b₀ b limit n fit s =
    omega (arith, sound-mod (take n b) s.list.list.is_sound, length-take-le n b (omega (arith, s.most, s.size)))

-- the part so far, of which a buffer that takes all pairs has room: it may be read, and takes a pair more
module _ {part : List Float} {limit : ℕ} {spans b₀ b : List Float} {r : Place} (s : JoinedPart part limit spans b₀ b r) where
  pub part-read : limit ≤ length b₀ → (r.end % 2 ≡ 0) × (r.end ≤ length b)
  part-read fit = (filled-even part b₀ b limit r.end fit s.filled, omega (arith, s.filled.size, s.filled.most))

  pub part_room : limit + 2 ≤ length b₀ → (r.end + 2 ≤ length b) × (sound (take r.end b) ≡ true)
  part_room fit = (omega (arith, s.filled.size, s.filled.most), s.filled.list.list.is_sound)

-- no pairs yet
filled_none : (b : List Float) → FilledFront (NormalOf []) b 0 b 0
filled_none b = record { size = refl; most = omega arith; list = normal-none }

-- one pair more, worked into the list at the start of the buffer
filled-step : (pairs b₀ b b' : List Float) (limit limit' n r : ℕ) (lo hi : Float) → length pairs % 2 ≡ 0
    → FilledFront (NormalOf pairs) b₀ limit b n → InsertPost b n lo hi b' r → limit + 2 ≤ limit'
    → FilledFront (NormalOf (pairs ++ (lo ∷ hi ∷ []))) b₀ limit' b' r
filled-step pairs b₀ b b' limit limit' n r lo hi even s m fit = record {
  size = m.size ∙ s.size;
  most = omega (arith, s.most, m.most);
  list = normal-then pairs (lo ∷ hi ∷ []) (take n b) (take r b') even s.list m.list;
}

-- ---- pairs joined as they are read, in their order
pub begun-start : (spans b : List Float) → JoinedFromFront spans b b (record { passed = 0; end = 0 })
begun-start spans b = record { passed_most = omega arith; passed_even = omega arith; filled = filled_none b }

pub begun-step : (spans b₀ b b' : List Float) (n k r : ℕ) → k + 2 ≤ length spans
    → JoinedFromFront spans b₀ b (record { passed = k; end = n })
    → InsertPost b n (get_or spans k nan) (get_or spans (k + 1) nan) b' r → JoinedFromFront spans b₀ b' (record { passed = k + 2; end = r })
begun-step spans b₀ b b' n k r fit s m = record {
  passed_most = fit;
  passed_even = omega (arith, s.passed_even);
  filled = rw (take-pair spans k fit) (filled-step (take k spans) b₀ b b' k (k + 2) n r (get_or spans k nan) (get_or spans (k + 1) nan)
      (rw (length-take-le k spans s.passed_most) s.passed_even) s.filled m (omega arith));
}

-- ---- the same from the last pair back
pub back_start : (spans b : List Float) → length spans % 2 ≡ 0 → JoinedFromBack spans b b (record { passed = length spans; end = 0 })
back_start spans b even = record {
  passed_most = omega arith;
  passed_even = even;
  filled = rw (drop_of_length-le spans {i = length spans} (omega arith), none (length spans)) (filled_none b);
}
  where
    none : (k : ℕ) → k - k ≡ 0
    none k = omega arith

pub back_step : (spans b₀ b b' : List Float) (n k r : ℕ) → length spans % 2 ≡ 0 → 0 < k
    → JoinedFromBack spans b₀ b (record { passed = k; end = n }) → InsertPost b n (get_or spans (k - 2) nan) (get_or spans (k - 1) nan) b' r
    → JoinedFromBack spans b₀ b' (record { passed = k - 2; end = r })
back_step spans b₀ b b' n k r even pos s m =
    let pair = get_or spans (k - 2) nan ∷ get_or spans (k - 1) nan ∷ [] in
    let whole : length (drop k spans) % 2 ≡ 0 = omega (arith, length-drop k spans, s.passed_most, s.passed_even) in
    let f = filled-step (drop k spans) b₀ b b' (length spans - k) (length spans - (k - 2)) n r (get_or spans (k - 2) nan)
    (get_or spans (k - 1) nan) whole s.filled m (omega (arith, s.passed_most, s.passed_even)) in
    record {
      passed_most = omega (arith, s.passed_most);
      passed_even = omega (arith, s.passed_even);
      filled = record {
        size = f.size;
        most = f.most;
        list = rw (drop-pair spans (k - 2) (omega (arith, s.passed_most, s.passed_even)), one s.passed_even, two s.passed_even)
            (normal-swap (drop k spans) pair (take r b') whole (omega arith) f.list);
      };
    }
  where
    one : k % 2 ≡ 0 → k - 2 + 1 ≡ k - 1
    one e = omega arith

    two : k % 2 ≡ 0 → k - 2 + 2 ≡ k
    two e = omega arith
