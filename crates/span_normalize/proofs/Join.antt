-- The passes put together: pairs sorted and joined, and pairs joined as they are read with the others worked in after.
use mathlib.Core.Path.{◌≡◌, refl, ◌∙◌, ap, subst}
use mathlib.Core.Logic.{inl, inr}
use mathlib.Core.Bool.{Bool, true, false, ◌||◌}
use mathlib.Core.List.Memᴰ
use mathlib.Core.List.{List, ◌∷◌, ◌++◌, Memᴰ}
use Prim.Native.Nat.{ℕ, ◌+◌, ◌%◌, ◌≤◌}
use native.Mathlib.Omega.{arith}
use lib.ListN.{length, take, drop, length-drop, length-append, take-append-drop}
use lib.Seq.{length-take-le, drop_at, take_all, take-append-le}
use borrow.Rule.Slice.PartMut.{put_mid, post_of}
use lib.Ieee.{Float}
use Rattle.spans.specs.Spans.{within, holds, retained, NormalOf, pair_if}
use Rattle.spans.specs.Steps.{FilledFront}
use Rattle.span_join.specs.Steps.{JoinedFromFront, JoinedFromBack, ListInFront}
use Rattle.pair_moves.specs.Pairs.{Rearranged, same, keep, swap, then, SamePairs}
use Rattle.spans.proofs.Normal.{retained-cons, retained-most, normal-same, normal-retained, normal-then, normal-swap}

-- ---- every order of the pairs is as good as another: it has the same points, and the same ends in pairs that are not dropped
or_swap : (a b c : Bool) → (a || (b || c)) ≡ (b || (a || c))
or_swap true true c = refl
or_swap true false c = refl
or_swap false b c = refl

holds-rearranged : {l m : List Float} → Rearranged l m → (p : Float) → holds m p ≡ holds l p
unfolding holds
holds-rearranged same p = refl
holds-rearranged (keep {lo} {hi} r) p = ap (◌||◌ (within lo hi p)) (holds-rearranged r p)
holds-rearranged (swap {a} {b} {c} {d} {l}) p = or_swap (within c d p) (within a b p) (holds l p)
holds-rearranged (then r s) p = holds-rearranged s p ∙ holds-rearranged r p

end-keep : (lo hi : Float) (l m : List Float) → ((e : Float) → Memᴰ e (retained m) → Memᴰ e (retained l))
    → (e : Float) → Memᴰ e (retained (lo ∷ hi ∷ m)) → Memᴰ e (retained (lo ∷ hi ∷ l))
end-keep lo hi l m f e h = rw (retained-cons lo hi l) (elim (Memᴰ.append_cases (pair_if lo hi) (rw (retained-cons lo hi m) at h)) [
  | inl k ↦ Memᴰ.append_left (retained l) k
  | inr k ↦ Memᴰ.append_right (pair_if lo hi) (f e k)
])

end-rearranged : {l m : List Float} → Rearranged l m → (e : Float) → Memᴰ e (retained m) → Memᴰ e (retained l)
end-rearranged same e h = h
end-rearranged (keep {lo} {hi} {l} {m} r) e h = end-keep lo hi l m (end-rearranged r) e h
end-rearranged (swap {a} {b} {c} {d} {l}) e h = elim (Memᴰ.append_cases (pair_if c d) (rw (retained-cons c d (a ∷ b ∷ l)) at h)) [
  | inl k ↦ rw (retained-cons a b (c ∷ d ∷ l)) (Memᴰ.append_right (pair_if a b) (rw (retained-cons c d l) (Memᴰ.append_left (retained l) k)))
  | inr k ↦ end-keep a b (c ∷ d ∷ l) l (λ e g. rw (retained-cons c d l) (Memᴰ.append_right (pair_if c d) g)) e k
]
end-rearranged (then r s) e h = end-rearranged r e (end-rearranged s e h)

-- the pairs sorted in a part of the buffer and joined there
pub sorted_front : (before sorted back after : List Float) (m r : ℕ) → SamePairs (take m before) sorted
    → take m back ≡ sorted → length back ≡ length before
    → FilledFront (NormalOf (take m back)) back m after r → FilledFront (NormalOf (take m before)) before m after r
sorted_front before sorted back after m r s e n f = record {
  size = f.size ∙ n;
  most = f.most;
  list = normal-same sorted (take m before) (take r after) (holds-rearranged s.pairs) (end-rearranged s.pairs)
      (subst (λ (l : List Float). NormalOf l (take r after)) e f.list);
}

-- ---- a list in a part of a buffer, when the part is back
pub part-back : (w ys : List Float) (at k r : ℕ) → at ≤ length w → r ≤ length ys → take r (drop at (put_mid at k w ys)) ≡ take r ys
part-back w ys at k r h g =
    ap (take r) (drop_at (take at w) (ys ++ post_of at k w) at (length-take-le at w h)) ∙ take-append-le r ys (post_of at k w) g

-- the number of ends when the pairs stand past the first n
pub gathered-count : (spans before front : List Float) (n m : ℕ) → n ≤ length before
    → ListInFront (take n before ++ retained spans) before front m → m ≡ n + length (retained spans)
gathered-count spans before front n m fit g =
    omega (arith, g.count, length-append (take n before) (retained spans), length-take-le n before fit)

-- the pairs gathered past the first n ends, then made their sound list
pub joined-more : (spans before front after : List Float) (n m r : ℕ) → n % 2 ≡ 0 → n ≤ length before
    → ListInFront (take n before ++ retained spans) before front m
    → FilledFront (NormalOf (take m front)) front m after r
    → FilledFront (NormalOf (take n before ++ spans)) before (n + length spans) after r
joined-more spans before front after n m r even fit g f = record {
  size = f.size ∙ g.size;
  most = omega (arith, f.most, gathered-count spans before front n m fit g, retained-most spans);
  list = normal-retained (take n before) spans (take r after) (rw (length-take-le n before fit) even)
      (subst (λ (l : List Float). NormalOf l (take r after)) g.ends f.list);
}

-- ---- pairs joined as they are read: all of them, or the others worked in after
pub begun_all : (spans b₀ b : List Float) (n k : ℕ) → length spans ≤ k → JoinedFromFront spans b₀ b (record { passed = k; end = n })
    → FilledFront (NormalOf spans) b₀ (length spans) b n
begun_all spans b₀ b n k h s = record {
  size = s.filled.size;
  most = omega (arith, s.filled.most, s.passed_most);
  list = subst (λ (l : List Float). NormalOf l (take n b)) (take_all k spans h) s.filled.list;
}

pub begun_more : (spans rest b₀ b b' : List Float) (n k r : ℕ) → rest ≡ drop k spans
    → JoinedFromFront spans b₀ b (record { passed = k; end = n })
    → FilledFront (NormalOf (take n b ++ rest)) b (n + length rest) b' r → FilledFront (NormalOf spans) b₀ (length spans) b' r
begun_more spans rest b₀ b b' n k r e s f = record {
  size = f.size ∙ s.filled.size;
  most = omega (arith, f.most, s.filled.most, s.passed_most, ap length e, length-drop k spans);
  list = subst (λ (l : List Float). NormalOf l (take r b')) (ap (◌++◌ (take k spans)) e ∙ take-append-drop k spans)
      (normal-then (take k spans) rest (take n b) (take r b') (rw (length-take-le k spans s.passed_most) s.passed_even)
      s.filled.list f.list);
}

pub back-all : (spans b₀ b₁ b : List Float) (n k : ℕ) → length b₁ ≡ length b₀ → k ≡ 0
    → JoinedFromBack spans b₁ b (record { passed = k; end = n }) → FilledFront (NormalOf spans) b₀ (length spans) b n
back-all spans b₀ b₁ b n k z e s = record {
  size = s.filled.size ∙ z;
  most = omega (arith, s.filled.most);
  list = subst (λ (q : ℕ). NormalOf (drop q spans) (take n b)) e s.filled.list;
}

pub back_more : (spans b₀ b₁ b b' : List Float) (n k r : ℕ) → length spans % 2 ≡ 0 → length b₁ ≡ length b₀
    → JoinedFromBack spans b₁ b (record { passed = k; end = n })
    → FilledFront (NormalOf (take n b ++ take k spans)) b (n + length (take k spans)) b' r
    → FilledFront (NormalOf spans) b₀ (length spans) b' r
back_more spans b₀ b₁ b b' n k r even z s f =
    let front : length (take k spans) % 2 ≡ 0 = rw (length-take-le k spans s.passed_most) s.passed_even in
    let back : length (drop k spans) % 2 ≡ 0 = omega (arith, length-drop k spans, s.passed_most, s.passed_even) in
    record {
      size = f.size ∙ s.filled.size ∙ z;
      most = omega (arith, f.most, s.filled.most, s.passed_most, length-take-le k spans s.passed_most);
      list = subst (λ (l : List Float). NormalOf l (take r b')) (take-append-drop k spans)
          (normal-swap (drop k spans) (take k spans) (take r b') back front
          (normal-then (drop k spans) (take k spans) (take n b) (take r b') back s.filled.list f.list));
    }
