-- A search from the high end, and a run of ends in front of cells that were moved.
use mathlib.Core.Path.{◌≡◌, refl, sym, ◌∙◌, ap, subst}
use mathlib.Core.Bool.{Bool, true, false}
use mathlib.Core.List.{List, [], ◌∷◌, ◌++◌, append_assoc}
use Prim.Native.Nat.{ℕ, suc, ◌+◌, ◌-◌, ◌%◌, ◌≤◌, ◌<◌}
use native.Mathlib.Omega.{arith}
use native.Mathlib.Decide.{dec_lt}
use lib.Dec.{eqb}
use lib.ListN.{length, get_or, take, drop, set, length-append, length-drop}
use lib.Seq.{get_or-set_other, get_or-take, get_or-drop, ext_get_or, length-take-le, take-take, take-add, take_at, drop_at}
use lib.Seq.{sets, sets-eq, length-sets}
use lib.Ieee.{Float, nan}
use Rattle.span_insert.specs.Steps.{EndsCounted, CellsMoved, SplicePost, end_if}

-- ---- a search from the high end
-- of the first n ends those from i on fail the test
pub record Searched (test : Float → Bool) (l : List Float) (n i : ℕ) : Type 0 where
  pub most : i ≤ n
  pub past : (k : ℕ) → i ≤ k → k < n → test (get_or l k nan) ≡ false

pub searched-start : (test : Float → Bool) (l : List Float) (n : ℕ) → Searched test l n n
searched-start test l n = record { most = omega arith; past = λ k h g. absurd (omega arith) }

pub searched-turn : (test : Float → Bool) (l : List Float) (n i : ℕ) → Searched test l n i → test (get_or l (i - 1) nan) ≡ false
    → Searched test l n (i - 1)
searched-turn test l n i s t = record {
  most = omega (arith, s.most);
  past = λ k g f. elim (dec_lt k i) [
    | yes a ↦ subst (λ (m : ℕ). test (get_or l m nan) ≡ false) (same k i a g) t
    | no a ↦ s.past k (omega arith) f
  ];
}
  where
    same : (k i : ℕ) → k < i → i - 1 ≤ k → i - 1 ≡ k
    same k i a g = omega arith

pub searched-found : (test : Float → Bool) (l : List Float) (n i : ℕ) → Searched test l n i → (0 < i → test (get_or l (i - 1) nan) ≡ true)
    → EndsCounted test l n i
searched-found test l n i s t = record { most = s.most; past = s.past; last = t }

-- ---- a run of ends in front of cells that were moved
pub spliced : (b b₁ : List Float) (n i j w : ℕ) (mid : List Float) → i ≤ j → j ≤ n → n ≤ length b → w ≡ i + length mid
    → w + (n - j) ≤ length b → CellsMoved b j w (n - j) b₁
    → take (w + (n - j)) (sets b₁ i mid) ≡ take i (take n b) ++ (mid ++ drop j (take n b))
spliced b b₁ n i j w mid ij jn nb e fit m =
    let t = n - j in
    let head : length (take i b₁ ++ mid) ≡ w =
    omega (arith, length-append (take i b₁) mid, length-take-le i b₁ (omega (arith, m.size))) in
    let laid : sets b₁ i mid ≡ (take i b₁ ++ mid) ++ drop w b₁ =
    sets-eq mid b₁ i (omega (arith, m.size)) ∙ ap (λ (k : ℕ). (take i b₁ ++ mid) ++ drop k b₁) (sym e) in
    let front : take i b₁ ≡ take i (take n b) =
    ext_get_or nan (take i b₁) (take i b) (length-take-le i b₁ (omega (arith, m.size)) ∙ sym (length-take-le i b (omega arith)))
    (λ q g.
    let small : q < i = omega (arith, length-take-le i b₁ (omega (arith, m.size))) in
    get_or-take i b₁ q nan small ∙ m.front q (omega arith) (omega arith) ∙ sym (get_or-take i b q nan small))
    ∙ sym (take-take i n b (omega arith)) in
    let size : length (take t (drop w b₁)) ≡ t = length-take-le t (drop w b₁) (omega (arith, length-drop w b₁, m.size)) in
    let back : take t (drop w b₁) ≡ drop j (take n b) =
    ext_get_or nan (take t (drop w b₁)) (drop j (take n b))
    (omega (arith, size, length-drop j (take n b), length-take-le n b nb))
    (λ q g.
    let small : q < t = omega (arith, size) in
    get_or-take t (drop w b₁) q nan small ∙ get_or-drop w b₁ q nan ∙ m.cells q small
    ∙ sym (get_or-drop j (take n b) q nan ∙ get_or-take n b (j + q) nan (omega arith))) in
    ap (take (w + t)) laid
    ∙ take-add w t ((take i b₁ ++ mid) ++ drop w b₁)
    ∙ rw (take_at (take i b₁ ++ mid) (drop w b₁) w head, drop_at (take i b₁ ++ mid) (drop w b₁) w head, front, back)
    (append_assoc (take i (take n b)) mid (drop j (take n b)))

-- a run of cells that are set lies in front of place q
sets-past : (b l : List Float) (i q : ℕ) → i + length l ≤ q → get_or (sets b i l) q nan ≡ get_or b q nan
sets-past b [] i q h = refl
sets-past b (x ∷ l) i q h = sets-past (set b i x) l (suc i) q (omega arith) ∙ get_or-set_other b i q x nan (λ e. omega arith)

-- x and y say whether the places i and j have an even number of ends in front of them
pub splice-done : (b b₁ : List Float) (n i j w : ℕ) (lo hi : Float) (x y : Bool) → i ≤ j → j ≤ n → n + 2 ≤ length b
    → eqb (i % 2) 0 ≡ x → eqb (j % 2) 0 ≡ y → w ≡ i + length (end_if x lo ++ end_if y hi) → w ≤ i + 2
    → CellsMoved b j w (n - j) b₁ → SplicePost b n i j lo hi (sets b₁ i (end_if x lo ++ end_if y hi)) (w + (n - j))
splice-done b b₁ n i j w lo hi x y ij jn nb ex ey e small m = record {
  size = length-sets b₁ i (end_if x lo ++ end_if y hi) ∙ m.size;
  most = omega arith;
  ends = spliced b b₁ n i j w (end_if x lo ++ end_if y hi) ij jn (omega arith) e (omega arith) m
      ∙ rw (ex, ey) (ap (◌++◌ (take i (take n b))) (append_assoc (end_if x lo) (end_if y hi) (drop j (take n b))));
  rest = λ q g. sets-past b₁ (end_if x lo ++ end_if y hi) i q (omega arith) ∙ m.rest q (omega arith);
}
