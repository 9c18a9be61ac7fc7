-- Lists that stand in a buffer.
use mathlib.Core.Path.{◌≡◌, refl, sym, ◌∙◌, ap}
use mathlib.Core.List.{List, ◌++◌, append-nil}
use borrow.Rule.Slice.PartMut.{put_mid}
use mathlib.Core.Bool.{true, false}
use Prim.Native.Nat.{ℕ, ◌+◌, ◌-◌, ◌*◌, ◌≤◌, ◌<◌}
use borrow.Author.Tests.{le-leb}
use native.Mathlib.Omega.{arith}
use lib.ListN.{length, get_or, take, drop, length-drop, length-append, drop_of_length-le, get_or-append}
use lib.Seq.{length-take-le, get_or-take, get_or-drop, drop-drop, drop_at, take_all, ext_get_or}
use lib.Ieee.{Float, nan}
use Rattle.spans.specs.Spans.{NormalOf}
use Rattle.spans.specs.Steps.{CopyPost, FilledFront}
use Rattle.ray_subtract.specs.Subtract.{handed_back}
use Rattle.ray_subtract.specs.Steps.{cells_from, SoundListAt, ChangedBetween, PlacedAt, NormalizedAt}
use Rattle.ray_subtract.specs.declared.MergedList.{MergedList}

pub part_length : (at n : ℕ) (w : List Float) → at + n ≤ length w → length (cells_from at n w) ≡ n
part_length at n w h = length-take-le n (drop at w) (omega (arith, length-drop at w))

pub part-cell : (at n : ℕ) (w : List Float) (q : ℕ) → q < n → get_or (cells_from at n w) q nan ≡ get_or w (at + q) nan
part-cell at n w q h = get_or-take n (drop at w) q nan h ∙ get_or-drop at w q nan

-- a part whose cells are as before is as before
pub part_same : (at n : ℕ) (before after : List Float) → at + n ≤ length before → length after ≡ length before
    → ((q : ℕ) → at ≤ q → q < at + n → get_or after q nan ≡ get_or before q nan) → cells_from at n after ≡ cells_from at n before
part_same at n before after fit size same =
    let long : length (cells_from at n after) ≡ n = part_length at n after (omega arith) in
    ext_get_or nan (cells_from at n after) (cells_from at n before) (long ∙ sym (part_length at n before fit))
    (λ q h.
    let small : q < n = omega (arith, long) in
    part-cell at n after q small ∙ same (at + q) (omega arith) (omega arith) ∙ sym (part-cell at n before q small))

-- a list in front of the changed cells, or past them, still stands
module _ (from to : ℕ) (before after : List Float) (b : ChangedBetween from to before after) (at n : ℕ) (fit : at + n ≤ length before) where
  pub part-front : at + n ≤ from → cells_from at n after ≡ cells_from at n before
  part-front h = part_same at n before after fit b.size (λ q g k. b.front q (omega arith))

  pub part-past : to ≤ at → cells_from at n after ≡ cells_from at n before
  part-past h = part_same at n before after fit b.size (λ q g k. b.past q (omega arith))

pub lies-past : (from to : ℕ) (before after : List Float) → ChangedBetween from to before after → (at n : ℕ) → to ≤ at
    → SoundListAt at n before → SoundListAt at n after
lies-past from to before after b at n h l = record {
  room = omega (arith, l.room, b.size);
  is_sound = rw (part-past from to before after b at n l.room h) l.is_sound;
}

-- a part of what stands from cell `to` on
pub part-drop : (to at n : ℕ) (w : List Float) → to ≤ at → cells_from (at - to) n (drop to w) ≡ cells_from at n w
part-drop to at n w h = ap (take n) (drop-drop (at - to) to w ∙ ap (λ (k : ℕ). drop k w) (whole to at h))
  where
    whole : (to at : ℕ) → to ≤ at → to + (at - to) ≡ at
    whole to at h = omega arith

-- a part as before, where the cells in front of k are
pub part-kept : (k at n : ℕ) (before after : List Float) → at + n ≤ k → k ≤ length before → length after ≡ length before
    → ((q : ℕ) → q < k → get_or after q nan ≡ get_or before q nan) → cells_from at n after ≡ cells_from at n before
part-kept k at n before after h fit size same = part_same at n before after (omega arith) size (λ q g f. same q (omega arith))

-- two changes, one after the other
pub between-both : (t e u f from to : ℕ) (a b c : List Float) → ChangedBetween t e a b → ChangedBetween u f b c
    → from ≤ t → from ≤ u → e ≤ to → f ≤ to → ChangedBetween from to a c
between-both t e u f from to a b c x y ht hu he hf = record {
  size = y.size ∙ x.size;
  front = λ q h. y.front q (omega arith) ∙ x.front q (omega arith);
  past = λ q h. y.past q (omega arith) ∙ x.past q (omega arith);
}

pub between-same : (from to : ℕ) (w : List Float) → ChangedBetween from to w w
between-same from to w = record { size = refl; front = λ q h. refl; past = λ q h. refl }

-- ---- a part from cell `at` on that was lent, and is back with the cells ys
module _ (at : ℕ) (w ys : List Float) (fit : at ≤ length w) (size : length ys ≡ length (take (length w - at) (drop at w))) where
  lent : take (length w - at) (drop at w) ≡ drop at w
  lent = take_all (length w - at) (drop at w) (omega (arith, length-drop at w))

  long : length ys ≡ length w - at
  long = size ∙ ap length lent ∙ length-drop at w

  abbrev back : List Float
  back = put_mid at (length w - at) w ys

  back_is : back ≡ take at w ++ ys
  back_is = ap (λ (l : List Float). take at w ++ l)
      (ap (λ (l : List Float). ys ++ l)
      (drop_of_length-le (drop at w) {i = length w - at} (omega (arith, length-drop at w))) ∙ append-nil ys)

  pub tail-size : length back ≡ length w
  tail-size = ap length back_is ∙ omega (arith, length-append (take at w) ys, length-take-le at w fit, long)

  pub tail-front : (q : ℕ) → q < at → get_or back q nan ≡ get_or w q nan
  tail-front q h =
      ap (λ (l : List Float). get_or l q nan) back_is
      ∙ get_or-append (take at w) ys nan q (omega (arith, length-take-le at w fit)) ∙ get_or-take at w q nan h

  pub tail-drop : drop at back ≡ ys
  tail-drop = ap (drop at) back_is ∙ drop_at (take at w) ys at (length-take-le at w fit)

  tail-cell : (q : ℕ) → at ≤ q → get_or back q nan ≡ get_or ys (q - at) nan
  tail-cell q h = ap (λ (k : ℕ). get_or back k nan) (whole at q h) ∙ sym (get_or-drop at back (q - at) nan)
      ∙ ap (λ (l : List Float). get_or l (q - at) nan) tail-drop
    where
      whole : (a q : ℕ) → a ≤ q → q ≡ a + (q - a)
      whole a q h = omega arith

  before-cell : (q : ℕ) → at ≤ q → get_or w q nan ≡ get_or (drop at w) (q - at) nan
  before-cell q h = ap (λ (k : ℕ). get_or w k nan) (whole at q h) ∙ sym (get_or-drop at w (q - at) nan)
    where
      whole : (a q : ℕ) → a ≤ q → q ≡ a + (q - a)
      whole a q h = omega arith

  -- cells of the part that are as before, seen from the whole buffer
  pub tail-past : (k : ℕ) → ((q : ℕ) → k ≤ q → get_or ys q nan ≡ get_or (drop at w) q nan) → (q : ℕ) → at + k ≤ q
      → get_or back q nan ≡ get_or w q nan
  tail-past k same q h = tail-cell q (omega arith) ∙ same (q - at) (omega arith) ∙ sym (before-cell q (omega arith))

  pub placed : (s : List Float) → at + length s ≤ length w → CopyPost s (take (length w - at) (drop at w)) 0 ys → PlacedAt s at w back
  placed s h c = record {
    size = tail-size;
    front = tail-front;
    cells = ap (take (length s)) tail-drop
        ∙ ext_get_or nan (take (length s) ys) s (length-take-le (length s) ys (omega (arith, long)))
        (λ q g.
        let small : q < length s = omega (arith, length-take-le (length s) ys (omega (arith, long))) in
        get_or-take (length s) ys q nan small ∙ ap (λ (k : ℕ). get_or ys k nan) (none q) ∙ c.cells q small);
  }
    where
      none : (q : ℕ) → q ≡ 0 + q
      none q = omega arith

  pub normal : (s : List Float) (r : ℕ) → FilledFront (NormalOf s) (take (length w - at) (drop at w)) (length s) ys r
      → NormalizedAt s at w back r
  normal s r f = record {
    size = tail-size;
    front = tail-front;
    most = f.most;
    list = rw tail-drop f.list;
  }

-- ---- the list that is handed back
module _ (p : MergedList) (before work : List Float) (at : ℕ) where
  pub handed-still : p.moved ≡ false → before ≡ handed_back p before work at
  handed-still h = rw h

  pub handed-new : p.moved ≡ true → at + 2 * p.pairs ≤ length work → cells_from at (2 * p.pairs) work ≡ handed_back p before work at
  handed-new h k = rw (h, le-leb (at + 2 * p.pairs) (length work) k)
