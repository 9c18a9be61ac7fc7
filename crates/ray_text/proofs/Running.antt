-- From a readable text to what is written of it.
use mathlib.Core.Path.{◌≡◌, refl, sym, ◌∙◌, ap}
use mathlib.Core.Bool.{Bool, true, false, cond, ◌&&◌, ◌||◌, true≢false}
use mathlib.Core.List.{List, ◌++◌}
use mathlib.Core.Logic.{inl, inr}
use Prim.Native.Nat.{ℕ, ◌+◌, ◌*◌, ◌/◌, ◌%◌, ◌≤◌, ◌<◌}
use native.Mathlib.Omega.{arith}
use borrow.Author.Tests.{leb-true}
use lib.Dec.{eqb, leb}
use lib.ListN.{length, take, drop}
use lib.Ieee.{Float}
use Rattle.refusal.specs.Refusal.{Due, NoneDue}
use Rattle.spans.specs.Spans.{holds}
use Rattle.ray_subtract.specs.Subtract.{either_hit, new_cells, handed_back, ListAfterHits}
use Rattle.ray_merge.specs.Merge.{MergeEffect, merge_causes}
use Rattle.ray_subtract.specs.declared.MergedList.{MergedList}
use Rattle.ray_input.specs.Format.{letter_b, letter_p, letter_c, letter_o, letter_i, lines, letter_of}
use Rattle.ray_input.specs.Format.{count, text_pairs, few, total, readable}
use Rattle.ray_output.specs.Output.{lines_text, end_text, refused_text}
use Rattle.ray_text.specs.Run.{bound_lo, bound_hi, text_possible, text_certain, text_outer, text_inner, ray_causes, run_causes}
use Rattle.ray_text.specs.Run.{Result, refused, written, Printed, ProgramRan, Small}
use Rattle.ray_input.specs.Steps.{Appended}
use Rattle.logic.proofs.Bools.{and_left, and_right}
use Rattle.ray_input.proofs.Reading.{pairs-length}
use Rattle.ray_input.proofs.Writing.{front, put_then}

-- ---- what a readable text has
pub record Reads (s : List ℕ) : Type 0 where
  pub possible_few : count letter_p s (total s) ≤ 64
  pub certain_few : count letter_c s (total s) ≤ 64
  pub outer_few : count letter_o s (total s) ≤ 64
  pub inner_few : count letter_i s (total s) ≤ 64

pub reads : (s : List ℕ) → readable s ≡ true → Reads s
unfolding readable few
reads s h =
    let whole = eqb (length s % 36) 0 in
    let first = eqb (letter_of s 0) letter_b in
    let once = eqb (count letter_b s (total s)) 1 in
    let p = leb (count letter_p s (total s)) 64 in
    let c = leb (count letter_c s (total s)) 64 in
    let o = leb (count letter_o s (total s)) 64 in
    let i = leb (count letter_i s (total s)) 64 in
    let ls = and_right whole (lines s (total s) && (first && (once && (p && (c && (o && i)))))) h in
    let fs = and_right (lines s (total s)) (first && (once && (p && (c && (o && i))))) ls in
    let os = and_right first (once && (p && (c && (o && i)))) fs in
    let ps = and_right once (p && (c && (o && i))) os in
    let cs = and_right p (c && (o && i)) ps in
    let is = and_right c (o && i) cs in
    record {
      possible_few = leb-true (count letter_p s (total s)) 64 (and_left p (c && (o && i)) ps);
      certain_few = leb-true (count letter_c s (total s)) 64 (and_left c (o && i) cs);
      outer_few = leb-true (count letter_o s (total s)) 64 (and_left o i is);
      inner_few = leb-true (count letter_i s (total s)) 64 (and_right o i is);
    }

module _ (s : List ℕ) (r : Reads s) where
  pub collects : (c : ℕ) → count c s (total s) ≤ 64 → (36 * (length s / 36) ≤ length s) × (2 * count c s (length s / 36) ≤ 128)
  collects c h = (omega arith, omega arith)

-- ---- the lists that are collected
module _ (before cells after : List Float) (r : ℕ) (p : Appended before 0 cells after r) where
  pub collected : take r after ≡ cells
  collected = front before 0 cells after r p

  pub collected-size : r ≡ length (take r after)
  collected-size = p.next ∙ omega (arith, ap length collected)

small-list : (c : ℕ) (s : List ℕ) → count c s (total s) ≤ 64 → (length (text_pairs c s (total s)) % 2 ≡ 0)
    × (length (text_pairs c s (total s)) ≤ 128)
small-list c s h = (omega (arith, pairs-length c s (total s)), omega (arith, pairs-length c s (total s)))

pub small : (s : List ℕ) → Reads s → (p c o i : List Float) → p ≡ text_possible s → c ≡ text_certain s → o ≡ text_outer s
    → i ≡ text_inner s → Small p c o i
small s r p c o i ep ec eo ei = rw (ep, ec, eo, ei) record {
  outer_whole = (small-list letter_o s r.outer_few).0;
  inner_whole = (small-list letter_i s r.inner_few).0;
  possible_most = (small-list letter_p s r.possible_few).1;
  certain_most = (small-list letter_c s r.certain_few).1;
  outer_most = (small-list letter_o s r.outer_few).1;
  inner_most = (small-list letter_i s r.inner_few).1;
}

-- a list that did not move is handed back as it was
kept : (q : MergedList) (a w : List Float) (k : ℕ) → q.moved ≡ false → handed_back q a w k ≡ a
kept q a w k e = ap (λ (b : Bool). cond (b && leb (k + 2 * q.pairs) (length w)) (take (2 * q.pairs) (drop k w)) a) e

-- ---- the answer of the merge
module _ (lo hi : Float) (possible certain outer inner : List Float) (few· : Small possible certain outer inner) where
  pub due-ray : (k : ℕ) → Due (merge_causes lo hi possible certain outer inner 3072) k
      → (k < 100) × Due (ray_causes lo hi possible certain) k
  unfolding Due
  due-ray k (inl d) = absurd (omega (arith, d.0, few·.possible_most, few·.certain_most, few·.outer_most, few·.inner_most))
  due-ray k (inr (n, inl d)) =
      (omega (arith, d.1), inl ((λ v. d.0 (record { outer_whole = few·.outer_whole; inner_whole = few·.inner_whole; ray = v })), d.1))
  due-ray k (inr (n, inr d)) = absurd d.1

  pub none-due-ray : NoneDue (merge_causes lo hi possible certain outer inner 3072) → NoneDue (ray_causes lo hi possible certain)
  unfolding NoneDue
  none-due-ray n = ((λ v. n.1.0 (λ m. v m.ray)), tt)

  -- how long the lists are
  list-most : (p : MergedList) (a : List Float) (w : List Float) (k : ℕ) (hit : Float → Bool) → length a ≤ 128
      → ListAfterHits a hit p (handed_back p a w k) → length (handed_back p a w k) ≤ new_cells p + 128
  list-most p a w k hit h s = go p.moved refl
    where
      go : (b : Bool) → p.moved ≡ b → length (handed_back p a w k) ≤ new_cells p + 128
      go true e = let cells : new_cells p ≡ 2 * p.pairs = rw e in omega (arith, s.pairs)
      go false e = omega (arith, ap length (kept p a w k e))

  module _ (p c : MergedList) (work : List Float) (size : length work ≡ 3072)
      (left : MergeEffect lo hi possible certain outer inner p c work) where
    abbrev possible_new : List Float
    possible_new = handed_back p possible work 0

    abbrev certain_new : List Float
    certain_new = handed_back c certain work (new_cells p)

    pub even-lists : (length possible_new % 2 ≡ 0) × (length certain_new % 2 ≡ 0)
        × (18 * length possible_new + 18 * length certain_new + 8 ≤ 65536)
    even-lists = (
      omega (arith, left.possible_left.pairs),
      omega (arith, left.certain_left.pairs),
      omega (
        arith,
        list-most p possible work 0 (holds inner) few·.possible_most left.possible_left,
        list-most c certain work (new_cells p) (either_hit outer inner) few·.certain_most left.certain_left,
        left.room,
      ),
    )

    pub writes : (out out₁ out₂ out₃ : List ℕ) (n m r : ℕ) → NoneDue (merge_causes lo hi possible certain outer inner 3072)
        → Appended out 0 (lines_text letter_p possible_new) out₁ n
        → Appended out₁ n (lines_text letter_c certain_new) out₂ m → Appended out₂ m (end_text (p.moved || c.moved)) out₃ r
        → Printed (ray_causes lo hi possible certain) lo hi possible certain outer inner out out₃ r
    writes out out₁ out₂ out₃ n m r none a b e = record {
      text = lines_text letter_p possible_new ++ (lines_text letter_c certain_new ++ end_text (p.moved || c.moved));
      result = written (none-due-ray none) record {
        p = p.moved;
        c = c.moved;
        possible_after = possible_new;
        certain_after = certain_new;
        possible_left = record { moves = left.possible_left.moves; same = kept p possible work 0; left = left.possible_left.list };
        certain_left = record { moves = left.certain_left.moves; same = kept c certain work (new_cells p); left = left.certain_left.list };
        exact = left.exact;
        valid = left.valid;
        printed = refl;
      };
      put = put_then out 0 (lines_text letter_p possible_new) out₁ n a
          (lines_text letter_c certain_new ++ end_text (p.moved || c.moved)) out₃ r
          (put_then out₁ n (lines_text letter_c certain_new) out₂ m b (end_text (p.moved || c.moved)) out₃ r e);
    }

  pub refuses : (out after : List ℕ) (r k : ℕ) → Due (merge_causes lo hi possible certain outer inner 3072) k
      → Appended out 0 (refused_text k) after r
      → Printed (ray_causes lo hi possible certain) lo hi possible certain outer inner out after r
  refuses out after r k d a = record { text = refused_text k; result = refused k (due-ray k d).1 refl; put = a }

-- ---- the whole program
module _ (s out after : List ℕ) (r : ℕ) where
  pub run-refused : readable s ≡ false → Appended out 0 (refused_text 18) after r → ProgramRan s out after r
  unfolding Due
  run-refused h a = record { text = refused_text 18; result = refused 18 (inl (h, refl)) refl; put = a }

  pub run-merged : readable s ≡ true
      → Printed (ray_causes (bound_lo s) (bound_hi s) (text_possible s) (text_certain s)) (bound_lo s) (bound_hi s)
      (text_possible s) (text_certain s) (text_outer s) (text_inner s) out after r → ProgramRan s out after r
  unfolding Due NoneDue
  run-merged h p = record { text = p.text; result = later p.result; put = p.put }
    where
      readable· : ¬ (readable s ≡ false)
      readable· k = true≢false (sym h ∙ k)

      later : Result (ray_causes (bound_lo s) (bound_hi s) (text_possible s) (text_certain s)) (bound_lo s) (bound_hi s)
          (text_possible s) (text_certain s) (text_outer s) (text_inner s) p.text
          → Result (run_causes s) (bound_lo s) (bound_hi s) (text_possible s) (text_certain s) (text_outer s) (text_inner s) p.text
      later (refused k d e) = refused k (inr (readable·, d)) e
      later (written n w) = written (readable·, n) w
