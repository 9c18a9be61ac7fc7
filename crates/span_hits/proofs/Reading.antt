-- The pairs that a reader hands out one after the other are those of the list with lo < hi, in order.
use mathlib.Core.Path.{◌≡◌, refl, sym, ◌∙◌, ap, subst}
use mathlib.Core.Logic.{inl, inr}
use mathlib.Core.Bool.{true}
use mathlib.Core.List.{List, [], ◌∷◌}
use Prim.Native.Nat.{ℕ, zero, suc, ◌+◌, ◌-◌, ◌≤◌, ◌<◌}
use native.Mathlib.Omega.{arith}
use lib.ListN.{length, drop, length-drop}
use lib.Seq.{drop-drop}
use lib.Ieee.{Float, nan, lt}
use Rattle.spans.specs.Spans.{holds, retained}
use Rattle.spans.proofs.Points.{retained-holds}
use Rattle.logic.proofs.Bools.{by_cases}
use Rattle.span_hits.specs.declared.Found.{Found}
use Rattle.span_hits.specs.declared.Hit.{Hit}
use Rattle.span_hits.specs.declared.HitReader.{HitReader}
use Rattle.std.specs.Prelude.{Option, Some, None, ⊤}
use Rattle.std.specs.Iterator.{MakesProgress, at_most}
use Rattle.span_hits.specs.Hits.{next_hit, found_as, pair, HitsHanded, none, more}

-- a pair is no end
differ : (n m : ℕ) (lo hi : Float) → found_as None n ≡ found_as (pair lo hi) m → ⊥
differ n m lo hi h =
    let e : None ≡ pair lo hi = ap (λ (f : Found). f.hit) h in
    let z : ◌≡◌ {A = ℕ} 0 1 = cc in
    omega arith

first-pair : (n m : ℕ) (x y lo hi : Float) → found_as (pair x y) n ≡ found_as (pair lo hi) m → (x ≡ lo) × (y ≡ hi) × (n ≡ m)
first-pair n m x y lo hi h = (ap (λ (f : Found). low f.hit) h, ap (λ (f : Found). high f.hit) h, ap (λ (f : Found). f.at) h)
  where
    low : Option Hit → Float
    low None = nan
    low (Some f) = f.lo

    high : Option Hit → Float
    high None = nan
    high (Some f) = f.hi

-- a hit: what is retained starts with it, and goes on past its place
record Hits (r : List Float) (n m : ℕ) (lo hi : Float) : Type 0 where
  rises : lt lo hi ≡ true
  past : n + 2 ≤ m
  inside : m ≤ n + length r
  goes : retained r ≡ lo ∷ hi ∷ retained (drop (m - n) r)

hit : (r : List Float) (n m : ℕ) (lo hi : Float) → next_hit n r ≡ found_as (pair lo hi) m → Hits r n m lo hi
unfolding next_hit retained
hit [] n m lo hi h = absurd (differ n m lo hi h)
hit (x ∷ []) n m lo hi h = absurd (differ n m lo hi h)
hit (x ∷ y ∷ r) n m lo hi h = elim (by_cases (lt x y)) [
  | inl t ↦
      let e = first-pair (n + 2) m x y lo hi (rw t at h) in
      let two : m - n ≡ 2 = omega (arith, e.2) in
      record { rises = rw (e.0, e.1) at t; past = omega (arith, e.2); inside = omega (arith, e.2); goes = rw (t, two, e.0, e.1) }
  | inr t ↦
      let s = hit r (n + 2) m lo hi (rw t at h) in
      let two : m - n ≡ suc (suc (m - (n + 2))) = omega (arith, s.past) in
      record { rises = s.rises; past = omega (arith, s.past); inside = omega (arith, s.inside); goes = rw (t, two) s.goes }
]

-- none left: nothing is retained
ended : (r : List Float) (n m : ℕ) → next_hit n r ≡ found_as None m → retained r ≡ []
unfolding next_hit retained
ended [] n m h = refl
ended (x ∷ []) n m h = refl
ended (x ∷ y ∷ r) n m h = elim (by_cases (lt x y)) [
  | inl t ↦ absurd (differ m (n + 2) x y (sym (rw t at h)))
  | inr t ↦ rw t (ended r (n + 2) m (rw t at h))
]

-- the same of what stands from place n of a list on
pub record HitAt (l : List Float) (n m : ℕ) (lo hi : Float) : Type 0 where
  pub rises : lt lo hi ≡ true
  pub past : n + 2 ≤ m
  pub inside : m ≤ n + (length l - n)
  pub goes : retained (drop n l) ≡ lo ∷ hi ∷ retained (drop m l)

hit-at : (l : List Float) (n m : ℕ) (lo hi : Float) → next_hit n (drop n l) ≡ found_as (pair lo hi) m → HitAt l n m lo hi
hit-at l n m lo hi h =
    let s = hit (drop n l) n m lo hi h in
    record {
      rises = s.rises;
      past = s.past;
      inside = omega (arith, s.inside, length-drop n l);
      goes = s.goes
          ∙ ap (λ (k : List Float). lo ∷ hi ∷ retained k) (drop-drop (m - n) n l ∙ ap (λ (k : ℕ). drop k l) (back n m s.past));
    }
  where
    back : (n m : ℕ) → n + 2 ≤ m → n + (m - n) ≡ m
    back n m h = omega arith

-- what the reader r hands out, by its case, and the reader s that it is then
module _ (r s : HitReader) (hit : Option Hit) (e : (s.hits ≡ r.hits) × (found_as hit s.at ≡ next_hit r.at (drop r.at r.hits.now))) where
  pub read-hit : (f : Hit) → hit ≡ Some f → HitAt r.hits.now r.at s.at f.lo f.hi
  read-hit f h = hit-at r.hits.now r.at s.at f.lo f.hi (sym e.1 ∙ ap (λ (x : Option Hit). found_as x s.at) h)

  pub read-end : hit ≡ None → retained (drop r.at r.hits.now) ≡ []
  read-end h = ended (drop r.at r.hits.now) r.at s.at (sym e.1 ∙ ap (λ (x : Option Hit). found_as x s.at) h)

-- a hit leaves fewer cells to read
pub goes : (r s : HitReader) (hit : Option Hit) → (s.hits ≡ r.hits) × (found_as hit s.at ≡ next_hit r.at (drop r.at r.hits.now))
    → MakesProgress (λ _. ⊤) (λ (r : HitReader). at_most (length r.hits.now - r.at)) r hit s
goes r s None e = record { on = λ _. tt; keeps = tt; rests = λ _. tt }
goes r s (Some f) e =
    let a = read-hit r s (Some f) e f refl in
    record { on = λ _. (tt, tt, rw e.0 (omega (arith, a.past, a.inside))); keeps = tt; rests = λ _. tt }

pub handed-retained : {l : List Float} {n : ℕ} {out : List Float} → HitsHanded l n out → out ≡ retained (drop n l)
handed-retained {l} (none {n} {m} e) = sym (ended (drop n l) n m e)
handed-retained {l} (more {n} {m} {lo} {hi} {rest} e h) =
    sym ((hit-at l n m lo hi e).goes ∙ ap (λ (k : List Float). lo ∷ hi ∷ k) (sym (handed-retained h)))

-- a reader at the start hands out the pairs that are not dropped
pub handed-all : {l out : List Float} → HitsHanded l 0 out → out ≡ retained l
handed-all h = handed-retained h

-- so no point is lost
pub handed-holds : {l out : List Float} → HitsHanded l 0 out → (p : Float) → holds out p ≡ holds l p
handed-holds {l} h p = ap (λ (k : List Float). holds k p) (handed-all h) ∙ retained-holds l p

-- and it comes to an end
all-next : (l : List Float) (k n : ℕ) → length l - n < suc k → ((m : ℕ) → length l - m < k → HitsHanded l m (retained (drop m l)))
    → (x : Option Hit) (m : ℕ) → next_hit n (drop n l) ≡ found_as x m → HitsHanded l n (retained (drop n l))
all-next l k n h again None m e = subst (HitsHanded l n) (sym (ended (drop n l) n m e)) (none e)
all-next l k n h again (Some f) m e =
    let s = hit-at l n m f.lo f.hi e in
    subst (HitsHanded l n) (sym s.goes) (more e (again m (omega (arith, s.past, s.inside))))

all_from : (l : List Float) (k n : ℕ) → length l - n < k → HitsHanded l n (retained (drop n l))
all_from l zero n h = absurd (omega arith)
all_from l (suc k) n h = all-next l k n h (λ m g. all_from l k m g) (next_hit n (drop n l)).hit (next_hit n (drop n l)).at refl

pub hands-all : (l : List Float) → HitsHanded l 0 (retained l)
hands-all l = all_from l (suc (length l)) 0 (omega arith)
