-- The walk over rays in two parts, one after the other, and over one ray.
use Rattle.std.specs.Prelude.{Option, None, Some}
use Rattle.std.proofs.Common.{◌≡◌, ℕ, zero, suc, ◌+◌, ◌-◌, ◌*◌, ◌<◌, ◌≤◌, Bool, true, false, cond, leb, ◌⊎◌, List, [], ◌∷◌, ◌++◌, length, take, drop, sym, refl, ap, ◌∙◌, subst, inl, inr, append_assoc, append-nil, add-zero, mul-le-mul_right, suc-mul, add_comm, mul-one, arith, length-append, length-take-le, le-leb}
use mathlib.Core.List.Memᴰ
use mathlib.Core.List.{Memᴰ}
use native.Mathlib.Decide.{dec_lt}
use borrow.Author.Tests.{lt-leb}
use lib.Ieee.{Float}
use Rattle.logic.proofs.Bools.{clash}
use Rattle.sweep_visits.specs.declared.VisitCursor.{VisitCursor}
use Rattle.sweep_model.specs.declared.AxisRays.{AxisRays}
use Rattle.grid.specs.declared.WorldAxis.{WorldAxis}
use Rattle.sweep_model.specs.Across.{ray_hit_of}
use Rattle.sweep_model.specs.Section.{section_of}
use Rattle.sweep_model.specs.declared.Profile.{Profile}
use Rattle.sweep_model.specs.declared.ChordOnAxis.{ChordOnAxis}
use Rattle.sweep_model.specs.declared.HitPairs.{HitPairs}
use Rattle.sweep_model.specs.declared.RayRange.{RayRange}
use Rattle.sweep_model.specs.Entries.{entry_of, entry_for, index_of, possible_at, ray_entry, each, sum_each, row_entries, rect_entries}
use Rattle.sweep_model.specs.Entries.{rectangle_entries, rays_in, joined, logged_entries}
use Rattle.sweep_model.specs.Steps.{RayIn}
use Rattle.sweep_model.specs.Walk.{Walked, Done, Stop, walk}
use Rattle.sweep_visits.proofs.Cells.{put-take, put-length}
use Rattle.sweep_visits.specs.Steps.{Went, Halted, RayReady, AxisReady}

abbrev onward : Walked → (ℕ → List Float → Walked) → Walked
onward (Done k l) f = f k l
onward (Stop n) f = Stop n

onward-cond : (a b : Bool) (w : Walked) (f : ℕ → List Float → Walked)
    → cond a (Stop 8) (cond b (onward w f) (Stop 16)) ≡ onward (cond a (Stop 8) (cond b w (Stop 16))) f
onward-cond true b w f = refl
onward-cond false true w f = refl
onward-cond false false w f = refl

module _ (budget len : ℕ) where
  walk-append : (r s : List (List Float)) (k : ℕ) (l : List Float)
      → walk budget len (r ++ s) k l ≡ onward (walk budget len r k l) (walk budget len s)
  unfolding walk
  walk-append [] s k l = refl
  walk-append (e ∷ r) s k l =
      ap (λ (w : Walked). cond (leb budget k) (Stop 8) (cond (leb (length l + length e) len) w (Stop 16)))
      (walk-append r s (k + 1) (l ++ e))
      ∙ onward-cond (leb budget k) (leb (length l + length e) len) (walk budget len r (k + 1) (l ++ e)) (walk budget len s)

module _ {budget : ℕ} where
  pub went-none : {c : VisitCursor} {log : List Float} → c.at ≤ length log → Went budget [] c log c log
  unfolding walk
  went-none h = record { walked = refl; room = h; same = refl }

  pub went_then : {r s : List (List Float)} {c d e : VisitCursor} {log mid end : List Float}
      → Went budget r c log d mid → Went budget s d mid e end → Went budget (r ++ s) c log e end
  went_then {r} {s} {c} {d} {e} {log} {mid} {end} a b = record {
    walked = walk-append budget (length log) r s c.visits (take c.at log)
        ∙ ap (λ (w : Walked). onward w (walk budget (length log) s)) a.walked
        ∙ ap (λ (n : ℕ). walk budget n s d.visits (take d.at mid)) (sym a.same) ∙ b.walked;
    room = b.room;
    same = b.same ∙ a.same;
  }

  pub went-halt : {r s : List (List Float)} {c d : VisitCursor} {log mid end : List Float} {k : ℕ}
      → Went budget r c log d mid → Halted budget s d mid k end → Halted budget (r ++ s) c log k end
  went-halt {r} {s} {c} {d} {log} {mid} {end} {k} a b = record {
    walked = walk-append budget (length log) r s c.visits (take c.at log)
        ∙ ap (λ (w : Walked). onward w (walk budget (length log) s)) a.walked
        ∙ ap (λ (n : ℕ). walk budget n s d.visits (take d.at mid)) (sym a.same) ∙ b.walked;
    same = b.same ∙ a.same;
  }

  pub halt-before : {r : List (List Float)} {c : VisitCursor} {log end : List Float} {k : ℕ} (s : List (List Float))
      → Halted budget r c log k end → Halted budget (r ++ s) c log k end
  halt-before {r} {c} {log} s a = record {
    walked = walk-append budget (length log) r s c.visits (take c.at log)
        ∙ ap (λ (w : Walked). onward w (walk budget (length log) s)) a.walked;
    same = a.same;
  }

-- ---- one ray
module _ (budget len : ℕ) (e : List Float) (k : ℕ) (l : List Float) where
  walk-8 : budget ≤ k → walk budget len (e ∷ []) k l ≡ Stop 8
  unfolding walk
  walk-8 h = simp (le-leb _ _ h)

  walk-16 : k < budget → len < length l + length e → walk budget len (e ∷ []) k l ≡ Stop 16
  unfolding walk
  walk-16 h f = simp (lt-leb _ _ h, lt-leb _ _ f)

  walk-one : k < budget → length l + length e ≤ len → walk budget len (e ∷ []) k l ≡ Done (k + 1) (l ++ e)
  unfolding walk
  walk-one h f = simp (lt-leb _ _ h, le-leb _ _ f)

module _ {budget : ℕ} {e : List Float} {c : VisitCursor} {log : List Float} (fits : c.at ≤ length log) where
  pub halt-8 : budget ≤ c.visits → Halted budget (e ∷ []) c log 8 log
  halt-8 h = record { walked = walk-8 budget (length log) e c.visits (take c.at log) h; same = refl }

  halt-16 : c.visits < budget → length log < c.at + length e → Halted budget (e ∷ []) c log 16 log
  halt-16 h f = record {
    walked =
        walk-16 budget (length log) e c.visits (take c.at log) h (rw (length-take-le c.at log fits) f);
    same = refl;
  }

  pub halt-full : (x : List Float) → e ≡ x → length x ≡ 6 → c.visits < budget → length log - c.at < 6
      → Halted budget (e ∷ []) c log 16 log
  halt-full x q z h f =
      let k : length e ≡ 6 = ap length q ∙ z in
      halt-16 h (omega arith)

  went-one : (after : List Float) → c.visits < budget → c.at + length e ≤ length log
      → after ≡ take c.at log ++ (e ++ drop (c.at + length e) log)
      → Went budget (e ∷ []) c log (record { visits = c.visits + 1; at = c.at + length e }) after
  went-one after h f w =
      let same : length after ≡ length log = ap length w ∙ put-length log e c.at f in
      record {
        walked = walk-one budget (length log) e c.visits (take c.at log) h
            (rw (length-take-le c.at log fits) f)
            ∙ ap (Done (c.visits + 1)) (sym (ap (take (c.at + length e)) w ∙ put-take log e c.at f));
        room = omega arith;
        same = same;
      }

  pub went_on : (m : ℕ) → length e ≡ m → (after : List Float) → c.visits < budget → c.at + m ≤ length log
      → after ≡ take c.at log ++ (e ++ drop (c.at + m) log)
      → Went budget (e ∷ []) c log (record { visits = c.visits + 1; at = c.at + m }) after
  went_on m q after h f w = rw (← q) (went-one after h (rw q f) (rw q w))

  pub went-off : e ≡ [] → c.visits < budget → Went budget (e ∷ []) c log (record { visits = c.visits + 1; at = c.at }) log
  went-off q h =
      let z : length e ≡ 0 = ap length q in
      record {
        walked = walk-one budget (length log) e c.visits (take c.at log) h
            (omega (arith, length-take-le c.at log fits))
            ∙ ap (Done (c.visits + 1)) (ap (λ (t : List Float). take c.at log ++ t) q ∙ append-nil (take c.at log));
        room = fits;
        same = refl;
      }

-- ---- one piece after the other
module _ (f : ℕ → List (List Float)) where
  each_more : (from n : ℕ) → each f from n ++ f (from + n) ≡ each f from (suc n)
  unfolding each
  each_more from zero = ap f (add-zero from) ∙ sym (append-nil (f from))
  each_more from (suc n) =
      let e : from + suc n ≡ suc from + n = omega arith in
      ap (λ (m : ℕ). (f from ++ each f (suc from) n) ++ f m) e
      ∙ append_assoc (f from) (each f (suc from) n) (f (suc from + n))
      ∙ ap (λ (t : List (List Float)). f from ++ t) (each_more (suc from) n)

  each-rest : (from i n : ℕ) → each f from (i + n) ≡ each f from i ++ each f (from + i) n
  unfolding each
  each-rest from zero n =
      let z : 0 + n ≡ n = omega arith in
      ap (each f from) z ∙ ap (λ (m : ℕ). each f m n) (sym (add-zero from))
  each-rest from (suc i) n =
      let e : suc from + i ≡ from + suc i = omega arith in
      let g : suc i + n ≡ suc (i + n) = omega arith in
      ap (each f from) g
      ∙ ap (λ (t : List (List Float)). f from ++ t) (each-rest (suc from) i n ∙ ap (λ (m : ℕ). each f (suc from) i ++ each f m n) e)
      ∙ sym (append_assoc (f from) (each f (suc from) i) (each f (from + suc i) n))

-- a loop over the pieces from `from` to before `past`: those before `at` are walked
pub record Sweeping (budget : ℕ) (f : ℕ → List (List Float)) (from past : ℕ) (c : VisitCursor) (log : List Float)
    (d : VisitCursor) (mid : List Float) (at : ℕ) : Type 0 where
  pub begun : from ≤ at
  pub within : at - from ≤ past - from
  pub went : Went budget (each f from (at - from)) c log d mid

each_none : (f : ℕ → List (List Float)) (from : ℕ) → each f from (from - from) ≡ []
unfolding each
each_none f from = let z : from - from ≡ 0 = omega arith in ap (each f from) z

module _ {budget : ℕ} (f : ℕ → List (List Float)) (from past : ℕ) {c : VisitCursor} {log : List Float} where
  pub sweeping-start : c.at ≤ length log → Sweeping budget f from past c log c log from
  sweeping-start h = record { begun = omega arith; within = omega arith; went = rw (each_none f from) (went-none h) }

  module _ {d : VisitCursor} {mid : List Float} (at : ℕ) (s : Sweeping budget f from past c log d mid at) where
    one_more : each f from (at - from) ++ f at ≡ each f from (at + 1 - from)
    one_more =
        let b = s.begun in
        let e : at ≡ from + (at - from) = omega arith in
        let g : suc (at - from) ≡ at + 1 - from = omega arith in
        ap (λ (m : ℕ). each f from (at - from) ++ f m) e ∙ each_more f from (at - from) ∙ ap (each f from) g

    pub sweeping-next : {e : VisitCursor} {end : List Float} → at < past → Went budget (f at) d mid e end
        → Sweeping budget f from past c log e end (at + 1)
    sweeping-next h b = record { begun = omega arith; within = omega arith; went = rw (← one_more) (went_then s.went b) }

    pub sweeping-halt : {k : ℕ} {end : List Float} → at < past → Halted budget (f at) d mid k end
        → Halted budget (each f from (past - from)) c log k end
    sweeping-halt h b =
        let q = s.begun in
        let e : past - from ≡ (at + 1 - from) + (past - (at + 1)) = omega arith in
        let g = each-rest f from (at + 1 - from) (past - (at + 1)) in
        rw (e, g, ← one_more) (halt-before _ (went-halt s.went b))

    pub sweeping-all : past ≤ at → Went budget (each f from (past - from)) c log d mid
    sweeping-all h = let q = s.within in let b = s.begun in let e : past - from ≡ at - from = omega arith in rw e s.went

-- ---- the ray at the cells u and v
below : (u v row rows : ℕ) → u < row → v < rows → v * row + u < row * rows
below u v row rows h l = let m : suc v * row ≤ rows * row = mul-le-mul_right row l in omega arith

pub ray-ready : {n : ℕ} {t : AxisRays} {spans : List Float} {links heads : List ℕ} → AxisReady n t spans links heads
    → (u v : ℕ) → u < t.row → v < t.rows → RayReady n t spans links heads u v
ray-ready {n} {t} r u v h l =
    let b = below u v t.row t.rows h l in
    let q = r.few in
    record { few = omega arith; ray = r.rays (t.first + (v * t.row + u)) (omega arith) }

module _ (n : ℕ) (t : AxisRays) (p : Profile) (l : ChordOnAxis) (spans : List Float) (links heads : List ℕ) (u v : ℕ) where
  pub entry-off : ray_hit_of p l (section_of l u v) (possible_at n t spans links heads u v) ≡ None
      → ray_entry n t p l spans links heads u v ≡ []
  unfolding ray_entry entry_for
  entry-off h = rw h

  pub entry-on : (x : HitPairs) → ray_hit_of p l (section_of l u v) (possible_at n t spans links heads u v) ≡ Some x
      → ray_entry n t p l spans links heads u v ≡ entry_of t.axis (index_of t u v) x
  unfolding ray_entry entry_for
  entry-on x h = rw h

pub entry_length : (axis : WorldAxis) (index : ℕ) (x : HitPairs) → length (entry_of axis index x) ≡ 6
unfolding entry_of
entry_length axis index x = refl

-- ---- what a walk comes to
abbrev stops : Walked → Bool
stops (Done k l) = false
stops (Stop n) = true

abbrev visits_in : Walked → ℕ
visits_in (Done k l) = k
visits_in (Stop n) = n

abbrev entries_in : Walked → List Float
entries_in (Done k l) = l
entries_in (Stop n) = []

module _ (budget len : ℕ) where
  -- to the end: each ray is a visit, and the log has all entries
  pub walk-done : (rays : List (List Float)) (k : ℕ) (l : List Float) (n : ℕ) (m : List Float)
      → walk budget len rays k l ≡ Done n m → (n ≡ k + length rays) × (m ≡ l ++ joined rays)
  unfolding walk joined
  walk-done [] k l n m h = (sym (ap visits_in h) ∙ sym (add-zero k), sym (ap entries_in h) ∙ sym (append-nil l))
  walk-done (e ∷ rays) k l n m h = go (leb budget k) (leb (length l + length e) len) h (walk-done rays (k + 1) (l ++ e) n m)
    where
      go : (a b : Bool) → cond a (Stop 8) (cond b (walk budget len rays (k + 1) (l ++ e)) (Stop 16)) ≡ Done n m
          → (walk budget len rays (k + 1) (l ++ e) ≡ Done n m
          → (n ≡ k + 1 + length rays) × (m ≡ (l ++ e) ++ joined rays))
          → (n ≡ k + suc (length rays)) × (m ≡ l ++ (e ++ joined rays))
      go true b q f = absurd (clash true refl (ap stops q))
      go false false q f = absurd (clash true refl (ap stops q))
      go false true q f = let r = f q in (omega (arith, r.0), r.1 ∙ append_assoc l e (joined rays))

  -- not to the end: 8 or 16
  pub walk-stop : (rays : List (List Float)) (k : ℕ) (l : List Float) (n : ℕ) → walk budget len rays k l ≡ Stop n → (n ≡ 8) ⊎ (n ≡ 16)
  unfolding walk
  walk-stop [] k l n h = absurd (clash false (ap stops h) refl)
  walk-stop (e ∷ rays) k l n h = go (leb budget k) (leb (length l + length e) len) h (walk-stop rays (k + 1) (l ++ e) n)
    where
      go : (a b : Bool) → cond a (Stop 8) (cond b (walk budget len rays (k + 1) (l ++ e)) (Stop 16)) ≡ Stop n
          → (walk budget len rays (k + 1) (l ++ e) ≡ Stop n → (n ≡ 8) ⊎ (n ≡ 16)) → (n ≡ 8) ⊎ (n ≡ 16)
      go true b q f = inl (sym (ap visits_in q))
      go false false q f = inr (sym (ap visits_in q))
      go false true q f = f q

-- one number at the most
pub stop_is : (w : Walked) (m n : ℕ) → w ≡ Stop m → w ≡ Stop n → m ≡ n
stop_is w m n p q = ap visits_in (sym p ∙ q)

-- no number where the walk came to its end
pub done-no-stop : (w : Walked) (k n : ℕ) (l : List Float) → w ≡ Done k l → w ≡ Stop n → ⊥
done-no-stop w k n l p q = clash false (ap stops (sym p ∙ q)) refl

-- ---- how many rays there are
module _ (f : ℕ → List (List Float)) where
  pub each-length : (from n : ℕ) → length (each f from n) ≡ sum_each (λ i. length (f i)) from n
  unfolding each sum_each
  each-length from zero = refl
  each-length from (suc n) = length-append (f from) (each f (suc from) n) ∙ ap (λ (k : ℕ). length (f from) + k) (each-length (suc from) n)

pub sum_same : (n : ℕ) (f g : ℕ → ℕ) → ((i : ℕ) → f i ≡ g i) → (from : ℕ) → sum_each f from n ≡ sum_each g from n
unfolding sum_each
sum_same zero f g h from = refl
sum_same (suc n) f g h from =
    ap (λ (k : ℕ). k + sum_each f (suc from) n) (h from) ∙ ap (λ (k : ℕ). g from + k) (sum_same n f g h (suc from))

sum_of : (n k from : ℕ) → sum_each (λ i. k) from n ≡ n * k
unfolding sum_each
sum_of zero k from = omega arith
sum_of (suc n) k from = ap (λ (m : ℕ). k + m) (sum_of n k (suc from)) ∙ add_comm k (n * k) ∙ sym (suc-mul n k)

row-length : (f : (u v : ℕ) → List Float) (r : RayRange) (v : ℕ) → length (row_entries f r v) ≡ r.u1 + 1 - r.u0
unfolding row_entries
row-length f r v = each-length (λ u. f u v ∷ []) r.u0 (r.u1 + 1 - r.u0) ∙ sum_of (r.u1 + 1 - r.u0) 1 r.u0
    ∙ mul-one (r.u1 + 1 - r.u0)

rect-length : (f : (u v : ℕ) → List Float) (r : RayRange) → length (rect_entries f r) ≡ (r.v1 + 1 - r.v0) * (r.u1 + 1 - r.u0)
unfolding rect_entries
rect-length f r =
    each-length (row_entries f r) r.v0 (r.v1 + 1 - r.v0)
    ∙ sum_same (r.v1 + 1 - r.v0) _ _ (row-length f r) r.v0 ∙ sum_of (r.v1 + 1 - r.v0) (r.u1 + 1 - r.u0) r.v0

-- as many entries, some of them empty, as the rectangle has rays
pub rectangle-length : (f : (u v : ℕ) → List Float) (r : Option RayRange) → length (rectangle_entries f r) ≡ rays_in r
unfolding rays_in
rectangle-length f None = refl
rectangle-length f (Some r) = rect-length f r

-- ---- what holds of each ray's entry
unfoldable pub OfEach : (P : List Float → Type 0) → List (List Float) → Type 0
OfEach P [] = Unit {0}
OfEach P (e ∷ es) = P e × OfEach P es

module _ (P : List Float → Type 0) where
  pub of-append : (r s : List (List Float)) → OfEach P r → OfEach P s → OfEach P (r ++ s)
  unfolding OfEach
  of-append [] s a b = b
  of-append (e ∷ r) s a b = (a.0, of-append r s a.1 b)

  pub of-each : (n : ℕ) (f : ℕ → List (List Float)) (from : ℕ) → ((i : ℕ) → from ≤ i → i < from + n → OfEach P (f i))
      → OfEach P (each f from n)
  unfolding each OfEach
  of-each zero f from h = tt
  of-each (suc n) f from h =
      of-append (f from) (each f (suc from) n) (h from (omega arith) (omega arith))
      (of-each n f (suc from) (λ (i : ℕ) (a : suc from ≤ i) (b : i < suc from + n). h i (omega arith) (omega arith)))

  -- the rays of a rectangle
  pub of-rectangle : (f : (u v : ℕ) → List Float) (r : Option RayRange) → ((u v : ℕ) → RayIn r u v → P (f u v))
      → OfEach P (rectangle_entries f r)
  unfolding rect_entries row_entries RayIn OfEach
  of-rectangle f None h = tt
  of-rectangle f (Some r) h =
      of-each (r.v1 + 1 - r.v0) (row_entries f r) r.v0
      (λ (v : ℕ) (a : r.v0 ≤ v) (b : v < r.v0 + (r.v1 + 1 - r.v0)).
      of-each (r.u1 + 1 - r.u0) (λ u. f u v ∷ []) r.u0
      (λ (u : ℕ) (c : r.u0 ≤ u) (d : u < r.u0 + (r.u1 + 1 - r.u0)).
      (h u v (c, last r.u0 r.u1 u c d, a, last r.v0 r.v1 v a b), tt)))
    where
      last : (from to i : ℕ) → from ≤ i → i < from + (to + 1 - from) → i ≤ to
      last from to i a b = omega arith

-- and each ray of the rectangle has its entry among them
pub has-each : (n : ℕ) (f : ℕ → List (List Float)) (from i : ℕ) (e : List Float) → from ≤ i → i < from + n → Memᴰ e (f i)
    → Memᴰ e (each f from n)
unfolding each
has-each zero f from i e a b m = absurd (none a b)
  where
    none : from ≤ i → i < from + 0 → ⊥
    none g h = omega arith
has-each (suc n) f from i e a b m = elim (dec_lt from i) [
  | yes h ↦ Memᴰ.append_right (f from) (has-each n f (suc from) i e h (later b) m)
  | no h ↦ Memᴰ.append_left (each f (suc from) n) (subst (λ (k : ℕ). Memᴰ e (f k)) (same a h) m)
]
  where
    later : i < from + suc n → i < suc from + n
    later g = omega arith

    same : from ≤ i → (from < i → ⊥) → i ≡ from
    same g h = omega arith

pub rectangle-has : (f : (u v : ℕ) → List Float) (r : Option RayRange) (u v : ℕ) → RayIn r u v → Memᴰ (f u v) (rectangle_entries f r)
unfolding RayIn rect_entries row_entries
rectangle-has f None u v h = absurd h
rectangle-has f (Some r) u v (a, b, c, d) =
    has-each (r.v1 + 1 - r.v0) (row_entries f r) r.v0 v (f u v) c (below c d)
    (has-each (r.u1 + 1 - r.u0) (λ u. f u v ∷ []) r.u0 u (f u v) a (below a b) (Memᴰ.head refl))
  where
    below : {from to i : ℕ} → from ≤ i → i ≤ to → i < from + (to + 1 - from)
    below g h = omega arith

-- ---- how many entries there are: each ray has six cells in the log or none
unfoldable pub Sixes : List (List Float) → Type 0
Sixes [] = Unit {0}
Sixes (e ∷ es) = ((e ≡ []) ⊎ (length e ≡ 6)) × Sixes es

pub sixes-append : (r s : List (List Float)) → Sixes r → Sixes s → Sixes (r ++ s)
unfolding Sixes
sixes-append [] s a b = b
sixes-append (e ∷ r) s a b = (a.0, sixes-append r s a.1 b)

pub sixes-each : (n : ℕ) (f : ℕ → List (List Float)) → ((i : ℕ) → Sixes (f i)) → (from : ℕ) → Sixes (each f from n)
unfolding each Sixes
sixes-each zero f h from = tt
sixes-each (suc n) f h from = sixes-append (f from) (each f (suc from) n) (h from) (sixes-each n f h (suc from))

entry-sixes : (axis : WorldAxis) (index : ℕ) (x : Option HitPairs) → (entry_for axis index x ≡ []) ⊎ (length (entry_for axis index x) ≡ 6)
unfolding entry_for entry_of
entry-sixes axis index None = inl refl
entry-sixes axis index (Some h) = inr refl

pub rectangle-sixes : (n : ℕ) (t : AxisRays) (p : Profile) (l : ChordOnAxis) (spans : List Float)
    (links heads : List ℕ) (r : Option RayRange) → Sixes (rectangle_entries (ray_entry n t p l spans links heads) r)
unfolding rect_entries row_entries ray_entry Sixes
rectangle-sixes n t p l spans links heads None = tt
rectangle-sixes n t p l spans links heads (Some r) =
    sixes-each (r.v1 + 1 - r.v0) _
    (λ (v : ℕ). sixes-each (r.u1 + 1 - r.u0) _
    (λ (u : ℕ). (
      entry-sixes t.axis (index_of t u v)
          (ray_hit_of p l (section_of l u v) (possible_at n t spans links heads u v)),
      tt,
    )) r.u0) r.v0

abbrev filled : List Float → Bool
filled [] = false
filled (x ∷ l) = true

pub sixes-count : (es : List (List Float)) → Sixes es → length (joined es) ≡ 6 * logged_entries es
unfolding Sixes joined logged_entries
sixes-count [] h = refl
sixes-count ([] ∷ es) h = sixes-count es h.1
sixes-count ((x ∷ e) ∷ es) h = length-append (x ∷ e) (joined es) ∙ more h.0 (sixes-count es h.1)
  where
    more : ((x ∷ e ≡ []) ⊎ (length (x ∷ e) ≡ 6)) → length (joined es) ≡ 6 * logged_entries es
        → length (x ∷ e) + length (joined es) ≡ 6 * suc (logged_entries es)
    more (inl q) k = absurd (clash true refl (ap filled q))
    more (inr q) k = omega (arith, q, k)
