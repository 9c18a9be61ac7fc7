-- What the true reason means: the memberships that go with it, and the entry that took the place. Past the k-th entry nothing changes
-- what the entries before it leave, so a pair that holds the place in a prefix holds it in the whole list.
use mathlib.Core.Path.{◌≡◌, refl, sym, ◌∙◌}
use mathlib.Core.Bool.{Bool, true, false, not, ◌&&◌, ◌||◌, false≢true}
use mathlib.Core.Logic.{inl, inr}
use mathlib.Core.List.{List, [], ◌∷◌, cons≢nil, head-eq_of_cons-eq, tail-eq_of_cons-eq}
use Prim.Native.Nat.{ℕ, zero, suc}
use lib.ListN.{take}
use lib.Ieee.{Float}
use Rattle.logic.proofs.Bools.{by_cases, clash}
use Rattle.spans.specs.Spans.{within, holds}
use Rattle.spans.specs.Rays.{ValidRay}
use Rattle.log_model.specs.Logs.{HitKind, inner, outer, entries}
use Rattle.log_model.specs.declared.Entry.{Entry}
use Rattle.ray_trace.specs.Reasons.{hit_pairs, hit_holds, FirstHolding, first_entry, later_entry}
use Rattle.ray_trace.specs.declared.Reason.{Reason}
use Rattle.ray_trace.specs.Reasons.{TrueReason, not_held, cut_away, made_uncertain, never_certain, untouched}
use Rattle.ray_trace.specs.Trace.{Traced}
use Rattle.ray_trace.specs.Sets.{membership_of, SetsOfReason, TakenBy}
use Rattle.ray_trace.proofs.OneReason.{first_holds, one-reason}

-- THE LAW: each reason goes with its four memberships
pub reason-sets : {lo hi : Float} {possible certain : List Float} {es : List Entry} {p : Float} {r : Reason}
    → ValidRay lo hi possible certain → TrueReason possible certain es p r → SetsOfReason r (membership_of possible certain es p)
reason-sets {certain = certain} {p = p} v (not_held a) = rw (a, uncertain)
  where
    uncertain : holds certain p ≡ false
    uncertain = elim (by_cases (holds certain p)) [ inl c ↦ absurd (clash _ (v.inside p c) a) | inr c ↦ c ]
reason-sets {certain = certain} {es = es} {p = p} v (cut_away a f) =
    (holds certain p, rw (a, first_holds inner p f, lost (holds certain p) (holds (hit_pairs outer es) p)))
  where
    lost : (c o : Bool) → (c && not (o || true)) ≡ false
    lost true true = refl
    lost true false = refl
    lost false o = refl
reason-sets {p = p} v (made_uncertain c n f) = rw (v.inside p c, c, n, first_holds outer p f)
reason-sets v (never_certain a c n) = rw (a, c, n)
reason-sets {p = p} v (untouched c n m) = rw (v.inside p c, c, n, m)

-- ---- the entry that a reason names
module _ (w : HitKind) (p : Float) where
  before-first : {es : List Entry} (k : ℕ) → FirstHolding w p es (suc k) → holds (hit_pairs w (take k es)) p ≡ false
  unfolding holds hit_pairs
  before-first zero (later_entry {e = e} {es = es} a f) = elim f [ ]
  before-first zero (first_entry a) = refl
  before-first (suc k) (later_entry a f) = rw a (before-first k f)

  with_first : {es : List Entry} (k : ℕ) → FirstHolding w p es (suc k) → holds (hit_pairs w (take (suc k) es)) p ≡ true
  unfolding holds hit_pairs
  with_first zero (later_entry {e = e} {es = es} a f) = elim f [ ]
  with_first zero (first_entry a) = rw a
  with_first (suc k) (later_entry a f) = rw a (with_first k f)

  -- what holds the place in the first k entries holds it in all of them
  prefix-free : (k : ℕ) (es : List Entry) → holds (hit_pairs w es) p ≡ false → holds (hit_pairs w (take k es)) p ≡ false
  unfolding holds hit_pairs
  prefix-free zero es h = refl
  prefix-free (suc k) [] h = refl
  prefix-free (suc k) (e ∷ es) h = go (hit_holds w e p) refl h (prefix-free k es)
    where
      go : (b : Bool) → hit_holds w e p ≡ b → (b || holds (hit_pairs w es) p) ≡ false
          → (holds (hit_pairs w es) p ≡ false → holds (hit_pairs w (take k es)) p ≡ false)
          → (hit_holds w e p || holds (hit_pairs w (take k es)) p) ≡ false
      go true t h f = absurd (false≢true (sym h))
      go false t h f = rw t (f h)

-- THE LAW: the entry that a reason names is the one that took the place
pub reason-entry : {possible certain : List Float} {es : List Entry} {p : Float} {r : Reason}
    → TrueReason possible certain es p r → TakenBy r possible certain es p
reason-entry {possible = possible} {certain = certain} {es = es} {p = p} (cut_away {k = zero} a f) = elim f [ ]
reason-entry {possible = possible} {certain = certain} {es = es} {p = p} (made_uncertain {k = zero} c n f) = elim f [ ]
reason-entry (not_held a) = tt
reason-entry {p = p} (cut_away {k = suc k} a f) = (rw (a, before-first inner p k f), rw (a, with_first inner p k f))
reason-entry {es = es} {p = p} (made_uncertain {k = suc k} c n f) =
    (rw (c, before-first outer p k f, prefix-free inner p k es n), rw (c, with_first outer p k f))
reason-entry (never_certain a c n) = tt
reason-entry (untouched c n m) = tt

-- ---- axis and index do not count
module _ (w : HitKind) (p : Float) where
  ends_same : {a b c d : Float} {l m : List Float} → a ∷ b ∷ l ≡ c ∷ d ∷ m → within a b p ≡ within c d p
  ends_same q = rw (head-eq_of_cons-eq q, head-eq_of_cons-eq (tail-eq_of_cons-eq q))

  first-by-pairs : {es : List Entry} {k : ℕ} → FirstHolding w p es k → (fs : List Entry) → hit_pairs w es ≡ hit_pairs w fs
      → FirstHolding w p fs k
  unfolding hit_pairs
  first-by-pairs (first_entry a) [] q = absurd (cons≢nil q)
  first-by-pairs (first_entry a) (e ∷ fs) q = first_entry (rw (ends_same q) at a)
  first-by-pairs (later_entry a f) [] q = absurd (cons≢nil q)
  first-by-pairs (later_entry a f) (e ∷ fs) q =
      later_entry (rw (ends_same q) at a) (first-by-pairs f fs (tail-eq_of_cons-eq (tail-eq_of_cons-eq q)))

-- THE LAW: entries with the same pairs have the same reasons, whatever their axis and index are
pub ends-decide : {possible certain : List Float} {es : List Entry} {p : Float} {r : Reason} (fs : List Entry)
    → hit_pairs outer es ≡ hit_pairs outer fs → hit_pairs inner es ≡ hit_pairs inner fs
    → TrueReason possible certain es p r → TrueReason possible certain fs p r
ends-decide fs o i (not_held a) = not_held a
ends-decide {p = p} fs o i (cut_away a f) = cut_away a (first-by-pairs inner p f fs i)
ends-decide {p = p} fs o i (made_uncertain c n f) = made_uncertain c (rw (sym i) n) (first-by-pairs outer p f fs o)
ends-decide fs o i (never_certain a c n) = never_certain a c (rw (sym i) n)
ends-decide fs o i (untouched c n m) = untouched c (rw (sym i) n) (rw (sym o) m)

-- ---- what an accepted answer gives
module _ {lo hi : Float} {possible certain log : List Float} {place : Float} where
  pub traced-sets : {r : Reason} → Traced lo hi possible certain log place r
      → SetsOfReason r (membership_of possible certain (entries log) place)
  traced-sets t = reason-sets t.ray t.reason_true

  pub traced-entry : {r : Reason} → Traced lo hi possible certain log place r → TakenBy r possible certain (entries log) place
  traced-entry t = reason-entry t.reason_true

  -- no other answer would be right
  pub traced-only : {q r : Reason} → Traced lo hi possible certain log place q → Traced lo hi possible certain log place r → q ≡ r
  traced-only {q} {r} s t =
      let one = one-reason s.ray (entries log) place in one.no_other q s.reason_true ∙ sym (one.no_other r t.reason_true)
