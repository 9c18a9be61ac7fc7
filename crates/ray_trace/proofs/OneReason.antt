-- Exactly one reason is true of each double, NaN included. The four tests of the point sets decide its kind, and the number of the first
-- entry that holds the place is a function of the entries; so each true reason is the one that these decide.
use mathlib.Core.Path.{◌≡◌, refl, ap}
use mathlib.Core.Bool.{Bool, true, false, cond, ◌||◌, false≢true}
use mathlib.Core.List.{List, [], ◌∷◌}
use Prim.Native.Nat.{ℕ, suc}
use lib.Ieee.{Float}
use Rattle.spans.specs.Spans.{holds}
use Rattle.spans.specs.Rays.{ValidRay}
use Rattle.log_model.specs.Logs.{HitKind, inner, outer}
use Rattle.log_model.specs.declared.Entry.{Entry}
use Rattle.ray_trace.specs.Reasons.{hit_pairs, hit_holds, FirstHolding, first_entry, later_entry}
use Rattle.ray_trace.specs.Sets.{OneReason}
use Rattle.ray_trace.specs.declared.Reason.{Reason}
use Rattle.ray_trace.specs.declared.Reason.TheVariants.{NotPossible, RemovedBy, UncertainBy, NotCertain, StillCertain}
use Rattle.ray_trace.specs.Reasons.{TrueReason, not_held, cut_away, made_uncertain, never_certain, untouched}

module _ (w : HitKind) (p : Float) where
  pub first_holds : {es : List Entry} {k : ℕ} → FirstHolding w p es k → holds (hit_pairs w es) p ≡ true
  unfolding holds hit_pairs
  first_holds (first_entry a) = rw a
  first_holds (later_entry a f) = rw a (first_holds f)

  -- the number of the first entry that holds p, where one does
  abbrev first_number : List Entry → ℕ
  first_number [] = 0
  first_number (e ∷ es) = cond (hit_holds w e p) 1 (suc (first_number es))

  number-only : {es : List Entry} {k : ℕ} → FirstHolding w p es k → k ≡ first_number es
  number-only (first_entry a) = rw a
  number-only (later_entry a f) = rw a (ap suc (number-only f))

  number-first : (es : List Entry) → holds (hit_pairs w es) p ≡ true → FirstHolding w p es (first_number es)
  unfolding holds hit_pairs
  number-first [] h = absurd (false≢true h)
  number-first (e ∷ es) h = go (hit_holds w e p) refl h (number-first es)
    where
      go : (b : Bool) → hit_holds w e p ≡ b → (b || holds (hit_pairs w es) p) ≡ true
          → (holds (hit_pairs w es) p ≡ true → FirstHolding w p es (first_number es))
          → FirstHolding w p (e ∷ es) (cond b 1 (suc (first_number es)))
      go true t h f = first_entry t
      go false t h f = later_entry t (f h)

-- the reason by the four tests and the two numbers
abbrev reason_by : (possible certain in_inner in_outer : Bool) (inner_number outer_number : ℕ) → Reason
reason_by false c i o j k = NotPossible
reason_by true c true o j k = RemovedBy j
reason_by true true false true j k = UncertainBy k
reason_by true false false o j k = NotCertain
reason_by true true false false j k = StillCertain

module _ (possible certain : List Float) (es : List Entry) (p : Float) (inside : holds certain p ≡ true → holds possible p ≡ true) where
  abbrev decided : Reason
  decided = reason_by (holds possible p) (holds certain p) (holds (hit_pairs inner es) p) (holds (hit_pairs outer es) p)
      (first_number inner p es) (first_number outer p es)

  decided-only : (r : Reason) → TrueReason possible certain es p r → r ≡ decided
  decided-only r (not_held a) = rw a
  decided-only r (cut_away a f) = rw (a, first_holds inner p f, number-only inner p f)
  decided-only r (made_uncertain c n f) = rw (inside c, c, n, first_holds outer p f, number-only outer p f)
  decided-only r (never_certain a c n) = rw (a, c, n)
  decided-only r (untouched c n m) = rw (inside c, c, n, m)

  decided-true : TrueReason possible certain es p decided
  decided-true = go (holds possible p) (holds certain p) (holds (hit_pairs inner es) p) (holds (hit_pairs outer es) p) refl refl refl refl
    where
      go : (a c i o : Bool) → holds possible p ≡ a → holds certain p ≡ c → holds (hit_pairs inner es) p ≡ i
          → holds (hit_pairs outer es) p ≡ o
          → TrueReason possible certain es p (reason_by a c i o (first_number inner p es) (first_number outer p es))
      go false c i o s t u v = not_held s
      go true c true o s t u v = cut_away s (number-first inner p es u)
      go true true false true s t u v = made_uncertain t u (number-first outer p es v)
      go true false false o s t u v = never_certain s t u
      go true true false false s t u v = untouched t u v

-- THE LAW
pub one-reason : {lo hi : Float} {possible certain : List Float} → ValidRay lo hi possible certain → (es : List Entry) (p : Float)
    → OneReason possible certain es p
one-reason {possible = possible} {certain = certain} v es p = record {
  reason = decided possible certain es p (v.inside p);
  reason_true = decided-true possible certain es p (v.inside p);
  no_other = decided-only possible certain es p (v.inside p);
}
