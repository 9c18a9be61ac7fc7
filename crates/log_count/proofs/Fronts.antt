-- Where the hits of an entry begin that begin past b, and how far the hits of a ray reach that do not.
use mathlib.Core.Path.{◌≡◌, refl, ◌∙◌}
use mathlib.Core.Bool.{Bool, true, false}
use mathlib.Core.Logic.{◌⊎◌, inl, inr}
use lib.Ieee.{Float, lt, le}
use Rattle.doubles.specs.Doubles.{Number}
use Rattle.logic.proofs.Bools.{by_cases, clash}
use Rattle.doubles.proofs.Order.{lt-number, lt_irrefl, lt-le-trans}
use Rattle.spans.specs.Overlay.{higher_of, lower_of}
use Rattle.log_model.specs.declared.Entry.{Entry}
use Rattle.log_model.specs.Logs.{HitKind, outer, inner, hit_lo, hit_hi}
use Rattle.span_overlay.proofs.Less.{higher-first, higher-second, lower-first, lower-second}
use Rattle.log_keys.specs.Keys.{top}
use Rattle.log_keys.proofs.Infinity.{top-number}
use Rattle.log_keys.proofs.Hits.{LosesKind, inner_hit, outer_hit}
use Rattle.log_long.specs.Long.{begin_past, least_past, kind_front}
use Rattle.log_long.specs.declared.LongPart.{LongPart}

-- ---- where hits begin

module _ (b : Float) where
  -- a hit of this kind that begins past b
  pub record Begun (w : HitKind) (e : Entry) (x : Float) : Type 0 where
    pub proper : lt (hit_lo w e) (hit_hi w e) ≡ true
    pub past : lt b (hit_lo w e) ≡ true
    pub is : x ≡ hit_lo w e

  module _ (e : Entry) where
    begins : HitKind → Float
    begins w = begin_past b (hit_lo w e) (hit_hi w e)

    begin-cases : (w : HitKind) → (begins w ≡ top) ⊎ Begun w e (begins w)
    unfolding begin_past begins hit_lo
    begin-cases w = elim (by_cases (lt (hit_lo w e) (hit_hi w e))) [
      | inl h ↦ elim (by_cases (lt b (hit_lo w e))) [
        | inl k ↦ inr (record { proper = h; past = k; is = rw (h, k) })
        | inr k ↦ inl (rw (h, k))
      ]
      | inr h ↦ inl (rw h)
    ]

    begin-number : (w : HitKind) → Number (begins w)
    begin-number w = elim (begin-cases w) [ inl h ↦ rw h top-number | inr h ↦ rw h.is (lt-number b (hit_lo w e) h.past).1 ]

    least-lower : least_past b e ≡ lower_of (begins outer) (begins inner)
    unfolding least_past begins
    least-lower = refl

    -- the first begin is at or before each
    pub least-before : (w : HitKind) → lt (hit_lo w e) (hit_hi w e) ≡ true → lt b (hit_lo w e) ≡ true
        → le (least_past b e) (hit_lo w e) ≡ true
    least-before w h k = rw (least-lower, ← begin-at) (low w)
      where
        begin-at : begins w ≡ hit_lo w e
        begin-at = elim (begin-cases w) [ inl t ↦ unfold begins begin_past in rw (h, k) | inr t ↦ t.is ]

        low : (w : HitKind) → le (lower_of (begins outer) (begins inner)) (begins w) ≡ true
        low outer = lower-first (begins outer) (begins inner) (begin-number outer)
        low inner = lower-second (begins outer) (begins inner) (begin-number outer) (begin-number inner)

    -- and one of them, where it is not plus infinity
    pub least-is : lt (least_past b e) top ≡ true → (w : HitKind) × Begun w e (least_past b e)
    least-is h = elim (by_cases (lt (begins inner) (begins outer))) [
      | inl k ↦ is inner (least-lower ∙ rw k)
      | inr k ↦ is outer (least-lower ∙ rw k)
    ]
      where
        is : (w : HitKind) → least_past b e ≡ begins w → (w : HitKind) × Begun w e (least_past b e)
        is w q = elim (begin-cases w) [
          | inl t ↦ absurd (clash (lt top top) (rw (q, t) at h) (lt_irrefl top))
          | inr t ↦ (w, rw q t)
        ]

-- ---- how far hits reach

-- how far those reach that the list loses
abbrev pub front_of : (certain : Bool) → LongPart → Float
front_of true w = higher_of w.outer w.inner
front_of false w = w.inner

module _ (w : LongPart) (x : Float) where
  -- what lies below one of them lies below the front
  pub below-front : Number w.outer → Number w.inner → (certain : Bool) (k : HitKind) → LosesKind certain k
      → lt x (kind_front k w) ≡ true
      → lt x (front_of certain w) ≡ true
  below-front n m false outer x5 h = elim x5 [ ]
  below-front n m false inner inner_hit h = h
  below-front n m true inner inner_hit h = lt-le-trans x w.inner _ h (higher-second w.outer w.inner n m)
  below-front n m true outer outer_hit h = lt-le-trans x w.outer _ h (higher-first w.outer w.inner n)

  -- and the front is one of them
  pub front_is : (certain : Bool) → (k : HitKind) × LosesKind certain k × (front_of certain w ≡ kind_front k w)
  front_is false = (inner, inner_hit, refl)
  front_is true = elim (by_cases (lt w.outer w.inner)) [
    | inl t ↦ (inner, inner_hit, rw t)
    | inr t ↦ (outer, outer_hit, rw t)
  ]
