-- A turned interval holds a point exactly when the interval holds the turned point, whatever the sign, the interval
-- and the point, a NaN too.
use mathlib.Core.Path.{◌≡◌, refl, sym, ap, ◌∙◌}
use mathlib.Core.Bool.{Bool, true, false, ◌&&◌}
use lib.Ieee.{Float, neg, lt, le}
use Rattle.doubles.specs.Constants.{plus_zero}
use Rattle.doubles.proofs.Order.{lt-neg, le-neg, neg-neg}
use Rattle.frame.specs.declared.Pair.{Pair}
use Rattle.frame.specs.Frame.{turned}
use Rattle.frame.specs.Turns.{turned_point, FrameTurned}

both : (a b : Bool) → (a && b) ≡ (b && a)
both true true = refl
both true false = refl
both false true = refl
both false false = refl

module _ (x p : Float) where
  lt-over : lt (neg x) p ≡ lt (neg p) x
  lt-over = ap (lt (neg x)) (sym (neg-neg p)) ∙ lt-neg x (neg p)

  lt-under : lt p (neg x) ≡ lt x (neg p)
  lt-under = ap (λ (q : Float). lt q (neg x)) (sym (neg-neg p)) ∙ lt-neg (neg p) x

  le-over : le (neg x) p ≡ le (neg p) x
  le-over = ap (le (neg x)) (sym (neg-neg p)) ∙ le-neg x (neg p)

  le-under : le p (neg x) ≡ le x (neg p)
  le-under = ap (λ (q : Float). le q (neg x)) (sym (neg-neg p)) ∙ le-neg (neg p) x

pub turned-holds : (s : Float) (i : Pair) (p : Float) → FrameTurned s i p
unfolding turned turned_point
turned-holds s i p = go (lt plus_zero s) refl
  where
    go : (b : Bool) → lt plus_zero s ≡ b → FrameTurned s i p
    go true e = record { closed_is = rw e; between_is = rw e; span_is = rw e }
    go false e = record {
      closed_is = rw (e, le-over i.hi p, le-under i.lo p) (both (le (neg p) i.hi) (le i.lo (neg p)));
      between_is = rw (e, lt-over i.hi p, lt-under i.lo p) (both (lt (neg p) i.hi) (lt i.lo (neg p)));
      span_is = rw (e, le-over i.hi p, lt-under i.lo p) (both (le (neg p) i.hi) (lt i.lo (neg p)));
    }
