-- How each case of an answer is shown.
use mathlib.Core.Path.{◌≡◌, refl}
use mathlib.Core.Bool.{Bool, true, false, not, ◌&&◌}
use mathlib.Core.List.{List}
use Prim.Native.Nat.{ℕ}
use lib.ListN.{get_or}
use mathlib.Core.Logic.{inl, inr}
use lib.Ieee.{Float, nan}
use Rattle.std.specs.Prelude.{Ok, Err}
use Rattle.refusal.specs.Refusal.{Due, NoneDue}
use Rattle.refusal.specs.declared.Refusal.TheVariants.{Unsound}
use Rattle.logic.proofs.Bools.{found, found-not, clash}
use Rattle.spans.specs.Spans.{Double, sound}
use Rattle.span_cover.specs.Cover.{Covers, Meets}
use Rattle.spans.proofs.Ends.{all-by-place}
use Rattle.spans.proofs.Normal.{all_of}
use Rattle.spans.proofs.Points.{held_number}
use Rattle.span_compare.specs.Verdicts.{ComparePost, compare_causes, Contains, Overlaps}
use Rattle.spans.specs.Steps.{EndOfEither}

-- r is the test of both lists
module _ (a b : List Float) (tells : Bool → Type 0) (r : Bool) (er : r ≡ (sound a && sound b)) where
  pub refuse-unsound : not r ≡ true → ComparePost (compare_causes a b) tells (Err Unsound)
  unfolding Due
  refuse-unsound h = inl (found-not r (sound a && sound b) er h, refl)

  none : not r ≡ false → NoneDue (compare_causes a b)
  unfolding NoneDue
  none h = (clash (sound a && sound b) (found r (sound a && sound b) er h), tt)

  pub say : not r ≡ false → (t : Bool) → tells t → ComparePost (compare_causes a b) tells (Ok t)
  say h t f = (none h, f)

-- an end of a list of doubles that one of the lists holds is a point
module _ (a b : List Float) (da : (i : ℕ) → Double (get_or a i nan)) (db : (i : ℕ) → Double (get_or b i nan)) where
  end-double : (p : Float) → EndOfEither a b p → Double p
  end-double p (inl m) = all_of Double a (all-by-place Double a (λ k g. da k)) p m
  end-double p (inr m) = all_of Double b (all-by-place Double b (λ k g. db k)) p m

  pub contains_by : (r : Bool) → Covers a b r → Contains a b r
  contains_by true f = f
  contains_by false (p, e, h, k) = (p, (end-double p e, held_number b p h), h, k)

  pub overlaps-by : (r : Bool) → Meets a b r → Overlaps a b r
  overlaps-by true (p, e, h, k) = (p, (end-double p e, held_number a p h), h, k)
  overlaps-by false f = f
