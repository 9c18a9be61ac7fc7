-- A ray is hit where possible material lies within its outer interval: some double is in its possible list and in that interval.
use Rattle.std.specs.Prelude.{Option, None, Some}
use Rattle.std.proofs.Common.{◌≡◌, Bool, true, false, cond, List, refl, subst}
use lib.Ieee.{Float, binary64, add, sub, neg, lt}
use lib.Ieee.Fits.{add-fits, sub-fits, neg-fits}
use Rattle.doubles.specs.Constants.{plus_zero}
use Rattle.doubles.specs.Doubles.{Number}
use Rattle.spans.specs.Spans.{Double, All, sound, Share}
use Rattle.cutter.specs.Cutter.{cut_max}
use Rattle.frame.specs.Frame.{sign_along, turned, world_of}
use Rattle.strips.specs.declared.Strip.{Strip}
use Rattle.strips.specs.declared.Strip.TheVariants.{Hit, Miss}
use Rattle.strips.proofs.Ends.{DoubleEnds}
use Rattle.sweep_model.specs.declared.Profile.{Profile}
use Rattle.sweep_model.specs.declared.ChordOnAxis.{ChordOnAxis}
use Rattle.sweep_model.specs.Meets.{spans_meet, overlaps_of}
use Rattle.sweep_ray.proofs.Sharing.{overlaps-share, share-overlaps}
use Rattle.sweep_model.specs.declared.Section.{Section}
use Rattle.sweep_model.specs.declared.HitPairs.{HitPairs}
use Rattle.sweep_model.specs.Across.{pair, outer_from, outer_at, outer_of, inner_of, hit_with, ray_hit_of}
use Rattle.sweep_ray.specs.Steps.{ends_of}

-- ---- the ends of the outer interval are doubles

widened : (l : ChordOnAxis) (t : Strip) → DoubleEnds (outer_from l t)
unfolding outer_from world_of turned
widened l Miss = tt
widened l (Hit lo hi) = go (lt plus_zero (sign_along l.frame l.la))
  where
    a : Float
    a = sub binary64 lo l.guard

    b : Float
    b = add binary64 hi l.guard

    go : (u : Bool) → Double (cond u (pair a b) (pair (neg b) (neg a))).lo × Double (cond u (pair a b) (pair (neg b) (neg a))).hi
    go true = (sub-fits binary64 lo l.guard, add-fits binary64 hi l.guard)
    go false = (neg-fits binary64 b (add-fits binary64 hi l.guard), neg-fits binary64 a (sub-fits binary64 lo l.guard))

outer-doubles : (p : Profile) (l : ChordOnAxis) (s : Section) → DoubleEnds (outer_of p l s)
unfolding outer_of
outer-doubles p l s = go (cut_max p.shape p.cutter s.w0 s.w1)
  where
    go : (r : Option Float) → DoubleEnds (outer_at l s r)
    go None = tt
    go (Some r) = widened l _

-- ---- the law, both ways

module _ (p : Profile) (l : ChordOnAxis) (s : Section) (possible : List Float) (is_sound : sound possible ≡ true) where
  abbrev Material : Option HitPairs → Type 0
  Material None = Unit {0}
  Material (Some h) = Number h.outer.lo → Number h.outer.hi → Share possible (ends_of h.outer)

  pub hit-material : All Double possible → (h : HitPairs) → ray_hit_of p l s possible ≡ Some h → Number h.outer.lo → Number h.outer.hi
      → Share possible (ends_of h.outer)
  unfolding ray_hit_of
  hit-material d h e = subst Material e (met (spans_meet possible l.reach) (outer_of p l s) (outer-doubles p l s))
    where
      found : (lo hi : Float) → Double lo → (b : Bool) → overlaps_of possible (pair lo hi) ≡ b
          → Material (cond b (Some (record { outer = pair lo hi; inner = inner_of p l s })) None)
      found lo hi f true e = λ u v. overlaps-share (pair lo hi) possible is_sound d (f, u) v e
      found lo hi f false e = tt

      met : (b : Bool) (o : Strip) → DoubleEnds o → Material (cond b (hit_with p l s possible o) None)
      met false o f = tt
      met true Miss f = tt
      met true (Hit lo hi) f = found lo hi f.0 (overlaps_of possible (pair lo hi)) refl

  -- and a ray that passes the quick test is hit wherever such a point is
  pub material-hit : (lo hi : Float) → spans_meet possible l.reach ≡ true → outer_of p l s ≡ Hit lo hi
      → Share possible (ends_of (pair lo hi)) → Some (record { outer = pair lo hi; inner = inner_of p l s }) ≡ ray_hit_of p l s possible
  unfolding ray_hit_of
  material-hit lo hi h o m = rw (h, o, share-overlaps (pair lo hi) possible is_sound m)
