-- The outer pair that the sweep works out is `outer_local` turned to world direction (`outer-turned`), and so is the pair of a ray
-- that is hit (`hit-turned`). Assumes nothing.
use Rattle.std.specs.Prelude.{Option, None, Some}
use mathlib.Core.Path.{◌≡◌, refl, ◌∙◌, subst}
use mathlib.Core.Bool.{Bool, true, false, cond}
use mathlib.Core.List.{List}
use lib.Ieee.{Float, binary64, add}
use Rattle.cutter.specs.Cutter.{cut_max}
use Rattle.strips.specs.Strip.{stadium_strip}
use Rattle.strips.specs.declared.Strip.{Strip}
use Rattle.strips.specs.declared.Strip.TheVariants.{Hit, Miss}
use Rattle.sweep_model.specs.Meets.{spans_meet, overlaps_of}
use Rattle.sweep_model.specs.Across.{pair, outer_from, outer_at, outer_of, inner_of, hit_with, ray_hit_of}
use Rattle.sweep_model.specs.declared.Profile.{Profile}
use Rattle.sweep_model.specs.declared.ChordOnAxis.{ChordOnAxis}
use Rattle.sweep_model.specs.declared.Section.{Section}
use Rattle.sweep_model.specs.declared.HitPairs.{HitPairs}
use Rattle.discs.specs.Outer.{widened_by, outer_local_at, outer_local, world_strip}

from-turned : (l : ChordOnAxis) (s : Strip) → outer_from l s ≡ world_strip l.frame l.la (widened_by l.guard s)
unfolding outer_from widened_by
from-turned l Miss = refl
from-turned l (Hit lo hi) = refl

at-turned : (l : ChordOnAxis) (s : Section) (r : Option Float) → outer_at l s r ≡ world_strip l.frame l.la (outer_local_at l s r)
at-turned l s None = refl
at-turned l s (Some r) = from-turned l (stadium_strip l.a l.b l.length (add binary64 r l.e) s.y0 s.y1)

pub outer-turned : (p : Profile) (l : ChordOnAxis) (s : Section) → outer_of p l s ≡ world_strip l.frame l.la (outer_local p l s)
unfolding outer_of outer_local
outer-turned p l s = at-turned l s (cut_max p.shape p.cutter s.w0 s.w1)

-- ---- the pair of a ray that is hit

-- a hit has the ends of o
abbrev HasEnds : Strip → Option HitPairs → Type 0
HasEnds o None = Unit {0}
HasEnds o (Some h) = Hit h.outer.lo h.outer.hi ≡ o

module _ (p : Profile) (l : ChordOnAxis) (s : Section) (possible : List Float) where
  hit-ends : HasEnds (outer_of p l s) (ray_hit_of p l s possible)
  unfolding ray_hit_of
  hit-ends = go (spans_meet possible l.reach) (outer_of p l s)
    where
      found : (lo hi : Float) (b : Bool)
          → HasEnds (Hit lo hi) (cond b (Some (record { outer = pair lo hi; inner = inner_of p l s })) None)
      found lo hi true = refl
      found lo hi false = tt

      go : (b : Bool) (o : Strip) → HasEnds o (cond b (hit_with p l s possible o) None)
      go false o = tt
      go true Miss = tt
      go true (Hit lo hi) = found lo hi (overlaps_of possible (pair lo hi))

  pub hit-turned : (h : HitPairs) → ray_hit_of p l s possible ≡ Some h
      → Hit h.outer.lo h.outer.hi ≡ world_strip l.frame l.la (outer_local p l s)
  hit-turned h e = subst (HasEnds (outer_of p l s)) e hit-ends ∙ outer-turned p l s
