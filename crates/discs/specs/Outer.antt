-- The outer pair of a ray before it is turned to world direction. `outer-turned` in proofs/Outer.antt says that the pair which
-- the sweep works out (`outer_of`) is this one turned.
use Rattle.std.specs.Prelude.{Float, Option, None, Some}
use Rattle.std.specs.Float.{binary64}
use Rattle.std.specs.Float.Ieee.{add, sub}
use Rattle.cutter.specs.Cutter.{cut_max}
use Rattle.frame.specs.Frame.{world_of}
use Rattle.frame.specs.declared.Frame.{Frame}
use Rattle.frame.specs.declared.LocalAxis.{LocalAxis}
use Rattle.strips.specs.Strip.{stadium_strip}
use Rattle.strips.specs.declared.Strip.{Strip}
use Rattle.strips.specs.declared.Strip.TheVariants.{Hit, Miss}
use Rattle.sweep_model.specs.Across.{pair}
use Rattle.sweep_model.specs.declared.Profile.{Profile}
use Rattle.sweep_model.specs.declared.ChordOnAxis.{ChordOnAxis}
use Rattle.sweep_model.specs.declared.Section.{Section}

-- a strip less the guard at its low end and plus the guard at its high one; a miss stays one
unfoldable pub widened_by : (guard : Float) → Strip → Strip
widened_by guard Miss = Miss
widened_by guard (Hit lo hi) = Hit (sub binary64 lo guard) (add binary64 hi guard)

-- the strip over the band of the stadium of the radius r and e, widened
abbrev pub outer_local_at : ChordOnAxis → Section → Option Float → Strip
outer_local_at l s None = Miss
outer_local_at l s (Some r) = widened_by l.guard (stadium_strip l.a l.b l.length (add binary64 r l.e) s.y0 s.y1)

-- the same for the widest radius over the ray's window of heights
unfoldable pub outer_local : Profile → ChordOnAxis → Section → Strip
outer_local p l s = outer_local_at l s (cut_max p.shape p.cutter s.w0 s.w1)

-- a strip along a local axis, in world direction
abbrev pub world_strip : Frame → LocalAxis → Strip → Strip
world_strip f la Miss = Miss
world_strip f la (Hit lo hi) = let w = world_of f la (pair lo hi) in Hit w.lo w.hi
