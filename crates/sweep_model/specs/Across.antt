-- What a chord does to one ray across the tool axis (sweep.rs 903-966, `across`). Each operation is rounded, in the
-- Rust's order.
-- The path and its chord stay within e of each other, and at every tool height that the ray's cross-section can see
-- from the chord the tool's section is a disc no larger than `cut_max` and no smaller than `cut_min` of the window.
-- Outer: such a disc stays in the stadium around the chord whose radius is the largest section and e, so the stadium's
-- extent over the whole band, widened by the guard for what rounding may lose, contains every point of the ray that the
-- tool may touch.
-- Inner: the stadium of the smallest section less e is swept at every height of the window, and being convex it crosses
-- the whole band wherever it holds both edges, so what the two edges have in common, narrowed by the guard, has only
-- points that the tool certainly removes. Where the window leaves the cutting part there is no inner.
-- This is camlib's argument, over exact numbers. Proved is that the code computes these definitions, and in the crate discs that
-- the outer pair holds the exact disc of the widest radius, as it is worked out here, at either end of the chord, for e and a
-- guard that are not too small.
use Rattle.std.specs.Prelude.{cond, List, Float, Option, None, Some}
use Rattle.std.specs.Float.{binary64}
use Rattle.std.specs.Float.Ieee.{add, sub, lt}
use Rattle.doubles.specs.Constants.{plus_zero}
use Rattle.doubles.specs.Doubles.{larger_of, smaller_of}
use Rattle.cutter.specs.Cutter.{cut_max, cut_min}
use Rattle.frame.specs.Frame.{world_of}
use Rattle.frame.specs.declared.Pair.{Pair}
use Rattle.strips.specs.Strip.{stadium_strip}
use Rattle.strips.specs.declared.Strip.{Strip}
use Rattle.strips.specs.declared.Strip.TheVariants.{Hit, Miss}
use Rattle.sweep_model.specs.declared.HitPairs.{HitPairs}
use Rattle.sweep_model.specs.declared.Profile.{Profile}
use Rattle.sweep_model.specs.declared.ChordOnAxis.{ChordOnAxis}
use Rattle.sweep_model.specs.declared.Section.{Section}
use Rattle.sweep_model.specs.Meets.{spans_meet, overlaps_of}

-- document 01's "no inner is [0, 0]"; `None` at sweep.rs 946
abbrev pub no_pair : Pair
no_pair = record { lo = plus_zero; hi = plus_zero }

-- two ends as a pair
abbrev pub pair : Float → Float → Pair
pair lo hi = record { lo = lo; hi = hi }

-- an extent widened by the guard, in world coordinates (sweep.rs 942)
unfoldable pub outer_from : ChordOnAxis → Strip → Strip
outer_from l Miss = Miss
outer_from l (Hit lo hi) =
    let w = world_of l.frame l.la (pair (sub binary64 lo l.guard) (add binary64 hi l.guard)) in
    Hit w.lo w.hi

-- the extent over the band of the stadium of the radius r and e (sweep.rs 939-942)
abbrev pub outer_at : ChordOnAxis → Section → Option Float → Strip
outer_at l s None = Miss
outer_at l s (Some r) = outer_from l (stadium_strip l.a l.b l.length (add binary64 r l.e) s.y0 s.y1)

-- where the largest section over the window may touch the ray's band (sweep.rs 936-942)
unfoldable pub outer_of : Profile → ChordOnAxis → Section → Strip
outer_of p l s = outer_at l s (cut_max p.shape p.cutter s.w0 s.w1)

-- what two extents have in common, narrowed by the guard, in world coordinates (sweep.rs 955-958)
unfoldable pub inner_from : ChordOnAxis → Strip → Strip → Pair
inner_from l Miss t = no_pair
inner_from l (Hit lo hi) Miss = no_pair
inner_from l (Hit lo hi) (Hit lo' hi') =
    let a = add binary64 (larger_of lo lo') l.guard in
    let b = sub binary64 (smaller_of hi hi') l.guard in
    cond (lt a b) (world_of l.frame l.la (pair a b)) no_pair

-- what the stadium of the radius r less e covers at both edges of the band (sweep.rs 948-959)
abbrev pub inner_at : ChordOnAxis → Section → Option Float → Pair
inner_at l s None = no_pair
inner_at l s (Some r) =
    let rho = sub binary64 r l.e in
    cond (lt plus_zero rho)
    (inner_from l (stadium_strip l.a l.b l.length rho s.y0 s.y0) (stadium_strip l.a l.b l.length rho s.y1 s.y1))
    no_pair

-- where the smallest section over the window certainly covers the ray's band: both edges of it (sweep.rs 946-960)
unfoldable pub inner_of : Profile → ChordOnAxis → Section → Pair
inner_of p l s = inner_at l s (cut_min p.shape p.cutter s.w0 s.w1)

-- the hit of a ray with this outer extent, if possible material overlaps it (sweep.rs 943-964)
abbrev pub hit_with : Profile → ChordOnAxis → Section → List Float → Strip → Option HitPairs
hit_with p l s possible Miss = None
hit_with p l s possible (Hit lo hi) =
    cond (overlaps_of possible (pair lo hi)) (Some (record { outer = pair lo hi; inner = inner_of p l s })) None

-- a ray is hit where possible material lies within its outer interval (sweep.rs 930-965): `hit-material` and
-- `material-hit` in sweep_ray/proofs/Material.antt
unfoldable pub ray_hit_of : Profile → ChordOnAxis → Section → (possible : List Float) → Option HitPairs
ray_hit_of p l s possible = cond (spans_meet possible l.reach) (hit_with p l s possible (outer_of p l s)) None
