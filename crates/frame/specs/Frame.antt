-- The tool's frame (sweep.rs: `Axis::frame`, `local`, `local_axis`, `world`). local[i] = sign[i] * world[perm[i]],
-- where perm is first, first + 1, first + 2 modulo 3, and sign is 1, sign, sign.
use Rattle.std.specs.Prelude.{cond, ℕ, ◌+◌, ◌-◌, ◌%◌, eqb, ltb, Float}
use Rattle.std.specs.Float.{binary64}
use Rattle.std.specs.Float.Ieee.{neg, mul, lt}
use Rattle.doubles.specs.Constants.{one, plus_zero}
use Rattle.grid.specs.Axes.{along_of, world_axis}
use Rattle.grid.specs.declared.Vec3.{Vec3}
use Rattle.grid.specs.declared.WorldAxis.{WorldAxis}
use Rattle.frame.specs.declared.Axis.{Axis}
use Rattle.frame.specs.declared.Axis.TheVariants.{PosX, NegX, PosY, NegY, PosZ, NegZ}
use Rattle.frame.specs.declared.LocalAxis.{LocalAxis}
use Rattle.frame.specs.declared.Frame.{Frame}
use Rattle.frame.specs.declared.Pair.{Pair}

abbrev pub frame : ℕ → Float → Frame
frame n s = record { first = world_axis n; sign = s }

-- the world axis that comes first, and the sign of the two others
abbrev pub frame_of : Axis → Frame
frame_of PosX = frame 1 one
frame_of NegX = frame 1 (neg one)
frame_of PosY = frame 2 one
frame_of NegY = frame 2 (neg one)
frame_of PosZ = frame 0 one
frame_of NegZ = frame 0 (neg one)

-- 2 stands for every larger digit
unfoldable pub axis_digit : ℕ → ℕ
axis_digit n = cond (ltb n 2) n 2

-- perm, and its inverse
unfoldable pub world_axis_of : Frame → LocalAxis → WorldAxis
unfolding axis_digit
world_axis_of f i = record { 0 = (axis_digit f.first.0 + axis_digit i.0) % 3 }

unfoldable pub local_axis_of : Frame → WorldAxis → LocalAxis
unfolding axis_digit
local_axis_of f a = record { 0 = (axis_digit a.0 + 3 - axis_digit f.first.0) % 3 }

unfoldable pub sign_along : Frame → LocalAxis → Float
sign_along f i = cond (eqb i.0 0) one f.sign

-- a coordinate of a world point along a local axis
unfoldable pub local_at : Frame → Vec3 → LocalAxis → Float
unfolding sign_along world_axis_of
local_at f p i = mul binary64 (sign_along f i) (along_of p (world_axis_of f i))

abbrev pub local_axis : ℕ → LocalAxis
local_axis n = record { 0 = n }

unfoldable pub local_of : Frame → Vec3 → Vec3
unfolding local_at
local_of f p = record { x = local_at f p (local_axis 0); y = local_at f p (local_axis 1); z = local_at f p (local_axis 2) }

-- an interval turned by a sign: a negative one negates the ends and swaps them
unfoldable pub turned : Float → Pair → Pair
turned s p = cond (lt plus_zero s) p (record { lo = neg p.hi; hi = neg p.lo })

-- the world interval of an interval along a local axis
unfoldable pub world_of : Frame → LocalAxis → Pair → Pair
unfolding turned sign_along
world_of f i p = turned (sign_along f i) p
