-- What a point or a grid has along a world axis, said once for all three axes.
use Rattle.std.specs.Prelude.{ℕ, zero, suc, Float}
use Rattle.grid.specs.declared.Vec3.{Vec3}
use Rattle.grid.specs.declared.WorldAxis.{WorldAxis}
use Rattle.grid.specs.declared.CrossAxes.{CrossAxes}
use Rattle.grid.specs.declared.DexelGrid.{DexelGrid}

-- Document 01's world axis is a digit 0 to 2. 2 and every larger digit is z.
unfoldable pub by_digit : {A : Type 0} → ℕ → A → A → A → A
by_digit zero x y z = x
by_digit (suc zero) x y z = y
by_digit (suc (suc n)) x y z = z

abbrev pub by_axis : {A : Type 0} → WorldAxis → A → A → A → A
by_axis a x y z = by_digit a.0 x y z

-- the world axis of a digit
abbrev pub world_axis : ℕ → WorldAxis
world_axis n = record { 0 = n }

abbrev pub along_of : Vec3 → WorldAxis → Float
along_of p a = by_axis a p.x p.y p.z

abbrev pub cells_along : DexelGrid → WorldAxis → ℕ
cells_along g a = by_axis a g.c0 g.c1 g.c2

abbrev pub step_along : DexelGrid → WorldAxis → Float
step_along g a = by_axis a g.s0 g.s1 g.s2

-- the two axes across a ray, (axis + 1) % 3 and (axis + 2) % 3
abbrev pub cross_of : WorldAxis → CrossAxes
cross_of a =
    by_axis a
    (record { u = world_axis 1; v = world_axis 2 })
    (record { u = world_axis 2; v = world_axis 0 })
    (record { u = world_axis 0; v = world_axis 1 })
