-- Axes and shapes as C has them: by their numbers.
use Rattle.std.specs.Prelude.{cond, ℕ, eqb, ltb, Float}
use Rattle.std.specs.Float.{nan}
use Rattle.frame.specs.declared.Axis.{Axis}
use Rattle.frame.specs.declared.Axis.TheVariants.{PosX, NegX, PosY, NegY, PosZ, NegZ}
use Rattle.cutter.specs.declared.CutterShape.{CutterShape}
use Rattle.cutter.specs.declared.CutterShape.TheVariants.{Flat, Ball, Bull, Drill, Chamfer, Beam, Probe, Lollipop, Dovetail}

-- the axes in the order of their declaration, from 0
unfoldable pub axis_of : ℕ → Axis
axis_of n = cond (eqb n 0) PosX (cond (eqb n 1) NegX (cond (eqb n 2) PosY (cond (eqb n 3) NegY (cond (eqb n 4) PosZ NegZ))))

-- the shapes in the order of their declaration, from 0; past the last one a shape beyond every limit, so that 6 is due
unfoldable pub named_shape : (kind : ℕ) → (m n : Float) → CutterShape
named_shape kind m n =
    cond (eqb kind 0) Flat
    (cond (eqb kind 1) Ball
    (cond (eqb kind 2) (Bull m)
    (cond (eqb kind 3) (Drill m)
    (cond (eqb kind 4) (Chamfer m n)
    (cond (eqb kind 5) Beam
    (cond (eqb kind 6) Probe
    (cond (eqb kind 7) Lollipop
    (cond (eqb kind 8) (Dovetail m) (Dovetail nan)))))))))

-- a number that names no axis makes 6 due too
unfoldable pub shape_of : (axis kind : ℕ) → (m n : Float) → CutterShape
shape_of axis kind m n = cond (eqb kind 5) Beam (cond (ltb 5 axis) (Dovetail nan) (named_shape kind m n))
