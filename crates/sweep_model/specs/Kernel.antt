-- Which rays of a world axis a chord visits (sweep.rs 320-375, `Kernel::rays`). Each operation is rounded, in the Rust's order.
use Rattle.std.specs.Prelude.{cond, eqb, Float, Option, None, Some}
use Rattle.std.specs.Float.{binary64}
use Rattle.std.specs.Float.Ieee.{add, sub, div, lt}
use Rattle.doubles.specs.Constants.{two}
use Rattle.doubles.specs.Doubles.{larger_of, smaller_of}
use Rattle.cutter.specs.declared.CutterShape.{CutterShape}
use Rattle.cutter.specs.declared.PreparedCutter.{PreparedCutter}
use Rattle.frame.specs.Frame.{sign_along, local_axis_of, world_of}
use Rattle.frame.specs.declared.Frame.{Frame}
use Rattle.frame.specs.declared.LocalAxis.{LocalAxis}
use Rattle.frame.specs.declared.Pair.{Pair}
use Rattle.grid.specs.Axes.{along_of, step_along, cross_of}
use Rattle.grid.specs.Rays.{cell_at}
use Rattle.grid.specs.declared.Vec3.{Vec3}
use Rattle.grid.specs.declared.WorldAxis.{WorldAxis}
use Rattle.grid.specs.declared.DexelStockSpec.{DexelStockSpec}
use Rattle.grid.specs.declared.DexelGrid.{DexelGrid}
use Rattle.strips.specs.declared.PlanePoint.{PlanePoint}
use Rattle.sweep_model.specs.declared.Profile.{Profile}
use Rattle.sweep_model.specs.declared.Kernel.{Kernel}
use Rattle.sweep_model.specs.declared.Chord.{Chord}
use Rattle.sweep_model.specs.declared.AxisScale.{AxisScale}
use Rattle.sweep_model.specs.declared.ChordOnAxis.{ChordOnAxis}
use Rattle.sweep_model.specs.declared.CellRange.{CellRange}
use Rattle.sweep_model.specs.declared.RayRange.{RayRange}

-- the radius that visits go by is half the diameter (sweep.rs 153)
abbrev pub profile_of : CutterShape → PreparedCutter → Profile
profile_of shape c = record { shape = shape; cutter = c; radius = div binary64 c.diameter_mm two }

-- a point as rays along the local axis 0 or 1 see it: x along the ray, y along the other of the two (sweep.rs 912, 918)
unfoldable pub plan_point : Vec3 → LocalAxis → PlanePoint
plan_point p la = cond (eqb la.0 0) (record { x = p.x; y = p.y }) (record { x = p.y; y = p.x })

-- a superset of every outer interval, in world coordinates along the ray (sweep.rs 920-928)
unfoldable pub reach_of : Kernel → LocalAxis → (pad : Float) → (a b : PlanePoint) → Pair
unfolding world_of
reach_of k la pad a b =
    world_of k.frame la
    (record {
      lo = sub binary64 (sub binary64 (smaller_of a.x b.x) pad) k.guard;
      hi = add binary64 (add binary64 (larger_of a.x b.x) pad) k.guard;
    })

-- the cells along a world axis, as the centres of its rays need them (sweep.rs 357-361)
unfoldable pub axis_scale_of : DexelStockSpec → DexelGrid → Frame → WorldAxis → AxisScale
axis_scale_of s g f w = record { sign = sign_along f (local_axis_of f w); min = along_of s.min_mm w; step = step_along g w }

-- what a chord has in common for all rays of a world axis (sweep.rs 912-928)
unfoldable pub chord_on_axis_of : DexelStockSpec → DexelGrid → Kernel → Profile → Chord → WorldAxis → ChordOnAxis
chord_on_axis_of s g k p c axis =
    let la = local_axis_of k.frame axis in
    record {
      frame = k.frame;
      la = la;
      guard = k.guard;
      a = plan_point c.a la;
      b = plan_point c.b la;
      length = c.length;
      e = c.e;
      z_lo = smaller_of c.a.z c.b.z;
      z_hi = larger_of c.a.z c.b.z;
      reach = reach_of k la (add binary64 p.radius c.e) (plan_point c.a la) (plan_point c.b la);
      u = axis_scale_of s g k.frame (cross_of axis).u;
      v = axis_scale_of s g k.frame (cross_of axis).v;
      u_is_tool = eqb (local_axis_of k.frame (cross_of axis).u).0 2;
    }

-- the local range along a local axis that crosses the rays: the tool's own, or the other one (sweep.rs 913-917)
unfoldable pub span_over : Profile → ChordOnAxis → LocalAxis → Pair
span_over p l i =
    let pad = add binary64 p.radius l.e in
    cond (eqb i.0 2)
    (record { lo = sub binary64 l.z_lo l.e; hi = add binary64 (add binary64 l.z_hi p.cutter.cutting_length_mm) l.e })
    (record { lo = sub binary64 (smaller_of l.a.y l.b.y) pad; hi = add binary64 (larger_of l.a.y l.b.y) pad })

-- the cells along a world axis that a pair meets, clamped to the blank; none where it misses the blank or is reversed
-- (sweep.rs 335-343)
unfoldable pub cells_met : DexelStockSpec → DexelGrid → WorldAxis → Pair → Option CellRange
cells_met s g w p =
    cond (lt p.hi (along_of s.min_mm w)) None
    (cond (lt (along_of s.max_mm w) p.lo) None
    (cond (lt p.hi p.lo) None
    (Some (record { first = cell_at s g w p.lo; last = cell_at s g w p.hi }))))

-- the cells of a world axis that crosses the rays, by the range along its local axis (sweep.rs 332-343)
unfoldable pub cells_across : DexelStockSpec → DexelGrid → Profile → ChordOnAxis → WorldAxis → Option CellRange
cells_across s g p l w = cells_met s g w (world_of l.frame (local_axis_of l.frame w) (span_over p l (local_axis_of l.frame w)))

-- both ranges of cells, or no ray where one misses (sweep.rs 331-344)
abbrev pub rectangle : Option CellRange → Option CellRange → Option RayRange
rectangle None vs = None
rectangle (Some us) None = None
rectangle (Some us) (Some vs) = Some (record { u0 = us.first; u1 = us.last; v0 = vs.first; v1 = vs.last })

-- document 01's clamped rectangle; one that misses the blank has no rays (sweep.rs 327-344)
unfoldable pub rectangle_of : DexelStockSpec → DexelGrid → Profile → ChordOnAxis → WorldAxis → Option RayRange
rectangle_of s g p l axis = rectangle (cells_across s g p l (cross_of axis).u) (cells_across s g p l (cross_of axis).v)
