-- The cross-section of a ray (sweep.rs 355-362, and the head of `across`, 933-935). Each operation is rounded, in the Rust's order.
use Rattle.std.specs.Prelude.{cond, ℕ, Float}
use Rattle.std.specs.Float.{binary64}
use Rattle.std.specs.Float.Ieee.{add, sub, mul, div}
use Rattle.doubles.specs.Constants.{two}
use Rattle.grid.specs.Grid.{whole}
use Rattle.grid.specs.Rays.{half}
use Rattle.sweep_model.specs.declared.AxisScale.{AxisScale}
use Rattle.sweep_model.specs.declared.ChordOnAxis.{ChordOnAxis}
use Rattle.sweep_model.specs.declared.Section.{Section}

-- the local coordinate of the centre of cell i (sweep.rs 359-360)
unfoldable pub local_center : AxisScale → ℕ → Float
local_center s i = mul binary64 s.sign (add binary64 s.min (mul binary64 (add binary64 (whole i) half) s.step))

-- a band across the ray, and a window of tool heights widened by the chord's climb and its error (sweep.rs 935, 939)
unfoldable pub section_with : ChordOnAxis → (yc hy zc hz : Float) → Section
section_with l yc hy zc hz =
    record {
      y0 = sub binary64 yc hy;
      y1 = add binary64 yc hy;
      w0 = sub binary64 (sub binary64 (sub binary64 zc hz) l.z_hi) l.e;
      w1 = add binary64 (sub binary64 (add binary64 zc hz) l.z_lo) l.e;
    }

-- the cross-section of the ray at the cells iu and iv: one of the two axes across it is the tool's (sweep.rs 357-362, 933-934)
unfoldable pub section_of : ChordOnAxis → (iu iv : ℕ) → Section
section_of l iu iv =
    let cu = local_center l.u iu in
    let cv = local_center l.v iv in
    let hu = div binary64 l.u.step two in
    let hv = div binary64 l.v.step two in
    cond l.u_is_tool (section_with l cv hv cu hu) (section_with l cu hu cv hv)
