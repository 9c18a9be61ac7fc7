-- Steps of the functions that measure a stock.
use mathlib.Core.Path.{◌≡◌, refl, sym, ap, ◌∙◌, subst}
use mathlib.Core.Bool.{false}
use Rattle.std.specs.Prelude.{Some}
use Prim.Native.Nat.{ℕ, ◌+◌}
use native.Mathlib.Numerals.{add-one}
use native.Mathlib.Omega.{arith}
use lib.Ieee.{Float, binary64, of_bits, inf, add, mul}
use Rattle.doubles.specs.Constants.{plus_zero}
use Rattle.grid.specs.Axes.{by_digit, world_axis, step_along, cross_of}
use Rattle.grid.specs.Rays.{ray_count, rays_along, offset, bounds_of}
use Rattle.grid.specs.declared.WorldAxis.{WorldAxis}
use Rattle.grid.specs.declared.CrossAxes.{CrossAxes}
use Rattle.grid.specs.declared.DexelStockSpec.{DexelStockSpec}
use Rattle.grid.specs.declared.DexelGrid.{DexelGrid}
use Rattle.grid.specs.declared.RayBounds.{RayBounds}
use Rattle.store_read.specs.Lengths.{length_from}
use Rattle.store_read.specs.declared.RaySums.{RaySums}
use Rattle.stock.specs.Stock.{ValidTo, ray_list, Possible, Certain}
use Rattle.stock_volume.specs.Volume.{area_of, add_ray, volume_to, volume_along}
use Rattle.stock_volume.specs.declared.AxisVolume.{AxisVolume}
use Rattle.stock_volume.specs.Steps.{AddVolumePost, AxisVolumePost}
use Rattle.store_read.specs.Steps.{RaySumsPost as RayMeasures}
use Rattle.store.specs.Store.{Cells}

pub infinity-is : of_bits binary64 9218868437227405312 ≡ inf false
unfolding of_bits
infinity-is = refl

abbrev vol : Float → Float → AxisVolume
vol c p = record { certain = c; possible = p }

module _ (spec : DexelStockSpec) (c : Cells) (area : Float) where
  pub added : (ray : ℕ) (v : AxisVolume) (lc lp : Float) → lc ≡ length_from plus_zero (ray_list spec c ray Certain)
      → lp ≡ length_from plus_zero (ray_list spec c ray Possible)
      → vol (add binary64 v.certain (mul binary64 lc area)) (add binary64 v.possible (mul binary64 lp area))
      ≡ add_ray spec c area ray v
  unfolding add_ray
  added ray v lc lp e f =
      ap (λ (x : Float). vol (add binary64 v.certain (mul binary64 x area)) (add binary64 v.possible (mul binary64 lp area))) e
      ∙ ap (λ (x : Float). vol (add binary64 v.certain
      (mul binary64 (length_from plus_zero (ray_list spec c ray Certain)) area))
      (add binary64 v.possible (mul binary64 x area))) f

  pub volume-first : (first : ℕ) → vol plus_zero plus_zero ≡ volume_to spec c area first 0
  unfolding volume_to
  volume-first first = refl

  pub volume-next : (first k : ℕ) (v w : AxisVolume) → v ≡ volume_to spec c area first k
      → w ≡ add_ray spec c area (first + k) v → w ≡ volume_to spec c area first (k + 1)
  unfolding volume_to
  volume-next first k v w e f = f ∙ ap (add_ray spec c area (first + k)) e ∙ sym (ap (volume_to spec c area first) (add-one k))

pub area-is : (g : DexelGrid) (a : WorldAxis) (w : CrossAxes) (x y : Float) → w ≡ cross_of a → x ≡ step_along g w.u
    → y ≡ step_along g w.v → mul binary64 x y ≡ area_of g a
unfolding area_of
area-is g a w x y e p q =
    ap (λ (s : Float). mul binary64 s y) p ∙ ap (λ (s : Float). mul binary64 (step_along g w.u) s) q
    ∙ ap (λ (v : CrossAxes). mul binary64 (step_along g v.u) (step_along g v.v)) e

pub volume-end : (spec : DexelStockSpec) (g : DexelGrid) (c : Cells) (a : WorldAxis) (area : Float) (first count k : ℕ) (v : AxisVolume)
    → area ≡ area_of g a → first ≡ offset g a → count ≡ rays_along g a → k ≡ count → v ≡ volume_to spec c area first k
    → v ≡ volume_along spec g c a
volume-end spec g c a area first count k v p q r s e =
    e ∙ ap (λ (x : Float). volume_to spec c x first k) p ∙ ap (λ (x : ℕ). volume_to spec c (area_of g a) x k) q
    ∙ ap (volume_to spec c (area_of g a) (offset g a)) (s ∙ r)

-- ---- the answers of `add_ray` and `axis_volume`
module _ (spec : DexelStockSpec) (g : DexelGrid) (c : Cells) where
  pub ray-added : (area : Float) (ray : ℕ) (v : AxisVolume) (b : RayBounds) (m : RaySums) → b ≡ bounds_of spec g ray
      → RayMeasures b.lo b.hi (ray_list spec c ray Possible) (ray_list spec c ray Certain) (Some m)
      → AddVolumePost spec g c area ray v
      (Some (vol (add binary64 v.certain (mul binary64 m.certain area))
      (add binary64 v.possible (mul binary64 m.possible area))))
  ray-added area ray v b m e t = (
    (subst (λ (x : RayBounds). RayMeasures x.lo x.hi (ray_list spec c ray Possible) (ray_list spec c ray Certain) (Some m)) e t).0,
    added spec c area ray v m.certain m.possible t.2 t.1,
  )

  pub along-good : (a : WorldAxis) (area : Float) (first count k : ℕ) (v : AxisVolume) → area ≡ area_of g a
      → first ≡ offset g a → count ≡ rays_along g a → k ≡ count → v ≡ volume_to spec c area first k
      → ValidTo spec g c (first + k)
      → AxisVolumePost spec g c a (Some v)
  along-good a area first count k v p q r s e all =
      ((λ ray h. all ray (omega arith)), volume-end spec g c a area first count k v p q r s e)

  -- ---- the axes one after the other
  pub before-x : (n : ℕ) → n ≡ offset g (world_axis 0) → ValidTo spec g c n
  unfolding offset by_digit
  before-x n e ray h = absurd (omega (arith, e))

  pub before-y : ValidTo spec g c (offset g (world_axis 0) + rays_along g (world_axis 0)) → ValidTo spec g c (offset g (world_axis 1))
  unfolding offset by_digit
  before-y all ray h = all ray (omega arith)

  pub before-z : ValidTo spec g c (offset g (world_axis 1) + rays_along g (world_axis 1)) → ValidTo spec g c (offset g (world_axis 2))
  unfolding offset by_digit
  before-z all = all

  pub after-z : ValidTo spec g c (offset g (world_axis 2) + rays_along g (world_axis 2)) → ValidTo spec g c (ray_count g)
  unfolding offset rays_along ray_count by_digit
  after-z all ray h = all ray (omega arith)
