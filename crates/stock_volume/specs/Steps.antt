-- What the steps of `volume` leave.
use Rattle.std.specs.Prelude.{◌≡◌, ℕ, ◌+◌, Float, Option, Some, None, Result, Ok, Err}
use Rattle.grid.specs.Rays.{ray_count, rays_along, offset}
use Rattle.grid.specs.declared.WorldAxis.{WorldAxis}
use Rattle.grid.specs.declared.DexelStockSpec.{DexelStockSpec}
use Rattle.grid.specs.declared.DexelGrid.{DexelGrid}
use Rattle.stock.specs.Stock.{ValidAt, ValidTo}
use Rattle.stock_volume.specs.declared.AxisVolume.{AxisVolume}
use Rattle.stock_volume.specs.declared.DexelVolume.{DexelVolume}
use Rattle.refusal.specs.Refusal.{number_of}
use Rattle.refusal.specs.declared.Refusal.{Refusal}
use Rattle.stock_volume.specs.Volume.{add_ray, volume_along, volume_of}
use Rattle.store.specs.Store.{Cells}

-- of one ray more, where it is valid: the sums with it
abbrev pub AddVolumePost : DexelStockSpec → DexelGrid → Cells → (area : Float) → (ray : ℕ) → AxisVolume → Option AxisVolume
    → Type 0
AddVolumePost spec g c area ray v (Some w) = ValidAt spec g c ray × (w ≡ add_ray spec c area ray v)
AddVolumePost spec g c area ray v None = ValidAt spec g c ray → ⊥

-- of all rays along an axis, where those before are valid: the sums where they are valid too, and none only
-- where a ray of the store is not
abbrev pub AxisVolumePost : DexelStockSpec → DexelGrid → Cells → WorldAxis → Option AxisVolume → Type 0
AxisVolumePost spec g c a (Some v) = ValidTo spec g c (offset g a + rays_along g a) × (v ≡ volume_along spec g c a)
AxisVolumePost spec g c a None = ValidTo spec g c (ray_count g) → ⊥

-- of a store that is sound but for the validity of its rays: 11 where a ray is not valid, and the volume otherwise
abbrev pub VolumeRaysPost : DexelStockSpec → DexelGrid → Cells → Result DexelVolume Refusal → Type 0
VolumeRaysPost spec g c (Err e) = (number_of e ≡ 11) × (ValidTo spec g c (ray_count g) → ⊥)
VolumeRaysPost spec g c (Ok w) = ValidTo spec g c (ray_count g) × (w ≡ volume_of spec g c)
