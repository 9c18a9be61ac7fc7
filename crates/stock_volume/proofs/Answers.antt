-- What the volume answers, by its causes.
use mathlib.Core.Path.{◌≡◌, refl, sym, ap, ◌∙◌, subst}
use mathlib.Core.Bool.{Bool, true, false}
use mathlib.Core.List.{List}
use mathlib.Core.Logic.{inl, inr}
use Prim.Native.Nat.{ℕ, ◌*◌}
use lib.Ieee.{Float}
use Rattle.refusal.specs.Refusal.{Due, NoneDue, number_of}
use Rattle.logic.proofs.Bools.{clash}
use Rattle.grid.specs.Axes.{world_axis}
use Rattle.grid.specs.FromSpec.{grid_of}
use Rattle.grid.specs.Rays.{ray_count}
use Rattle.grid.specs.Causes.{grid_causes, grid_in}
use Rattle.grid.specs.declared.DexelStockSpec.{DexelStockSpec}
use Rattle.grid.specs.declared.DexelGrid.{DexelGrid}
use Rattle.std.specs.Prelude.{Result, Ok, Err, Some}
use Rattle.refusal.specs.declared.Refusal.{Refusal}
use Rattle.refusal.specs.declared.Refusal.TheVariants.{ShortBuffer, Unsound}
use Rattle.stock.specs.Stock.{SoundCells, is_short}
use Rattle.stock.proofs.Causes.{due-first, due-second, none-in-both}
use Rattle.stock.proofs.Answers.{accepted, refused}
use Rattle.stock_volume.specs.Volume.{volume_along, box_volume, bounds_by, store_causes, volume_causes, VolumePost}
use Rattle.stock_volume.specs.declared.AxisVolume.{AxisVolume}
use Rattle.stock_volume.specs.declared.DexelVolume.{DexelVolume}
use Rattle.stock_volume.proofs.Lengths.{after-z}
use Rattle.logic.specs.Logic.{Decides}
use Rattle.stock_volume.specs.Steps.{AxisVolumePost, VolumeRaysPost}
use Rattle.store.specs.Store.{Cells, ChainsSound}

module _ (spec : DexelStockSpec) (g : DexelGrid) (c : Cells) (intervals : ℕ) where
  pub measure-short : (r : Bool) → r ≡ is_short spec g c → r ≡ true
      → VolumePost (store_causes spec g c intervals) spec g c intervals (Err ShortBuffer)
  unfolding Due
  measure-short r e t = inl (sym e ∙ t, refl)

  pub measure-bad : (r s : Bool) → r ≡ is_short spec g c → r ≡ false
      → Decides (ChainsSound spec.max_intervals (2 * ray_count g) intervals c) s → s ≡ false
      → VolumePost (store_causes spec g c intervals) spec g c intervals (Err Unsound)
  unfolding Due
  measure-bad r s e f t h = inr ((λ u. clash (is_short spec g c) u (sym e ∙ f)), inl ((λ p. clash s (t.1 p.store) h), refl))

  pub measure-done : (r s : Bool) → r ≡ is_short spec g c → r ≡ false
      → Decides (ChainsSound spec.max_intervals (2 * ray_count g) intervals c) s → s ≡ true
      → (m : Result DexelVolume Refusal) → VolumeRaysPost spec g c m → VolumePost (store_causes spec g c intervals) spec g c intervals m
  unfolding Due NoneDue
  measure-done r s e f t h (Err k) m = inr ((λ u. clash (is_short spec g c) u (sym e ∙ f)), inl ((λ p. m.1 p.valid), m.0))
  measure-done r s e f t h (Ok w) m =
      let is_sound : SoundCells spec g c intervals = record { store = t.0 h; valid = m.0 } in (
        ((λ u. clash (is_short spec g c) u (sym e ∙ f)), ((λ (no-sound : SoundCells spec g c intervals → ⊥). no-sound is_sound), tt)),
        is_sound,
        m.1,
      )

-- ---- the rays of a store
module _ (spec : DexelStockSpec) (g : DexelGrid) (c : Cells) where
  pub axes-good : (total : Float) (x y z : AxisVolume) (w : DexelVolume)
      → w ≡ bounds_by total x y z → total ≡ box_volume spec
      → AxisVolumePost spec g c (world_axis 0) (Some x) → AxisVolumePost spec g c (world_axis 1) (Some y)
      → AxisVolumePost spec g c (world_axis 2) (Some z) → VolumeRaysPost spec g c (Ok w)
  axes-good total x y z w d p tx ty tz = (
    after-z spec g c tz.0,
    d ∙ ap (λ (t : Float). bounds_by t x y z) p
        ∙ ap (λ (v : AxisVolume). bounds_by (box_volume spec) v y z) tx.1
        ∙ ap (λ (v : AxisVolume). bounds_by (box_volume spec) (volume_along spec g c (world_axis 0)) v z) ty.1
        ∙ ap (λ (v : AxisVolume). bounds_by (box_volume spec) (volume_along spec g c (world_axis 0))
        (volume_along spec g c (world_axis 1)) v) tz.1,
  )

module _ (spec : DexelStockSpec) (units : List ℕ) (c : Cells) (intervals : ℕ) where
  pub volume-accepted : (g : DexelGrid) (r : Result DexelVolume Refusal) → grid_of spec units ≡ Ok g
      → VolumePost (store_causes spec g c intervals) spec g c intervals r
      → VolumePost (volume_causes spec units c intervals) spec (grid_in spec) c intervals r
  volume-accepted g r h f =
      let a = accepted spec units g h in
      at r a.0 (subst (λ (x : DexelGrid). VolumePost (store_causes spec x c intervals) spec x c intervals r) a.1 f)
    where
      at : (r : Result DexelVolume Refusal) → NoneDue (grid_causes spec units)
          → VolumePost (store_causes spec (grid_in spec) c intervals) spec (grid_in spec) c intervals r
          → VolumePost (volume_causes spec units c intervals) spec (grid_in spec) c intervals r
      at (Err e) n f = due-second (grid_causes spec units) (store_causes spec (grid_in spec) c intervals) (number_of e) n f
      at (Ok w) n f = (none-in-both (grid_causes spec units) (store_causes spec (grid_in spec) c intervals) n f.0, f.1, f.2)

  pub volume-refused : (e : Refusal) → grid_of spec units ≡ Err e
      → VolumePost (volume_causes spec units c intervals) spec (grid_in spec) c intervals (Err e)
  volume-refused e h =
      due-first (grid_causes spec units) (store_causes spec (grid_in spec) c intervals) (number_of e) (refused spec units e h)
