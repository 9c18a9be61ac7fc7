-- The rays before those along an axis, told from the axis of an entry by comparing doubles.
use Rattle.std.proofs.Common.{◌≡◌, ℕ, zero, suc, ◌+◌, ◌<◌, ◌≤◌, Bool, true, cond, pos, refl, ap, ◌∙◌, ap₂, arith}
use lib.Ieee.{Float, binary64, le, of_bits, of_int, to_unsigned}
use Rattle.doubles.proofs.Order.{le-eq-right}
use Rattle.grid.specs.Axes.{world_axis, by_digit}
use Rattle.grid.specs.Rays.{ray_count, rays_along, offset, ray_number}
use Rattle.grid.specs.declared.DexelGrid.{DexelGrid}
use Rattle.grid.proofs.Numbering.{offset-le}
use Rattle.log_model.specs.declared.Entry.{Entry}
use Rattle.log_model.specs.Logs.{is_whole, whole_of, names_some_ray, entry_ray}
use Rattle.log_model.proofs.Naming.{named}
use Rattle.log_entries.specs.Named.{before_axis}

module _ (g : DexelGrid) where
  -- of a whole number below 3
  by_number : (k : ℕ) → k < 3 → before_axis (of_int binary64 (pos k)) (rays_along g (world_axis 0))
      (rays_along g (world_axis 1)) ≡ offset g (world_axis k)
  unfolding before_axis offset by_digit le of_bits of_int
  by_number zero h = refl
  by_number (suc zero) h = refl
  by_number (suc (suc zero)) h = refl
  by_number (suc (suc (suc k))) h = absurd (omega arith)

  before-axis : (axis : Float) → is_whole axis ≡ true → whole_of axis < 3
      → before_axis axis (rays_along g (world_axis 0)) (rays_along g (world_axis 1)) ≡ offset g (world_axis (whole_of axis))
  unfolding before_axis is_whole
  before-axis axis w h =
      let k = of_int binary64 (pos (to_unsigned 64 axis)) in
      ap₂ (λ (a b : Bool). cond a (rays_along g (world_axis 0) + rays_along g (world_axis 1)) (cond b (rays_along g (world_axis 0)) 0))
      (le-eq-right axis k (of_bits binary64 0x4000_0000_0000_0000) w) (le-eq-right axis k (of_bits binary64 0x3ff0_0000_0000_0000) w)
      ∙ by_number (whole_of axis) h

  -- the number of the ray that an entry names
  pub ray-of : (e : Entry) → names_some_ray g e ≡ true
      → before_axis e.axis (rays_along g (world_axis 0)) (rays_along g (world_axis 1)) + whole_of e.index ≡ entry_ray g e
  unfolding entry_ray ray_number
  ray-of e h = let n = named g e h in ap (λ (k : ℕ). k + whole_of e.index) (before-axis e.axis n.axis_whole n.axis_digit)

  pub both-le : rays_along g (world_axis 0) + rays_along g (world_axis 1) ≤ ray_count g
  unfolding offset by_digit
  both-le = omega (arith, offset-le g (world_axis 2))
