-- How the rays of a grid are numbered: the three axes' rays make up all rays, and a ray's number and its axis and
-- index give each other. Assumes nothing.
use mathlib.Core.Path.{◌≡◌, refl, ap, ◌∙◌}
use mathlib.Core.Bool.{Bool, true, false, cond}
use Prim.Native.Nat.{ℕ, zero, suc, ◌+◌, ◌%◌, ◌≤◌, ◌<◌}
use native.Mathlib.Omega.{arith}
use lib.Dec.{ltb}
use borrow.Author.Tests.{ltb-true, ltb-false, lt-ltb, le-ltb}
use Rattle.grid.specs.Axes.{by_digit, world_axis, cross_of}
use Rattle.grid.specs.Rays.{ray_count, rays_along, offset, ray_number, ray_axis}
use Rattle.grid.specs.declared.WorldAxis.{WorldAxis}
use Rattle.grid.specs.declared.DexelGrid.{DexelGrid}
use Rattle.grid.specs.Centers.{ray_index}

-- ---- the rays along each axis, together all rays

pub total-is : (g : DexelGrid) → rays_along g (world_axis 0) + rays_along g (world_axis 1) + rays_along g (world_axis 2) ≡ ray_count g
unfolding rays_along ray_count by_digit
total-is g = omega arith

-- the rays along an axis end where those along the next begin, and the last where all end
pub offset-le : (g : DexelGrid) (a : WorldAxis) → offset g a + rays_along g a ≤ ray_count g
unfolding offset rays_along ray_count by_digit
offset-le g a = go a.0
  where
    go : (n : ℕ) → offset g (world_axis n) + rays_along g (world_axis n) ≤ ray_count g
    go zero = omega arith
    go (suc zero) = omega arith
    go (suc (suc n)) = omega arith

pub along-le : (g : DexelGrid) (a : WorldAxis) → rays_along g a ≤ ray_count g
along-le g a = omega (arith, offset-le g a)

-- ---- from a number to the axis and the index, and back

-- a ray's number is no less than the offset of its axis
pub before-le : (g : DexelGrid) (ray : ℕ) → offset g (ray_axis g ray) ≤ ray
unfolding ray_axis offset by_digit
before-le g ray = go (ltb ray o1) (ltb ray o2) (ltb-false ray o1) (ltb-false ray o2)
  where
    o1 : ℕ
    o1 = offset g (world_axis 1)

    o2 : ℕ
    o2 = offset g (world_axis 2)

    go : (x y : Bool) → (x ≡ false → o1 ≤ ray) → (y ≡ false → o2 ≤ ray)
        → offset g (cond x (world_axis 0) (cond y (world_axis 1) (world_axis 2))) ≤ ray
    go true y h k = omega arith
    go false true h k = h refl
    go false false h k = k refl

-- an axis and an index on it give a number below the count of all rays
pub number_lt : (g : DexelGrid) (a : WorldAxis) (index : ℕ) → index < rays_along g a → ray_number g a index < ray_count g
unfolding ray_number
number_lt g a index h = omega (arith, offset-le g a)

-- every number is that of its axis and its index
pub number_of : (g : DexelGrid) (ray : ℕ) → ray_number g (ray_axis g ray) (ray_index g ray) ≡ ray
unfolding ray_number ray_index
number_of g ray = omega (arith, before-le g ray)

-- where a ray stands against the offsets decides its axis
axis-by : (g : DexelGrid) (ray : ℕ) (x y : Bool) → ltb ray (offset g (world_axis 1)) ≡ x
    → ltb ray (offset g (world_axis 2)) ≡ y → ray_axis g ray ≡ cond x (world_axis 0) (cond y (world_axis 1) (world_axis 2))
unfolding ray_axis
axis-by g ray x y h k = rw (h, k)

-- a ray of the grid has a digit 0 to 2 for its axis, and an index below the rays along it
pub record RayOf (g : DexelGrid) (ray : ℕ) : Type 0 where
  pub digit : (ray_axis g ray).0 ≤ 2
  pub below : ray_index g ray < rays_along g (ray_axis g ray)

pub ray-of : (g : DexelGrid) (ray : ℕ) → ray < ray_count g → RayOf g ray
unfolding ray_index
ray-of g ray h = go (ltb ray (offset g (world_axis 1))) (ltb ray (offset g (world_axis 2))) refl refl
  where
    ends : (offset g (world_axis 1) ≡ rays_along g (world_axis 0))
        × (offset g (world_axis 2) ≡ rays_along g (world_axis 0) + rays_along g (world_axis 1)) × (offset g (world_axis 0) ≡ 0)
    ends = unfold offset by_digit in (refl, refl, refl)

    go : (x y : Bool) → ltb ray (offset g (world_axis 1)) ≡ x → ltb ray (offset g (world_axis 2)) ≡ y → RayOf g ray
    go true y p q =
        let e : ray_axis g ray ≡ world_axis 0 = axis-by g ray true y p q in
        record { digit = rw e (omega arith); below = rw e (omega (arith, ltb-true ray (offset g (world_axis 1)) p, ends.0, ends.2)) }
    go false true p q =
        let e : ray_axis g ray ≡ world_axis 1 = axis-by g ray false true p q in
        record {
          digit = rw e (omega arith);
          below = rw e (omega (
            arith,
            ltb-false ray (offset g (world_axis 1)) p,
            ltb-true ray (offset g (world_axis 2)) q,
            ends.0,
            ends.1,
          ));
        }
    go false false p q =
        let e : ray_axis g ray ≡ world_axis 2 = axis-by g ray false false p q in
        record { digit = rw e (omega arith); below = rw e (omega (arith, ltb-false ray (offset g (world_axis 2)) q, total-is g, ends.1)) }

-- and from an axis and an index the number leads back to both
pub axis-of-number : (g : DexelGrid) (a : WorldAxis) (index : ℕ) → a.0 ≤ 2 → index < rays_along g a → ray_axis g (ray_number g a index) ≡ a
unfolding ray_number offset by_digit
axis-of-number g a index l h = go a.0 l h
  where
    go : (n : ℕ) → n ≤ 2 → index < rays_along g (world_axis n) → ray_axis g (ray_number g (world_axis n) index) ≡ world_axis n
    go zero l h =
        let r = ray_number g (world_axis 0) index in
        axis-by g r true (ltb r (offset g (world_axis 2))) (lt-ltb r (offset g (world_axis 1)) (omega arith)) refl
    go (suc zero) l h =
        let r = ray_number g (world_axis 1) index in
        axis-by g r false true (le-ltb r (offset g (world_axis 1)) (omega arith)) (lt-ltb r (offset g (world_axis 2)) (omega arith))
    go (suc (suc n)) l h =
        let r = ray_number g (world_axis 2) index in
        let z : 2 ≡ suc (suc n) = omega arith in
        axis-by g r false false (le-ltb r (offset g (world_axis 1)) (omega arith))
        (le-ltb r (offset g (world_axis 2)) (omega arith)) ∙ ap world_axis z

pub index-of-number : (g : DexelGrid) (a : WorldAxis) (index : ℕ) → a.0 ≤ 2 → index < rays_along g a
    → ray_index g (ray_number g a index) ≡ index
unfolding ray_index
index-of-number g a index l h = rw (axis-of-number g a index l h) (unfold ray_number in omega arith)

-- ---- the axes across a ray, as document 01's reference has them
pub cross-is : (n : ℕ) → n ≤ 2 → ((cross_of (world_axis n)).u.0 ≡ (n + 1) % 3) × ((cross_of (world_axis n)).v.0 ≡ (n + 2) % 3)
unfolding by_digit
cross-is zero l = (refl, refl)
cross-is (suc zero) l = (refl, refl)
cross-is (suc (suc zero)) l = (refl, refl)
cross-is (suc (suc (suc n))) l = absurd (none l)
  where
    none : suc (suc (suc n)) ≤ 2 → ⊥
    none k = omega arith
