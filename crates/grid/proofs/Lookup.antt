-- The cell that a coordinate falls in is one of the grid's. Assumes nothing.
use mathlib.Core.Path.{◌≡◌, refl, sym, ◌∙◌}
use mathlib.Core.Bool.{Bool, true, false, cond, true≢false}
use Prim.Native.Nat.{ℕ, suc, ◌-◌, ◌*◌, ◌/◌, ◌^◌, ◌≤◌, ◌<◌}
use native.Mathlib.Nat.{div-lt_iff_lt-mul}
use native.Mathlib.Omega.{arith}
use lib.Ieee.{Float, nan, inf, fin, up, down, binary64, of_bits, to_unsigned, sub, div, lt}
use lib.Ieee.Fits.{down_pos}
use Rattle.doubles.specs.Doubles.{clamp_of, floor_of}
use Rattle.doubles.proofs.Order.{not-lt→le, fin-number, le-number}
use Rattle.grid.specs.Axes.{along_of, cells_along, step_along}
use Rattle.grid.specs.Grid.{whole}
use Rattle.grid.specs.Rays.{cell_at}
use Rattle.grid.specs.declared.WorldAxis.{WorldAxis}
use Rattle.grid.specs.declared.DexelStockSpec.{DexelStockSpec}
use Rattle.grid.specs.declared.DexelGrid.{DexelGrid}
use Rattle.grid.proofs.Counts.{value, le-wholes, count_of, above-inf}
use Rattle.grid.proofs.Extents.{at_most}
use Rattle.grid.proofs.Described.{each}
use Rattle.grid.proofs.Facts.{cells-positive}
use Rattle.grid.specs.Facts.{GridFacts}

-- what is not above n is cut to at most n
cut-le : (y : Float) (n : ℕ) → n ≤ 2 ^ 53 → lt (whole n) y ≡ false → to_unsigned 64 y ≤ n
unfolding to_unsigned
cut-le nan n small h = omega arith
cut-le (inf true) n small h = omega arith
cut-le (inf false) n small h = absurd (true≢false (sym (above-inf n small) ∙ h))
cut-le (fin true m e) n small h = omega arith
cut-le (fin false m e) n small h =
    let p = (le-number (whole n) (whole n) (le-wholes n n (omega arith))).0 in
    let l : m * up e ≤ n * down e =
    at_most (whole n) n m e (value n small) (not-lt→le (whole n) (fin false m e) p (fin-number false m e) h) in
    let d = down_pos e in
    let q : m * up e / down e < suc n = (div-lt_iff_lt-mul d).1 (omega arith) in
    omega arith

clamp-le : (y : Float) (n : ℕ) → n ≤ 2 ^ 53 → to_unsigned 64 (clamp_of y (of_bits binary64 0) (whole n)) ≤ n
unfolding clamp_of
clamp-le y n small = go (lt y (of_bits binary64 0)) (lt (whole n) y) refl
  where
    zero-cut : to_unsigned 64 (of_bits binary64 0) ≡ 0
    zero-cut = unfold to_unsigned of_bits in refl

    go : (a b : Bool) → lt (whole n) y ≡ b → to_unsigned 64 (cond a (of_bits binary64 0) (cond b (whole n) y)) ≤ n
    go true b h = rw zero-cut (omega arith)
    go false true h = rw (count_of (whole n) n (value n small)) (omega arith)
    go false false h = cut-le y n small h

pub cell_below : (s : DexelStockSpec) (g : DexelGrid) → GridFacts s g → (a : WorldAxis) (x : Float) → cell_at s g a x < cells_along g a
unfolding cell_at
cell_below s g f a x =
    let p = cells-positive s g f a in
    let l = each (λ (n : ℕ). n ≤ s.max_rays) _ _ _ f.few0 f.few1 f.few2 a in
    let c = f.ceiling in
    let k = clamp-le (floor_of (div binary64 (sub binary64 x (along_of s.min_mm a)) (step_along g a)))
    (cells_along g a - 1) (omega arith) in
    omega arith
