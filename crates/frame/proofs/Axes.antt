-- The frame turns a world axis into a local one and back with no loss.
use mathlib.Core.Path.{◌≡◌, refl, ap}
use mathlib.Core.Bool.{Bool, true, false, cond}
use mathlib.Core.Logic.{◌⊎◌, inl, inr}
use Prim.Native.Nat.{ℕ, ◌+◌, ◌-◌, ◌%◌, ◌≤◌, ◌<◌}
use borrow.Author.Tests.{ltb-true, ltb-false}
use native.Mathlib.Omega.{arith}
use lib.Dec.{ltb}
use Rattle.grid.specs.declared.WorldAxis.{WorldAxis}
use Rattle.frame.specs.declared.LocalAxis.{LocalAxis}
use Rattle.frame.specs.declared.Frame.{Frame}
use Rattle.frame.specs.Frame.{axis_digit, world_axis_of, local_axis_of}

digit-cases : (n : ℕ) → ((n < 2) × (axis_digit n ≡ n)) ⊎ ((2 ≤ n) × (axis_digit n ≡ 2))
unfolding axis_digit
digit-cases n = go (ltb n 2) (ltb-true n 2) (ltb-false n 2)
  where
    go : (b : Bool) → (b ≡ true → n < 2) → (b ≡ false → 2 ≤ n) → ((n < 2) × (cond b n 2 ≡ n)) ⊎ ((2 ≤ n) × (cond b n 2 ≡ 2))
    go true p q = inl (p refl, refl)
    go false p q = inr (q refl, refl)

pub digit-most : (n : ℕ) → axis_digit n ≤ 2
digit-most n = elim (digit-cases n) [ inl h ↦ omega arith | inr h ↦ omega arith ]

digit-same : (n : ℕ) → n ≤ 2 → axis_digit n ≡ n
digit-same n l = elim (digit-cases n) [ inl h ↦ h.1 | inr h ↦ omega arith ]

world-digit : (f : Frame) (i : LocalAxis) → (world_axis_of f i).0 ≡ (axis_digit f.first.0 + axis_digit i.0) % 3
unfolding world_axis_of
world-digit f i = refl

local-digit : (f : Frame) (a : WorldAxis) → (local_axis_of f a).0 ≡ (axis_digit a.0 + 3 - axis_digit f.first.0) % 3
unfolding local_axis_of
local-digit f a = refl

there : (f : Frame) (i : LocalAxis) → i.0 ≤ 2 → (local_axis_of f (world_axis_of f i)).0 ≡ i.0
there f i h =
    let w = world-digit f i in
    let l = local-digit f (world_axis_of f i) in
    let d = digit-most f.first.0 in
    let k = digit-same i.0 h in
    let e = digit-same (world_axis_of f i).0 (omega arith) in
    omega arith

back : (f : Frame) (a : WorldAxis) → a.0 ≤ 2 → (world_axis_of f (local_axis_of f a)).0 ≡ a.0
back f a h =
    let l = local-digit f a in
    let w = world-digit f (local_axis_of f a) in
    let d = digit-most f.first.0 in
    let k = digit-same a.0 h in
    let e = digit-same (local_axis_of f a).0 (omega arith) in
    omega arith

pub local-of-world : (f : Frame) (i : LocalAxis) → i.0 ≤ 2 → local_axis_of f (world_axis_of f i) ≡ i
local-of-world f i h = ap (λ (n : ℕ). record { 0 = n }) (there f i h)

pub world-of-local : (f : Frame) (a : WorldAxis) → a.0 ≤ 2 → world_axis_of f (local_axis_of f a) ≡ a
world-of-local f a h = ap (λ (n : ℕ). record { 0 = n }) (back f a h)
