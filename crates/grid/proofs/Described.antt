-- The tests of a description, and document 01's clauses for them: each test fails exactly where its clause holds. Assumes nothing.
use mathlib.Core.Path.{◌≡◌, refl, sym, ap, ◌∙◌, subst}
use mathlib.Core.Logic.{⊎_elim}
use mathlib.Core.Bool.{Bool, true, false, ◌&&◌, ◌||◌, true≢false}
use mathlib.Core.List.{List, [], ◌∷◌}
use Prim.Native.Nat.{ℕ, zero, suc, ◌≤◌}
use native.Mathlib.Omega.{arith}
use borrow.Author.Tests.{ltb-true, ltb-false, eqb-true, eqb-false}
use lib.Dec.{eqb}
use lib.ListN.{length}
use lib.Ieee.{Float, nan, inf, fin, of_bits, neg, lt, le, eq}
use lib.Ieee.Scale.{finite}
use Rattle.doubles.specs.Constants.{million, millionth}
use Rattle.doubles.specs.Ranges.{OutOf}
use Rattle.doubles.specs.Doubles.{abs_of}
use Rattle.logic.proofs.Bools.{or_cases, or-neither, not-true, not-false, and-true}
use Rattle.doubles.proofs.Order.{fin-number, le-neg, side→le}
use Rattle.doubles.proofs.Ranges.{finite_number, out_of, not-out}
use Rattle.grid.specs.Axes.{by_digit, by_axis, world_axis, along_of}
use Rattle.grid.specs.Grid.{is_between, all_between}
use Rattle.grid.specs.FromSpec.{least_size, any_below, any_above, is_mm, extents_of, misdescribed}
use Rattle.grid.specs.Causes.{mm, Misdescribed, version_not_1, units_not_mm, min_out, max_out, size_out, no_rays}
use Rattle.grid.specs.Causes.{too_many_rays, no_intervals, thin}
use Rattle.grid.specs.Retired.{BoxFits}
use Rattle.grid.specs.declared.Vec3.{Vec3}
use Rattle.grid.specs.declared.WorldAxis.{WorldAxis}
use Rattle.grid.specs.declared.DexelStockSpec.{DexelStockSpec}

-- ---- what holds of x, y and z holds along every axis
pub each : {A : Type 0} (P : A → Type 0) (x y z : A) → P x → P y → P z → (a : WorldAxis) → P (by_axis a x y z)
unfolding by_digit
each P x y z p q r a = go a.0
  where
    go : (n : ℕ) → P (by_digit n x y z)
    go zero = p
    go (suc zero) = q
    go (suc (suc n)) = r

-- ---- tests taken apart

pub and_both : (a b : Bool) → (a && b) ≡ true → (a ≡ true) × (b ≡ true)
and_both true b h = (refl, h)
and_both false b h = absurd (true≢false (sym h))

-- a test that fails somewhere on the three axes, and one that holds on all
module _ (f : Float → Bool) (p : Vec3) where
  pub some-axis : (f p.x || (f p.y || f p.z)) ≡ true → (a : WorldAxis) × (f (along_of p a) ≡ true)
  unfolding by_digit
  some-axis h = go (f p.x) (f p.y) refl refl h
    where
      go : (u v : Bool) → f p.x ≡ u → f p.y ≡ v → (u || (v || f p.z)) ≡ true → (a : WorldAxis) × (f (along_of p a) ≡ true)
      go true v x y k = (world_axis 0, x)
      go false true x y k = (world_axis 1, y)
      go false false x y k = (world_axis 2, k)

  pub no-axis : (f p.x || (f p.y || f p.z)) ≡ false → (a : WorldAxis) → f (along_of p a) ≡ false
  no-axis h =
      let x = or-neither _ _ h in
      let y = or-neither _ _ x.1 in
      each (λ v. f v ≡ false) p.x p.y p.z x.0 y.0 y.1

pub below-axis : (p : Vec3) (limit : Float) → any_below p limit ≡ true → (a : WorldAxis) × (lt (along_of p a) limit ≡ true)
unfolding any_below
below-axis p limit = some-axis (λ x. lt x limit) p

pub not-below : (p : Vec3) (limit : Float) → any_below p limit ≡ false → (a : WorldAxis) → lt (along_of p a) limit ≡ false
unfolding any_below
not-below p limit = no-axis (λ x. lt x limit) p

pub above-axis : (p : Vec3) (limit : Float) → any_above p limit ≡ true → (a : WorldAxis) × (lt limit (along_of p a) ≡ true)
unfolding any_above
above-axis p limit = some-axis (λ x. lt limit x) p

pub not-above : (p : Vec3) (limit : Float) → any_above p limit ≡ false → (a : WorldAxis) → lt limit (along_of p a) ≡ false
unfolding any_above
not-above p limit = no-axis (λ x. lt limit x) p

-- ---- within bounds

-- the Rust's own test of a bound: finite, and at most 1e6 in size
pub bound-test : (x : Float) → (finite x && le (abs_of x) million) ≡ is_between x (neg million) million
unfolding is_between abs_of of_bits neg
bound-test nan = unfold le lt eq in refl
bound-test (inf true) = unfold le lt eq in refl
bound-test (inf false) = unfold le lt eq in refl
bound-test (fin false m e) = sym
    (ap (λ (b : Bool). b && le (fin false m e) million)
    (side→le (neg million) (fin false m e) (finite_number (neg million) refl) (fin-number false m e) (omega arith)))
bound-test (fin true m e) =
    sym (le-neg million (fin false m e)) ∙ sym (and-true (le (neg million) (fin true m e)))
    ∙ ap (λ (b : Bool). le (neg million) (fin true m e) && b)
    (sym (side→le (fin true m e) million (fin-number true m e) (finite_number million refl) (omega arith)))

-- ---- the units

mm-list : (units : List ℕ) → is_mm units ≡ true → units ≡ mm
unfolding is_mm
mm-list [] h = absurd (true≢false (sym h))
mm-list (x ∷ []) h = absurd (true≢false (sym h))
mm-list (x ∷ y ∷ []) h =
    let k = and_both (eqb x 109) (eqb y 109) h in
    let p = eqb-true x 109 k.0 in
    let q = eqb-true y 109 k.1 in
    rw (p, q)
mm-list (x ∷ y ∷ z ∷ l) h = absurd
    (none (eqb-true (length (x ∷ y ∷ z ∷ l)) 2 (and_both (eqb (length (x ∷ y ∷ z ∷ l)) 2) (eqb x 109 && eqb y 109) h).0))
  where
    none : suc (suc (suc (length l))) ≡ 2 → ⊥
    none e = omega arith

pub not-mm : (units : List ℕ) → is_mm units ≡ false → units ≡ mm → ⊥
unfolding is_mm
not-mm units h e = true≢false (subst (λ (l : List ℕ). true ≡ is_mm l) (sym e) refl ∙ h)

-- ---- a description

out-axis : (p : Vec3) (lo hi : Float) → all_between p lo hi ≡ false → (a : WorldAxis) × OutOf lo hi (along_of p a)
unfolding all_between is_between by_digit
out-axis p lo hi h = go (is_between p.x lo hi) (is_between p.y lo hi) refl refl h
  where
    go : (u v : Bool) → is_between p.x lo hi ≡ u → is_between p.y lo hi ≡ v
        → (u && (v && is_between p.z lo hi)) ≡ false → (a : WorldAxis) × OutOf lo hi (along_of p a)
    go false v x y k = (world_axis 0, out_of lo hi p.x x)
    go true false x y k = (world_axis 1, out_of lo hi p.y y)
    go true true x y k = (world_axis 2, out_of lo hi p.z k)

pub within-axis : (p : Vec3) (lo hi : Float) → all_between p lo hi ≡ true → (a : WorldAxis) → is_between (along_of p a) lo hi ≡ true
unfolding all_between
within-axis p lo hi h =
    let x = and_both _ _ h in
    let y = and_both _ _ x.1 in
    each (λ v. is_between v lo hi ≡ true) p.x p.y p.z x.0 y.0 y.1

-- the eight tests of a description that passes them
pub record Passes (s : DexelStockSpec) (sizes : Vec3) : Type 0 where
  pub version : s.version ≡ 1
  pub box : BoxFits s sizes
  pub some_rays : s.max_rays ≡ 0 → ⊥
  pub few_rays : s.max_rays ≤ 4294967295
  pub some_intervals : s.max_intervals ≡ 0 → ⊥

module _ (s : DexelStockSpec) (sizes : Vec3) where
  pub passes : misdescribed s sizes (extents_of s) ≡ false → Passes s sizes
  unfolding misdescribed
  passes h =
      let b1 = or-neither _ _ h in
      let b2 = or-neither _ _ b1.1 in
      let b3 = or-neither _ _ b2.1 in
      let b4 = or-neither _ _ b3.1 in
      let b5 = or-neither _ _ b4.1 in
      let b6 = or-neither _ _ b5.1 in
      let b7 = or-neither _ _ b6.1 in
      record {
        version = eqb-true _ _ (not-false _ b1.0);
        box = record {
          min = within-axis s.min_mm (neg million) million (not-false _ b2.0);
          max = within-axis s.max_mm (neg million) million (not-false _ b3.0);
          size = within-axis sizes least_size million (not-false _ b4.0);
          thick = not-below (extents_of s) millionth b7.1;
        };
        some_rays = eqb-false _ _ b5.0;
        few_rays = ltb-false _ _ b6.0;
        some_intervals = eqb-false _ _ b7.0;
      }

  pub no-clause : (units : List ℕ) → is_mm units ≡ true → Passes s sizes → Misdescribed s sizes units → ⊥
  unfolding is_between
  no-clause units m p (version_not_1 h) = h p.version
  no-clause units m p (units_not_mm h) = h (mm-list units m)
  no-clause units m p (min_out a h) = not-out (neg million) million (along_of s.min_mm a) (p.box.min a) h
  no-clause units m p (max_out a h) = not-out (neg million) million (along_of s.max_mm a) (p.box.max a) h
  no-clause units m p (size_out a h) = not-out least_size million (along_of sizes a) (p.box.size a) h
  no-clause units m p (no_rays h) = p.some_rays h
  no-clause units m p (too_many_rays h) = let l = p.few_rays in omega arith
  no-clause units m p (no_intervals h) = p.some_intervals h
  no-clause units m p (thin a h) = true≢false (sym h ∙ p.box.thick a)

  pub clause : (units : List ℕ) → misdescribed s sizes (extents_of s) ≡ true → Misdescribed s sizes units
  unfolding misdescribed
  clause units h =
      ⊎_elim (λ t. version_not_1 (eqb-false _ _ (not-true _ t)))
      (λ k. ⊎_elim (λ t. let o = out-axis s.min_mm (neg million) million (not-true _ t)
      in min_out o.0 o.1)
      (λ k. ⊎_elim (λ t. let o = out-axis s.max_mm (neg million) million (not-true _ t)
      in max_out o.0 o.1)
      (λ k. ⊎_elim (λ t. let o = out-axis sizes least_size million (not-true _ t) in size_out o.0 o.1)
      (λ k. ⊎_elim (λ t. no_rays (eqb-true _ _ t))
      (λ k. ⊎_elim (λ t. too_many_rays (ltb-true _ _ t))
      (λ k. ⊎_elim (λ t. no_intervals (eqb-true _ _ t))
      (λ t. let o = below-axis (extents_of s) millionth t in thin o.0 o.1)
      (or_cases _ _ k)) (or_cases _ _ k)) (or_cases _ _ k)) (or_cases _ _ k)) (or_cases _ _ k)) (or_cases _ _ k)) (or_cases _ _ h)

  -- where 1 has no cause every test passes
  pub no-clause-passes : (units : List ℕ) → (Misdescribed s sizes units → ⊥) → Passes s sizes
  no-clause-passes units n = go (misdescribed s sizes (extents_of s)) refl
    where
      go : (b : Bool) → misdescribed s sizes (extents_of s) ≡ b → Passes s sizes
      go true e = absurd (n (clause units e))
      go false e = passes e
