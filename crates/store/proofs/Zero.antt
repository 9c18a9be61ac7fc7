-- Plus zero by its bits.
use mathlib.Core.Path.{◌≡◌, refl, sym, ap, ◌∙◌}
use mathlib.Core.Bool.{Bool, true, false}
use Prim.Native.Nat.{ℕ, zero, suc}
use native.Mathlib.Omega.{arith}
use lib.Dec.{T, eqb}
use lib.IntN.{pos, negsuc}
use lib.Ieee.{Float, nan, inf, fin, binary64, fits, to_bits, of_bits, is_nan}
use lib.Ieee.Bits.{of_bits-to_bits}
use borrow.Author.Tests.{eq-eqb, ne_eqb}
use Rattle.store.specs.Store.{is_plus_zero}

pub plus-is : (x : Float) → is_plus_zero x ≡ true → x ≡ fin false 0 (pos 0)
plus-is nan h = absurd (let z : ◌≡◌ {A = ℕ} 0 1 = cc in omega arith)
plus-is (inf s) h = absurd (let z : ◌≡◌ {A = ℕ} 0 1 = cc in omega arith)
plus-is (fin s (suc m) e) h = absurd (let z : ◌≡◌ {A = ℕ} 0 1 = cc in omega arith)
plus-is (fin s zero (negsuc e)) h = absurd (let z : ◌≡◌ {A = ℕ} 0 1 = cc in omega arith)
plus-is (fin s zero (pos (suc e))) h = absurd (let z : ◌≡◌ {A = ℕ} 0 1 = cc in omega arith)
plus-is (fin false zero (pos zero)) h = refl
plus-is (fin true zero (pos zero)) h = absurd (let z : ◌≡◌ {A = ℕ} 0 1 = cc in omega arith)

zero_bits : to_bits binary64 (fin false 0 (pos 0)) ≡ 0
unfolding to_bits
zero_bits = refl

pub bits-zero : of_bits binary64 0 ≡ fin false 0 (pos 0)
unfolding of_bits
bits-zero = refl

pub plus-bits : (x : Float) → T (fits binary64 x) → eqb (to_bits binary64 x) 0 ≡ is_plus_zero x
plus-bits x f = at (is_plus_zero x) refl
  where
    at : (t : Bool) → is_plus_zero x ≡ t → eqb (to_bits binary64 x) 0 ≡ is_plus_zero x
    at true h = eq-eqb (to_bits binary64 x) 0 (ap (to_bits binary64) (plus-is x h) ∙ zero_bits) ∙ sym h
    at false h = ne_eqb (to_bits binary64 x) 0 (λ (e : to_bits binary64 x ≡ 0).
        let same : x ≡ fin false 0 (pos 0) = sym (of_bits-to_bits binary64 x f) ∙ ap (of_bits binary64) e ∙ bits-zero in
        let yes' : is_plus_zero x ≡ true = ap is_plus_zero same in
        let z : ◌≡◌ {A = ℕ} 0 1 = cc in omega arith) ∙ sym h

pub plus-nan : (x : Float) → is_nan x ≡ true → false ≡ is_plus_zero x
unfolding is_nan
plus-nan nan h = refl
plus-nan (inf s) h = absurd (let z : ◌≡◌ {A = ℕ} 0 1 = cc in omega arith)
plus-nan (fin s m e) h = absurd (let z : ◌≡◌ {A = ℕ} 0 1 = cc in omega arith)
