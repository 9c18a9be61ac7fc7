-- A test of the first n: one more that passes, and one that fails. With it the test of all chords.
use mathlib.Core.Path.{◌≡◌, refl, sym, ap, subst, ◌∙◌}
use mathlib.Core.Bool.{Bool, true, false, not, ◌&&◌, true≢false}
use mathlib.Core.List.{List}
use Prim.Native.Nat.{ℕ, zero, suc, ◌+◌, ◌/◌, ◌≤◌, ◌<◌}
use native.Mathlib.Numerals.{add-one}
use native.Mathlib.Omega.{arith}
use lib.Dec.{ltb}
use lib.Ieee.{Float}
use lib.ListN.{length}
use borrow.Author.Tests.{ltb-true, ltb-false}
use Rattle.logic.proofs.Bools.{both, and-false}
use Rattle.frame.specs.declared.Frame.{Frame}
use Rattle.sweep_model.specs.ChordLimits.{BadChords}
use Rattle.sweep_model.specs.Steps.{guard_fits, chord_fits, every, chords_fit}
use Rattle.sweep_model.proofs.ChordLimits.{unfit-chords, fit-chords}
use Rattle.logic.specs.Logic.{Decides}

module _ (test : ℕ → Bool) where
  pub every-none : every test 0 ≡ true
  unfolding every
  every-none = refl

  pub every_more : (n : ℕ) (r : Bool) → every test n ≡ true → r ≡ test n → r ≡ true → every test (n + 1) ≡ true
  unfolding every
  every_more n r h e t = ap (every test) (add-one n) ∙ both (every test n) (test n) h (sym e ∙ t)

  pub not-every : (i n : ℕ) (r : Bool) → i < n → r ≡ test i → r ≡ false → every test n ≡ false
  unfolding every
  not-every i zero r l e t = absurd (none l)
    where
      none : i < 0 → ⊥
      none l = omega arith
  not-every i (suc n) r l e t = go (ltb i n) (ltb-true i n) (ltb-false i n) (λ k. not-every i n r k e t)
    where
      go : (b : Bool) → (b ≡ true → i < n) → (b ≡ false → n ≤ i) → (i < n → every test n ≡ false) → (every test n && test n) ≡ false
      go true p q h = ap (λ (b : Bool). b && test n) (h (p refl))
      go false p q h =
          let g = q refl in
          let f : i ≡ n = omega arith in
          and-false (every test n) (test n) (subst (λ (k : ℕ). test k ≡ false) f (sym e ∙ t))

-- ---- all chords
module _ (f : Frame) (guard : Float) (chords : List Float) where
  -- a test of all chords, as an answer by document 01's clauses
  answered : (r : Bool) → r ≡ chords_fit f guard chords → Decides (BadChords f guard chords) (not r)
  answered true e = ((λ h. absurd (true≢false (sym h))), (λ b. absurd (fit-chords f guard chords (sym e) b)))
  answered false e = ((λ h. unfit-chords f guard chords (sym e)), (λ b. refl))

  pub guard-unfit : (r : Bool) → r ≡ guard_fits guard → r ≡ false → Decides (BadChords f guard chords) true
  unfolding chords_fit
  guard-unfit r e t = answered false
      (sym (ap (λ (b : Bool). b && every (chord_fits f chords) (length chords / 8)) (sym e ∙ t)))

  pub chord-unfit : (i : ℕ) (r : Bool) → i < length chords / 8 → r ≡ chord_fits f chords i → r ≡ false
      → Decides (BadChords f guard chords) true
  unfolding chords_fit
  chord-unfit i r l e t = answered false (sym (and-false (guard_fits guard) (every (chord_fits f chords) (length chords / 8))
      (not-every (chord_fits f chords) i (length chords / 8) r l e t)))

  pub all_fit : (i : ℕ) (r : Bool) → i ≡ length chords / 8 → r ≡ guard_fits guard → r ≡ true
      → every (chord_fits f chords) i ≡ true → Decides (BadChords f guard chords) false
  unfolding chords_fit
  all_fit i r n e t h = answered true (sym (both (guard_fits guard) (every (chord_fits f chords) (length chords / 8))
      (sym e ∙ t) (ap (every (chord_fits f chords)) (sym n) ∙ h)))
