-- The code's tests of the guard and the chords and document 01's clauses: a test fails exactly where one of its clauses
-- holds. Assumes nothing.
use mathlib.Core.Path.{◌≡◌, refl, sym, subst}
use mathlib.Core.Logic.{◌⊎◌, inl, inr, ⊎_elim}
use mathlib.Core.Bool.{Bool, true, false, ◌&&◌, true≢false}
use mathlib.Core.List.{List}
use Prim.Native.Nat.{ℕ, zero, suc, ◌+◌, ◌-◌, ◌*◌, ◌/◌, ◌≤◌, ◌<◌}
use native.Mathlib.Omega.{arith}
use borrow.Author.Tests.{ltb-true, ltb-false}
use lib.Dec.{ltb}
use lib.Ieee.{Float, nan, binary64, neg, mul}
use lib.ListN.{length, get_or}
use Rattle.logic.proofs.Bools.{and_cases, and_left, and_right, by_cases}
use Rattle.doubles.specs.Constants.{one, plus_zero, two}
use Rattle.doubles.specs.Ranges.{OutOf}
use Rattle.doubles.proofs.Ranges.{out_of, not-out, out-of-positive, not-out-positive}
use Rattle.grid.specs.Grid.{is_between, all_between}
use Rattle.frame.specs.declared.Frame.{Frame}
use Rattle.sweep_model.specs.Chords.{point_at, chord_of}
use Rattle.sweep_model.specs.ChordLimits.{two_million, thousand, plan_size, BadChords, guard_out, coordinate_out, error_out}
use Rattle.sweep_model.specs.ChordLimits.{plan_length_out}
use Rattle.sweep_model.specs.Steps.{guard_fits, ends_fit, length_fits, numbers_fit, chord_fits, every, chords_fit}

-- ---- a test of the first n

every-cases : (test : ℕ → Bool) (n : ℕ) → every test n ≡ false → (i : ℕ) × (i < n) × (test i ≡ false)
unfolding every
every-cases test zero h = absurd (true≢false h)
every-cases test (suc n) h =
    ⊎_elim (λ k. let o = every-cases test n k in (o.0, later o.0 o.1, o.2)) (λ k. (n, here, k))
    (and_cases (every test n) (test n) h)
  where
    later : (i : ℕ) → i < n → i < suc n
    later i l = omega arith

    here : n < suc n
    here = omega arith

split-last : (i n : ℕ) → i < suc n → (i < n) ⊎ (i ≡ n)
split-last i n l = go (ltb i n) (ltb-true i n) (ltb-false i n)
  where
    go : (b : Bool) → (b ≡ true → i < n) → (b ≡ false → n ≤ i) → (i < n) ⊎ (i ≡ n)
    go true p q = inl (p refl)
    go false p q = let g = q refl in inr (omega arith)

every-at : (test : ℕ → Bool) (i n : ℕ) → i < n → every test n ≡ true → test i ≡ true
unfolding every
every-at test i zero l h = absurd (none l)
  where
    none : i < 0 → ⊥
    none l = omega arith
every-at test i (suc n) l h =
    ⊎_elim (λ k. every-at test i n k (and_left (every test n) (test n) h))
    (λ e. subst (λ (k : ℕ). test k ≡ true) (sym e) (and_right (every test n) (test n) h)) (split-last i n l)

-- ---- the coordinates of an end

-- the double at k is out
abbrev OutAt : List Float → ℕ → Type 0
OutAt l k = OutOf (neg two_million) two_million (get_or l k nan)

module _ (l : List Float) (k : ℕ) where
  point-out : all_between (point_at l k) (neg two_million) two_million ≡ false → (j : ℕ) × (j < 3) × OutAt l (k + j)
  unfolding all_between is_between
  point-out h =
      ⊎_elim (λ t. (0, first, subst (OutAt l) zeroth (out_of (neg two_million) two_million (get_or l k nan) t)))
      (λ t. ⊎_elim (λ t. (1, second, out_of (neg two_million) two_million (get_or l (k + 1) nan) t))
      (λ t. (2, third, out_of (neg two_million) two_million (get_or l (k + 2) nan) t))
      (and_cases _ _ t)) (and_cases _ _ h)
    where
      zeroth : k ≡ k + 0
      zeroth = omega arith

      first : 0 < 3
      first = omega arith

      second : 1 < 3
      second = omega arith

      third : 2 < 3
      third = omega arith

  module _ (h : all_between (point_at l k) (neg two_million) two_million ≡ true) where
    in-x : OutAt l k → ⊥
    unfolding all_between is_between
    in-x o = not-out (neg two_million) two_million (get_or l k nan)
        (and_left (is_between (get_or l k nan) (neg two_million) two_million) _ h) o

    past-x : (is_between (get_or l (k + 1) nan) (neg two_million) two_million
        && is_between (get_or l (k + 2) nan) (neg two_million) two_million) ≡ true
    unfolding all_between
    past-x = and_right (is_between (get_or l k nan) (neg two_million) two_million) _ h

    in-y : OutAt l (k + 1) → ⊥
    unfolding is_between
    in-y o = not-out (neg two_million) two_million (get_or l (k + 1) nan)
        (and_left (is_between (get_or l (k + 1) nan) (neg two_million) two_million) _ past-x) o

    in-z : OutAt l (k + 2) → ⊥
    unfolding is_between
    in-z o = not-out (neg two_million) two_million (get_or l (k + 2) nan)
        (and_right (is_between (get_or l (k + 1) nan) (neg two_million) two_million) _ past-x) o

    point-in : (j : ℕ) → j < 3 → OutAt l (k + j) → ⊥
    point-in zero m o = in-x (subst (OutAt l) same o)
      where
        same : k + 0 ≡ k
        same = omega arith
    point-in (suc zero) m o = in-y o
    point-in (suc (suc zero)) m o = in-z o
    point-in (suc (suc (suc j))) m o = none m
      where
        none : suc (suc (suc j)) < 3 → ⊥
        none m = omega arith

-- ---- one chord

module _ (f : Frame) (guard : Float) (chords : List Float) where
  module _ (i : ℕ) (l : i < length chords / 8) where
    ends-bad : ends_fit chords i ≡ false → BadChords f guard chords
    unfolding ends_fit
    ends-bad h = ⊎_elim from to (and_cases _ _ h)
      where
        from : all_between (point_at chords (8 * i)) (neg two_million) two_million ≡ false → BadChords f guard chords
        from t = let o = point-out chords (8 * i) t in
            let m = o.1 in
            coordinate_out i o.0 l (omega arith) o.2

        to : all_between (point_at chords (8 * i + 3)) (neg two_million) two_million ≡ false → BadChords f guard chords
        to t = let o = point-out chords (8 * i + 3) t in
            let m = o.1 in
            let e : 8 * i + 3 + o.0 ≡ 8 * i + (3 + o.0) = omega arith in
            coordinate_out i (3 + o.0) l (omega arith) (subst (OutAt chords) e o.2)

    numbers-bad : numbers_fit (chord_of f chords i) ≡ false → BadChords f guard chords
    unfolding numbers_fit length_fits is_between
    numbers-bad h =
        let c = chord_of f chords i in
        ⊎_elim (λ t. error_out i l (out_of plus_zero thousand c.e t))
        (λ t. plan_length_out i l (out_of (plan_size c) (mul binary64 two (plan_size c)) c.length t)) (and_cases _ _ h)

    chord-bad : chord_fits f chords i ≡ false → BadChords f guard chords
    unfolding chord_fits
    chord-bad h = ⊎_elim ends-bad numbers-bad (and_cases _ _ h)

  pub unfit-chords : chords_fit f guard chords ≡ false → BadChords f guard chords
  unfolding chords_fit guard_fits
  unfit-chords h =
      ⊎_elim (λ t. guard_out (out-of-positive one guard t))
      (λ t. let o = every-cases (chord_fits f chords) (length chords / 8) t in chord-bad o.0 o.1 o.2) (and_cases _ _ h)

  module _ (h : chords_fit f guard chords ≡ true) where
    chord-fit : (i : ℕ) → i < length chords / 8 → (ends_fit chords i && numbers_fit (chord_of f chords i)) ≡ true
    unfolding chords_fit chord_fits
    chord-fit i l = every-at (chord_fits f chords) i (length chords / 8) l (and_right (guard_fits guard) _ h)

    ends-fit : (i : ℕ) → i < length chords / 8 → (all_between (point_at chords (8 * i)) (neg two_million) two_million
        && all_between (point_at chords (8 * i + 3)) (neg two_million) two_million) ≡ true
    unfolding ends_fit
    ends-fit i l = and_left (ends_fit chords i) _ (chord-fit i l)

    coordinate-in : (i j : ℕ) → i < length chords / 8 → j < 6 → OutAt chords (8 * i + j) → ⊥
    coordinate-in i j l m o = go (ltb j 3) (ltb-true j 3) (ltb-false j 3)
      where
        go : (b : Bool) → (b ≡ true → j < 3) → (b ≡ false → 3 ≤ j) → ⊥
        go true p q =
            point-in chords (8 * i)
            (and_left (all_between (point_at chords (8 * i)) (neg two_million) two_million) _ (ends-fit i l)) j (p refl) o
        go false p q =
            let g = q refl in
            let e : 8 * i + j ≡ 8 * i + 3 + (j - 3) = omega arith in
            point-in chords (8 * i + 3)
            (and_right (all_between (point_at chords (8 * i)) (neg two_million) two_million) _ (ends-fit i l)) (j - 3)
            (omega arith) (subst (OutAt chords) e o)

    pub fit-chords : BadChords f guard chords → ⊥
    unfolding chords_fit guard_fits numbers_fit length_fits is_between
    fit-chords (guard_out o) = not-out-positive one guard (and_left (guard_fits guard) _ h) o
    fit-chords (coordinate_out i j l m o) = coordinate-in i j l m o
    fit-chords (error_out i l o) =
        let c = chord_of f chords i in
        not-out plus_zero thousand c.e
        (and_left (is_between c.e plus_zero thousand) _ (and_right (ends_fit chords i) _ (chord-fit i l))) o
    fit-chords (plan_length_out i l o) =
        let c = chord_of f chords i in
        not-out (plan_size c) (mul binary64 two (plan_size c)) c.length
        (and_right (is_between c.e plus_zero thousand) _ (and_right (ends_fit chords i) _ (chord-fit i l))) o

  pub bad-chords : BadChords f guard chords → chords_fit f guard chords ≡ false
  bad-chords b = ⊎_elim (λ h. absurd (fit-chords h b)) (λ h. h) (by_cases (chords_fit f guard chords))
