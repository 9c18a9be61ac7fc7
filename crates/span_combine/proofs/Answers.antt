-- How each case of an answer is shown.
use mathlib.Core.Path.{◌≡◌, refl}
use mathlib.Core.Logic.{inl, inr}
use mathlib.Core.Bool.{Bool, true}
use mathlib.Core.List.{List, ◌++◌}
use Prim.Native.Nat.{ℕ, ◌+◌, ◌-◌, ◌/◌, ◌≤◌, ◌<◌}
use native.Mathlib.Omega.{arith}
use lib.ListN.{length, take, replicate}
use lib.Ieee.{Float}
use Rattle.doubles.specs.Constants.{plus_zero}
use Rattle.refusal.specs.Refusal.{Due, NoneDue}
use Rattle.spans.specs.Spans.{sound, ListOf}
use Rattle.spans.specs.Results.{ListPost, list_causes}
use Rattle.spans.specs.Steps.{FilledFront}
use Rattle.std.specs.Prelude.{Ok, Err}
use Rattle.refusal.specs.declared.Refusal.TheVariants.{Unsound, ShortBuffer}
use Rattle.span_combine.specs.Combine.{combine_causes, ExactListOf}
use Rattle.logic.proofs.Bools.{and-false, by_cases}
use Rattle.spans.proofs.Answers.{laid}
use Rattle.spans.proofs.Sets.{sound-mod}
use Rattle.span_combine.specs.Steps.{CombineCheckPost}

-- no cause: both lists are sound, and there is room for both
pub good-lists : (a b : List Float) (room : ℕ) → NoneDue (combine_causes a b room)
    → (sound a ≡ true) × (sound b ≡ true) × (length a + length b ≤ room)
unfolding NoneDue
good-lists a b room h =
    let sa : sound a ≡ true = elim (by_cases (sound a)) [ inl k ↦ k | inr k ↦ absurd (h.1.0 (rw k)) ] in
    let sb : sound b ≡ true = elim (by_cases (sound b)) [ inl k ↦ k | inr k ↦ absurd (h.1.0 (and-false (sound a) (sound b) k)) ] in
    let fit : room / 2 < length a / 2 + length b / 2 → ⊥ = h.0 in
    (sa, sb, omega (arith, sound-mod a sa, sound-mod b sb))

-- where the check found no cause
module _ (a b before : List Float) (c : NoneDue (combine_causes a b (length before))) where
  pub checked-lists : (sound a ≡ true) × (sound b ≡ true) × (length a + length b ≤ length before)
  checked-lists = good-lists a b (length before) c

  -- the list that was filled in, and zero past it
  module _ (list mid : List Float) (n : ℕ) (f : FilledFront (λ l. l ≡ list) before (length a + length b) mid n) where
    pub filled-fits : n ≤ length mid
    filled-fits = omega (arith, checked-lists.2, f.most, f.size)

    pub accept-filled : (s : Float → Bool) → (sound a ≡ true → sound b ≡ true → ListOf s list) → (after : List Float)
        → after ≡ take n mid ++ replicate (length mid - n) plus_zero
        → ListPost (ExactListOf s list) (combine_causes a b (length before)) before after (Ok (n / 2))
    accept-filled s law after z =
        let l = law checked-lists.0 checked-lists.1 in (
          c,
          laid (ExactListOf s list) mid after n filled-fits (rw f.list l.is_sound)
              (rw f.list (record { list = l; ends = refl })) z,
        )

-- what the check finds, before anything is written
module _ (short bad : Type 0) where
  pub checked-short : short → CombineCheckPost (list_causes short bad) (Err ShortBuffer)
  unfolding Due
  checked-short h = inl (h, refl)

  pub checked-bad : ¬ short → bad → CombineCheckPost (list_causes short bad) (Err Unsound)
  unfolding Due
  checked-bad h k = inr (h, inl (k, refl))

  pub checked-none : ¬ short → ¬ bad → CombineCheckPost (list_causes short bad) (Ok tt)
  unfolding NoneDue
  checked-none h k = (h, (k, tt))
