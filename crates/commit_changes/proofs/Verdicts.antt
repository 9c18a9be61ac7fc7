-- What the tests of a change list tell, by its causes.
use mathlib.Core.Path.{◌≡◌, refl, ap, ◌∙◌, subst}
use mathlib.Core.Bool.{true, false}
use mathlib.Core.List.{List}
use mathlib.Core.Logic.{inl, inr}
use Prim.Native.Nat.{ℕ, ◌+◌, ◌-◌, ◌*◌, ◌%◌, ◌^◌, ◌≤◌, ◌<◌}
use native.Mathlib.Omega.{arith}
use lib.Ieee.{Float}
use lib.ListN.{length}
use Rattle.logic.proofs.Bools.{clash}
use Rattle.std.specs.Prelude.{None, Some, Result, Ok, Err}
use Rattle.refusal.specs.Refusal.{Due, NoneDue}
use Rattle.refusal.specs.declared.Refusal.{Refusal}
use Rattle.refusal.specs.declared.Refusal.TheVariants.{Change, ShortBuffer, Unsound, BaseGeneration, IntervalBudget, LastGeneration}
use Rattle.grid.specs.Rays.{ray_count}
use Rattle.grid.specs.declared.DexelStockSpec.{DexelStockSpec}
use Rattle.grid.specs.declared.DexelGrid.{DexelGrid}
use Rattle.store.specs.Updates.{pairs_freed}
use Rattle.store.proofs.FreePlaces.{free-records}
use Rattle.store.proofs.Updating.{freed-all}
use Rattle.stock.specs.Stock.{Stock, SoundStock, is_short}
use Rattle.stock.proofs.Causes.{due-first}
use Rattle.change_list.specs.Changes.{changes_of, AllGood, updates_in, bad_causes}
use Rattle.change_list.specs.Steps.{CheckChangesPost}
use Rattle.change_list.specs.declared.ChangeCursor.{ChangeCursor}
use Rattle.change_list.proofs.Applying.{good-ascend}
use Rattle.commit_changes.specs.ChangeCommit.{intervals_after, ChangeInputBad, change_list_causes, change_causes}
use Rattle.commit_changes.specs.Verdicts.{VerdictBy}
use Rattle.store.specs.Steps.{Room}

module _ (spec : DexelStockSpec) (g : DexelGrid) (s : Stock) (changes : List ℕ) (pairs : List Float) where
  -- ---- 13, 10, 15: a bad change, too many intervals, the last generation
  pub bad-list : CheckChangesPost spec g s.cells pairs (changes_of changes pairs) None
      → VerdictBy (change_list_causes spec g s changes pairs) spec g s changes pairs (Err Change)
  bad-list d = due-first (bad_causes (AllGood spec g s.cells pairs 0 (changes_of changes pairs))) _ 13 d

  module _ (cur : ChangeCursor) (checked : CheckChangesPost spec g s.cells pairs (changes_of changes pairs) (Some cur))
      (room : Room spec.max_intervals (2 * ray_count g) s.cells) (sound : SoundStock spec g s) where
    -- no more pairs are freed than the store has
    pub freed-fewer : cur.before ≤ s.intervals
    freed-fewer =
        let f = freed-all sound.store room
        (good-ascend spec g s.cells pairs (changes_of changes pairs) 0 0 (omega arith) checked.0) in
        omega (arith, checked.1, f.fewer)

    -- the total needs no more than 64 bits
    pub total-fits : length s.cells.spans < 2 ^ 64 → length pairs < 2 ^ 64 → s.intervals - cur.before + cur.after < 2 ^ 64
    total-fits hs hp =
        let most = free-records spec.max_intervals (2 * ray_count g) s.intervals s.cells.spans
        s.cells.links s.cells.heads sound.store in
        omega (arith, most, room.in_spans, checked.3)

    total-is : s.intervals - cur.before + cur.after ≡ intervals_after spec g s changes pairs
    total-is = ap (λ (x : ℕ). s.intervals - x + cur.after) checked.1
        ∙ ap (λ (x : ℕ). s.intervals - pairs_freed spec.max_intervals s.cells (updates_in g changes pairs)
        + x) checked.2

    pub over-budget : spec.max_intervals < s.intervals - cur.before + cur.after
        → VerdictBy (change_list_causes spec g s changes pairs) spec g s changes pairs (Err IntervalBudget)
    unfolding Due
    over-budget l = inr (
      (λ (bad : AllGood spec g s.cells pairs 0 (changes_of changes pairs) → ⊥). bad checked.0),
      inl (subst (λ (x : ℕ). spec.max_intervals < x) total-is l, refl),
    )

    module _ (l : s.intervals - cur.before + cur.after ≤ spec.max_intervals) where
      within : spec.max_intervals < intervals_after spec g s changes pairs → ⊥
      within h = omega (arith, total-is)

      pub last-generation : s.generation ≡ 18446744073709551615
          → VerdictBy (change_list_causes spec g s changes pairs) spec g s changes pairs (Err LastGeneration)
      unfolding Due
      last-generation h = inr (
        (λ (bad : AllGood spec g s.cells pairs 0 (changes_of changes pairs) → ⊥). bad
            checked.0),
        inr (within, inl (h, refl)),
      )

      pub list-fits : (s.generation ≡ 18446744073709551615 → ⊥)
          → VerdictBy (change_list_causes spec g s changes pairs) spec g s changes pairs
          (Ok (s.intervals - cur.before + cur.after))
      unfolding NoneDue
      list-fits h = (
        ((λ (bad : AllGood spec g s.cells pairs 0 (changes_of changes pairs) → ⊥). bad checked.0), (within, (h, tt))),
        total-is,
        record { room = room; is_sound = sound; good = checked.0; budget = subst (λ (x : ℕ). x ≤ spec.max_intervals) total-is l },
      )

  -- ---- 12, 11, 14: short buffers, bad input, another base
  module _ (base : ℕ) where
    pub too_short : is_short spec g s.cells ≡ true
        → VerdictBy (change_causes spec g base s changes pairs) spec g s changes pairs (Err ShortBuffer)
    unfolding Due
    too_short h = inl (h, refl)

    module _ (long : is_short spec g s.cells ≡ false) where
      not_short : is_short spec g s.cells ≡ true → ⊥
      not_short h = clash (is_short spec g s.cells) h long

      pub unsound : ChangeInputBad spec g s changes pairs
          → VerdictBy (change_causes spec g base s changes pairs) spec g s changes pairs (Err Unsound)
      unfolding Due
      unsound h = inr (not_short, inl (h, refl))

      module _ (sound : SoundStock spec g s) (six : length changes % 6 ≡ 0) (two : length pairs % 2 ≡ 0) where
        not-unsound : ChangeInputBad spec g s changes pairs → ⊥
        not-unsound (inl h) = h sound
        not-unsound (inr (inl h)) = h six
        not-unsound (inr (inr h)) = h two

        pub other-base : (base ≡ s.generation → ⊥)
            → VerdictBy (change_causes spec g base s changes pairs) spec g s changes pairs (Err BaseGeneration)
        unfolding Due
        other-base h = inr (not_short, inr (not-unsound, inl (h, refl)))

        pub verdict-of-list : base ≡ s.generation → (r : Result ℕ Refusal)
            → VerdictBy (change_list_causes spec g s changes pairs) spec g s changes pairs r
            → VerdictBy (change_causes spec g base s changes pairs) spec g s changes pairs r
        unfolding Due NoneDue
        verdict-of-list e (Err k) d = inr (not_short, inr (not-unsound, inr ((λ (ne : base ≡ s.generation → ⊥). ne e), d)))
        verdict-of-list e (Ok t) d = ((not_short, (not-unsound, ((λ (ne : base ≡ s.generation → ⊥). ne e), d.0))), d.1, d.2)
