-- `CommitStep` can be met: over a store that is nothing but its lists and numbers, every list of commits whose logs
-- are doubles has a run from a sound store, and it is worked out here. So neither the run nor demand 3 is empty.
use mathlib.Core.Path.{◌≡◌, refl, sym, ap, ◌∙◌}
use mathlib.Core.Bool.{true, false, not}
use mathlib.Core.List.{List, [], ◌∷◌}
use mathlib.Core.Logic.{inl, inr}
use Prim.Native.Nat.{ℕ, suc}
use lib.Ieee.{Float}
use Rattle.logic.proofs.Bools.{or_right, and_left, and_right, both, by_cases, clash, not-true}
use Rattle.spans.specs.Spans.{All, Double, holds, sound, ListOf}
use Rattle.grid.specs.declared.DexelStockSpec.{DexelStockSpec}
use Rattle.grid.specs.declared.DexelGrid.{DexelGrid}
use Rattle.log_model.specs.Logs.{entries, outer, inner, hits_on_ray, removed, Commit}
use Rattle.log_model.specs.Model.{sets_after, pair_total, Capacity, LogAnswer, changed, refused, log_commit_causes}
use Rattle.log_model.specs.Counts.{hits_on_list, changed_ray_count}
use Rattle.log_model.specs.Runs.{StoreView, point_sets, AcceptedEffect, CommitEffect, CommitStep, Run, done, next}
use Rattle.log_model.proofs.Unique.{answer-due-unsound}
use Rattle.log_model.proofs.Less.{less}
use Rattle.log_model.proofs.Doubles.{DoubleCells, hits-doubles, less-doubles}
use Rattle.log_model.proofs.Decided.{tests, answer_of_tests, answer-due, sets-after-list}
use Rattle.log_model.specs.RunCorrect.{SoundView}
use Rattle.grid.specs.Rays.{Ray}
use Rattle.stock.specs.Stock.{Kind, Possible, Certain}

pub record Plain (g : DexelGrid) : Type 0 where
  pub lists : Ray g → Kind → List Float
  pub generation : ℕ
  pub lent : Capacity

pub record Valid (g : DexelGrid) (s : Plain g) : Type 0 where
  pub is_sound : (r : Ray g) (k : Kind) → sound (s.lists r k) ≡ true
  pub doubles : (r : Ray g) (k : Kind) → All Double (s.lists r k)
  pub within : (r : Ray g) (p : Float) → holds (s.lists r Certain) p ≡ true → holds (s.lists r Possible) p ≡ true

-- the logs are slices of doubles
abbrev pub DoubleLogs : List Commit → Type 0
DoubleLogs [] = Unit {0}
DoubleLogs (c ∷ cs) = DoubleCells c.log × DoubleLogs cs

abbrev pub plain : (g : DexelGrid) → StoreView g
plain g = record {
  Store = Plain g;
  lists = λ s. s.lists;
  intervals = λ s. pair_total g s.lists;
  generation = λ s. s.generation;
  lent = λ s. s.lent;
  Sound = Valid g;
}

pub plain-laws : (g : DexelGrid) → SoundView g (plain g)
plain-laws g = record { sound_list = λ s v. v.is_sound; within = λ s v. v.within; all_pairs = λ s v. refl }

-- ---- the run, worked out

module _ (spec : DexelStockSpec) (g : DexelGrid) where
  unfoldable pub answer : Plain g → Commit → LogAnswer
  unfolding answer_of_tests log_commit_causes tests point_sets changed_ray_count
  answer s c =
      answer_of_tests (log_commit_causes spec g s.lent ⊥ (point_sets g (plain g) s) s.generation c)
      (tests spec g s.lent s.lists s.generation c)
      (changed (changed_ray_count g s.lists (entries c.log)))

  unfoldable pub after : Plain g → Commit → LogAnswer → Plain g
  unfolding less hits_on_list entries
  after s c (refused k) = s
  after s c (changed n) = record {
    lists = λ r k. less (s.lists r k) (hits_on_list g (entries c.log) r k);
    generation = suc s.generation;
    lent = s.lent;
  }

  unfoldable pub answers : Plain g → List Commit → List LogAnswer
  unfolding answer after
  answers s [] = []
  answers s (c ∷ cs) = answer s c ∷ answers (after s c (answer s c)) cs

  unfoldable pub final : Plain g → List Commit → Plain g
  unfolding answer after
  final s [] = s
  final s (c ∷ cs) = final (after s c (answer s c)) cs

  -- ---- it is a run

  module _ (s : Plain g) (v : Valid g s) (c : Commit) (d : DoubleCells c.log) where
    listed : (r : Ray g) (k : Kind) → ListOf (point_sets g (plain g) s r k) (s.lists r k)
    unfolding point_sets
    listed r k = record { is_sound = v.is_sound r k; points = λ p. refl }

    new : (r : Ray g) (k : Kind) → ListOf (sets_after g (point_sets g (plain g) s) (entries c.log) r k)
        (less (s.lists r k) (hits_on_list g (entries c.log) r k))
    new r k = sets-after-list g (point_sets g (plain g) s) s.lists listed (entries c.log) r k

    -- certain loses what possible loses
    lost-too : (r : Ray g) (p : Float) → removed g (entries c.log) r Possible p ≡ true → removed g (entries c.log) r Certain p ≡ true
    unfolding removed
    lost-too r p t = or_right (holds (hits_on_ray g (entries c.log) r.0 outer) p)
        (holds (hits_on_ray g (entries c.log) r.0 inner) p) t

    inside-still : (r : Ray g) (p : Float) → holds (less (s.lists r Certain) (hits_on_list g (entries c.log) r Certain)) p ≡ true
        → holds (less (s.lists r Possible) (hits_on_list g (entries c.log) r Possible)) p ≡ true
    unfolding sets_after point_sets
    inside-still r p t =
        let es = entries c.log in
        let u = sym ((new r Certain).points p) ∙ t in
        let kept : removed g es r Possible p ≡ false = elim (by_cases (removed g es r Possible p)) [
          | inl w ↦ absurd (clash (removed g es r Certain p) (lost-too r p w)
              (not-true (removed g es r Certain p)
              (and_right (holds (s.lists r Certain) p) (not (removed g es r Certain p)) u)))
          | inr w ↦ w
        ] in
        (new r Possible).points p
        ∙ both (holds (s.lists r Possible) p) (not (removed g es r Possible p))
        (v.within r p (and_left (holds (s.lists r Certain) p) (not (removed g es r Certain p)) u))
        (ap not kept)

    accepted-effect : (n : ℕ) → AcceptedEffect g (plain g) s c (after s c (changed n))
    unfolding point_sets after
    accepted-effect n = record {
      sound = record {
        is_sound = λ r k. (new r k).is_sound;
        doubles = λ r k. less-doubles (s.lists r k) (hits_on_list g (entries c.log) r k) (v.doubles r k) (hits-doubles g c.log d r k);
        within = inside-still;
      };
      exactly = λ r k p. (new r k).points p;
      generation = refl;
      lent = refl;
    }

    still-valid : (a : LogAnswer) → Valid g (after s c a)
    unfolding after
    still-valid (refused k) = v
    still-valid (changed n) = (accepted-effect n).sound

    leaves : (a : LogAnswer) → CommitEffect g (plain g) s c a (after s c a)
    unfolding CommitEffect after
    leaves (refused k) = refl
    leaves (changed n) = accepted-effect n

    commit-step : CommitStep spec g (plain g) s c (answer s c) (after s c (answer s c))
    unfolding answer
    commit-step = record {
      answers = answer-due-unsound spec g s.lent (¬ Valid g s) (λ n. n v) (point_sets g (plain g) s) s.generation c (answer s c)
          (answer-due spec g s.lent (point_sets g (plain g) s) s.lists listed s.generation c
          (record { of_lists = v.doubles; of_hits = hits-doubles g c.log d }));
      leaves = leaves (answer s c);
    }

  -- every list of commits has a run
  pub runs : (s : Plain g) → Valid g s → (cs : List Commit) → DoubleLogs cs → Run spec g (plain g) s cs (answers s cs) (final s cs)
  unfolding answers final
  runs s v [] d = done
  runs s v (c ∷ cs) d = next (commit-step s v c d.0) (runs (after s c (answer s c)) (still-valid s v c d.0 (answer s c)) cs d.1)
