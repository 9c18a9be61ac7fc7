-- W-234 over a sweep: where refusal 7 is not due the guard is 1 at most (`fit-covered`), so the theorem holds of every chord, axis
-- and ray of an accepted sweep, and its log has the covering pairs, turned (`accepted-covered`). Assumes nothing.
use Rattle.std.specs.Prelude.{Ok}
use mathlib.Core.Path.{sym, subst}
use mathlib.Core.List.{List, [], ◌∷◌}
use Prim.Native.Nat.{ℕ, ◌-◌, ◌<◌}
use native.Mathlib.Nat.{lt_of_lt_of_le, le_of_eq}
use lib.Ieee.{Float}
use lib.ListN.{length, replicate}
use Rattle.refusal.specs.Refusal.{cause, NoneDue}
use Rattle.doubles.specs.Constants.{plus_zero}
use Rattle.grid.specs.Causes.{grid_causes}
use Rattle.grid.specs.declared.WorldAxis.{WorldAxis}
use Rattle.cutter.specs.Limits.{tool_causes}
use Rattle.stock.proofs.Causes.{none_first, none-second}
use Rattle.sweep_model.specs.Kernel.{chord_on_axis_of}
use Rattle.sweep_model.specs.Section.{section_of}
use Rattle.sweep_model.specs.ChordLimits.{BadChords, guard_out}
use Rattle.sweep_model.specs.SweepEntries.{Setting, chord_on_axis_in, chord_in, log_of}
use Rattle.sweep.specs.Answer.{setting_causes, visit_causes, causes_in, sweep_causes, SweepPost}
use Rattle.sweep.specs.declared.Totals.{Totals}
use Rattle.discs.specs.Standing.{EndsCovered, VisitedRay, EntryTurned, SweepCovered}
use Rattle.discs.proofs.Standing.{ends-covered}
use Rattle.discs.proofs.Logged.{entry-turned}

module _ (s : Setting) (chords : List Float) where
  -- chords and a guard that refusal 7 lets pass
  pub fit-covered : (BadChords s.kernel.frame s.kernel.guard chords → ⊥) → (i : ℕ) (axis : WorldAxis) (iu iv : ℕ)
      → let l = chord_on_axis_in s (chord_in s chords i) axis in EndsCovered s.profile l (section_of l iu iv)
  unfolding chord_on_axis_of
  fit-covered n i axis iu iv =
      let l = chord_on_axis_in s (chord_in s chords i) axis in
      ends-covered s.profile l (section_of l iu iv) (λ o. n (guard_out o))

  module _ (units : List ℕ) (intervals budget len : ℕ) where
    accepted-chords : NoneDue (sweep_causes units s intervals chords budget len) → BadChords s.kernel.frame s.kernel.guard chords → ⊥
    unfolding NoneDue
    accepted-chords n =
        let seven = cause 7 (BadChords s.kernel.frame s.kernel.guard chords) in
        let set = none_first (setting_causes s intervals chords) (visit_causes s chords budget len)
        (none-second (grid_causes s.spec units) (causes_in s intervals chords budget len) n) in
        (none-second (tool_causes s.profile.shape s.profile.cutter) (seven ∷ []) set.1.1).0

    -- what `sweep` promises of an accepted call gives the theorem for its log
    pub accepted-covered : (before after : List Float) (t : Totals)
        → SweepPost (sweep_causes units s intervals chords budget len) s intervals chords before after (Ok t)
        → SweepCovered s chords after t.entries
    accepted-covered before after t post =
        record {
          covered = λ (v : VisitedRay s chords). fit-covered (accepted-chords post.0) v.i v.axis v.iu v.iv;
          entries_turned = λ (k : ℕ) (h : k < t.entries).
              subst (λ (log : List Float). EntryTurned s chords log k) (sym post.1.log)
              (entry-turned s chords (replicate (length before - length (log_of s chords)) plus_zero) k
              (lt_of_lt_of_le h (le_of_eq post.1.entries)));
        }
