-- From the tests and the lists that are left to the promise of a log commit.
use mathlib.Core.Path.{◌≡◌, refl, sym, ap, ap₂, ◌∙◌, subst}
use mathlib.Core.List.{List}
use Prim.Native.Nat.{ℕ, suc, ◌+◌, ◌-◌, ◌*◌}
use native.Mathlib.Numerals.{add-one}
use lib.Ieee.{Float}
use Rattle.grid.specs.Rays.{ray_count}
use Rattle.grid.specs.Causes.{ByCauses}
use Rattle.std.specs.Prelude.{Result, Ok, Err}
use Rattle.refusal.specs.declared.Refusal.{Refusal}
use Rattle.grid.specs.declared.DexelStockSpec.{DexelStockSpec}
use Rattle.grid.specs.declared.DexelGrid.{DexelGrid}
use Rattle.store.specs.Store.{used_at, Cells}
use Rattle.store.specs.Updates.{CellsPastKept, pairs_freed, pairs_laid, applied}
use Rattle.store.proofs.Checked.{count_of}
use Rattle.stock.specs.Stock.{Stock, ray_lists}
use Rattle.log_model.specs.Logs.{entries, commit_of}
use Rattle.log_model.specs.Model.{AnswerDue}
use Rattle.log_model.specs.Runs.{point_sets, CommitEffect, AcceptedEffect}
use Rattle.log_model.specs.View.{lent_store, CommitOnAnyGrid}
use Rattle.log_model.proofs.Doubles.{DoubleCells, Doubles, all-doubles}
use Rattle.log_model.specs.Updates.{MergeUpdates, committed_stock}
use Rattle.log_model.proofs.AcceptedLog.{changed_rays, all-updated, committed-sound, accepted-effect}
use Rattle.commit_check.specs.Tests.{LogChecked, LogCheckPost}
use Rattle.commit_check.proofs.Tests.{passes_none}
use Rattle.commit_apply.specs.Apply.{ApplyPre, ApplyPost}
use Rattle.commit_log.specs.LogCommit.{LogCommitPost}
use Rattle.logic.specs.Logic.{count_to}
use Rattle.commit_log.specs.Steps.{LogCommitOnGrid}
use Rattle.grid.specs.Facts.{GridFacts}

module _ (spec : DexelStockSpec) (g : DexelGrid) (s : Stock) (log : List Float) (allowance : ℕ) (work : List Float) where
  -- a refused commit
  pub refuse : (e : Refusal) → LogCheckPost spec g s log allowance work (Err e)
      → LogCommitOnGrid spec g s log allowance work (Err e) s work
  unfolding AnswerDue CommitEffect
  refuse e d = record { promise = record { answers = d; leaves = refl }; left = refl }

  -- what the tests make sure of
  pub ready : GridFacts spec g → LogChecked spec g s log allowance work → ApplyPre spec g s.cells log work
  ready f p = record {
    facts = f;
    room = p.room;
    total = s.intervals;
    sound = p.sound;
    work_room = p.work_room;
    named = p.named;
    few_pairs = p.few_pairs;
  }

  -- an accepted commit
  module _ (passes : LogChecked spec g s log allowance work)
      (ds : DoubleCells s.cells.spans) (dl : DoubleCells log) (m : ℕ) (d : Cells) (work' : List Float)
      (done : ApplyPost spec g s.cells log work m d work') where
    doubles : Doubles g (ray_lists spec g s.cells) (entries log)
    doubles = all-doubles spec g s log ds dl

    asked : MergeUpdates g (ray_lists spec g s.cells) (entries log) 0 done.updates m
    asked = done.merges

    module _ (total : ℕ) (counted : total ≡ count_to (used_at d.spans d.links) spec.max_intervals) where
      left_is : record { cells = d; generation = s.generation + 1; intervals = total } ≡ committed_stock spec s done.updates
      left_is =
          ap₂ (λ (x : Cells) (y : ℕ). record { cells = x; generation = y; intervals = total }) done.left (add-one s.generation)
          ∙ ap (λ (x : ℕ). record {
            cells = applied spec.max_intervals s.cells done.updates;
            generation = suc s.generation;
            intervals = x;
          }) number
        where
          number : total ≡ s.intervals - pairs_freed spec.max_intervals s.cells done.updates + pairs_laid done.updates
          number =
              counted ∙ ap (λ (x : Cells). count_to (used_at x.spans x.links) spec.max_intervals) done.left
              ∙ count_of spec.max_intervals (2 * ray_count g) _ _ _ _
              (committed-sound spec g s passes.sound passes.room (entries log) doubles done.updates m asked
              passes.few_pairs).store

      pub accept : LogCommitOnGrid spec g s log allowance work (Ok m)
          (record { cells = d; generation = s.generation + 1; intervals = total }) work'
      unfolding AnswerDue CommitEffect point_sets
      accept = record {
        promise = record {
          answers = (
            passes_none spec g s log allowance work doubles passes,
            changed_rays spec g s passes.sound passes.room (entries log) doubles done.updates m asked,
          );
          leaves = subst (AcceptedEffect g (lent_store spec g) s (commit_of log allowance work)) (sym left_is)
              (accepted-effect spec g s passes.sound passes.room (entries log) doubles done.updates m asked passes.few_pairs
              (commit_of log allowance work) refl);
        };
        left = record {
          updates = done.updates;
          merges = asked;
          left = left_is;
          past = subst (CellsPastKept spec.max_intervals (2 * ray_count g) s.cells) (sym done.left)
              (all-updated spec g s passes.sound passes.room (entries log) doubles done.updates m asked
              passes.few_pairs).kept;
          cleared = done.cleared;
        };
      }

-- a description that `grid` accepts, and one that it refuses
module _ (spec : DexelStockSpec) (units : List ℕ) (s : Stock) (log : List Float) (allowance : ℕ) (work : List Float) where
  pub on-grid : (g : DexelGrid) (a : Result ℕ Refusal) (t : Stock) (work' : List Float) → ByCauses spec units (Ok g)
      → LogCommitOnGrid spec g s log allowance work a t work' → LogCommitPost spec units s log allowance work a t work'
  unfolding CommitOnAnyGrid
  on-grid g a t work' b o = record { described = Ok g; by = b; promise = o.promise; left = o.left }

  pub no-grid : (e : Refusal) → ByCauses spec units (Err e) → LogCommitPost spec units s log allowance work (Err e) s work
  unfolding CommitOnAnyGrid
  no-grid e b = record { described = Err e; by = b; promise = (refl, refl); left = refl }
