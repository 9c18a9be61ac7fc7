-- What follows from the contract of `run_logs`.
use mathlib.Core.Path.{◌≡◌, refl, ap, ap₂, ◌∙◌, subst}
use mathlib.Core.Bool.{true}
use mathlib.Core.List.{List}
use Prim.Native.Nat.{ℕ, suc, ◌+◌, ◌*◌, ◌/◌, ◌≤◌, ◌<◌}
use native.Mathlib.Decide.{dec_lt}
use native.Mathlib.Omega.{arith}
use lib.ListN.{length, get_or, set, length-set}
use lib.Seq.{get_or-set_other}
use lib.Ieee.{Float}
use Rattle.refusal.specs.Refusal.{Due, NoneDue, number_of}
use Rattle.refusal.proofs.Laws.{due-unique, none-due}
use Rattle.spans.specs.Spans.{All, Double, Point, holds, sound, equal}
use Rattle.grid.specs.Causes.{grid_causes, grid_in, ByCauses}
use Rattle.grid.specs.declared.DexelStockSpec.{DexelStockSpec}
use Rattle.std.specs.Prelude.{Result, Ok, Err}
use Rattle.refusal.specs.declared.Refusal.{Refusal}
use Rattle.grid.specs.declared.DexelGrid.{DexelGrid}
use Rattle.stock.specs.Stock.{Stock, SoundStock, Kind, ray_list}
use Rattle.log_model.specs.Logs.{Commit}
use Rattle.log_model.specs.Model.{LogAnswer, refused, model_after}
use Rattle.log_model.specs.Runs.{model_start}
use Rattle.log_model.specs.View.{lent_store, CommitOnAnyGrid}
use Rattle.commit_log.specs.LogCommit.{answer_of, LogCellsOnAnyGrid}
use Rattle.commit_run.specs.RunLogs.{commits_to, answer_by, answers_to, answer_code, answer_number, CommitsTo, none}
use Rattle.commit_run.specs.RunLogs.{more, RunOnGridPost, RunLogsPost}
use Rattle.commit_run.proofs.Turns.{answer_at}
use Rattle.commit_run.specs.Refused.{AllRefused}
use Rattle.grid.specs.Rays.{Ray}

-- ---- a refused description

module _ (spec : DexelStockSpec) (units : List ℕ) (k : ℕ) (due : Due (grid_causes spec units) k) where
  -- one commit on it
  refuses : (d : Result DexelGrid Refusal) (s t : Stock) (c : Commit) (a : LogAnswer) (log work work' : List Float)
      (x : Result ℕ Refusal) → ByCauses spec units d
      → CommitOnAnyGrid d spec s c a t
      → LogCellsOnAnyGrid d spec s log work x t work' → (a ≡ refused k) × (t ≡ s) × (work' ≡ work)
  unfolding CommitOnAnyGrid
  refuses (Ok g) s t c a log work work' x b p l = absurd (none-due (grid_causes spec units) k b.0 due)
  refuses (Err e) s t c a log work work' x b p l = (p.0 ∙ ap refused (due-unique (grid_causes spec units) (number_of e) k b due), p.1, l)

  module _ (logs : List Float) (ends allowances : List ℕ) (s : Stock) (work : List Float) (answers : List ℕ) where
    pub refused-commits : {i : ℕ} {t : Stock} {w : List Float} {ks : List ℕ}
        → CommitsTo spec units logs ends allowances s work answers i t w ks
        → 2 * i ≤ length answers → AllRefused k i s work answers t w ks × (length ks ≡ length answers)
    refused-commits none fits = (
      record {
        stock_stays = refl;
        work_stays = refl;
        each = λ j h. absurd (omega arith);
        past = λ q h. refl;
      },
      refl,
    )
    refused-commits (more {i = i} {t = t} {u = u} {w = w} {v = v} {ks = ks} {ls = ls} before x) fits =
        let (r, n) = refused-commits before (omega arith) in
        let y = refuses x.commits.described t u _ (answer_of x.answer) _ w v x.answer x.commits.by x.commits.promise
        x.commits.left in
        let keeps : (q : ℕ) → (q ≡ 2 * i → ⊥) → (q ≡ 2 * i + 1 → ⊥) → get_or ls q 0 ≡ get_or ks q 0 = λ q a b.
        ap (λ (l : List ℕ). get_or l q 0) x.written
        ∙ get_or-set_other (set ks (2 * i) (answer_code x.answer)) (2 * i + 1) q (answer_number x.answer) 0 b
        ∙ get_or-set_other ks (2 * i) q (answer_code x.answer) 0 a in (
          record {
            stock_stays = y.1 ∙ r.stock_stays;
            work_stays = y.2 ∙ r.work_stays;
            each = λ j h. elim (dec_lt j i) [
              | yes l ↦
                  ap₂ answer_by (keeps (2 * j) (λ (e : 2 * j ≡ 2 * i). omega arith) (λ (e : 2 * j ≡ 2 * i + 1). omega arith))
                  (keeps (2 * j + 1) (λ (e : 2 * j + 1 ≡ 2 * i). omega arith) (λ (e : 2 * j + 1 ≡ 2 * i + 1). omega arith))
                  ∙ r.each j l
              | no l ↦ subst (λ (m : ℕ). answer_by (get_or ls (2 * m) 0) (get_or ls (2 * m + 1) 0) ≡ refused k) (last i j h l)
                  (ap (λ (l : List ℕ). answer_by (get_or l (2 * i) 0) (get_or l (2 * i + 1) 0)) x.written
                  ∙ answer_at ks i x.answer (omega (arith, n)) ∙ y.0)
            ];
            past = λ q h. keeps q (λ (e : q ≡ 2 * i). omega arith) (λ (e : q ≡ 2 * i + 1). omega arith) ∙ r.past q (omega arith);
          },
          ap length x.written ∙ length-set (set ks (2 * i) (answer_code x.answer)) (2 * i + 1) (answer_number x.answer)
              ∙ length-set ks (2 * i) (answer_code x.answer) ∙ n,
        )
      where
        last : (i j : ℕ) → j < suc i → (j < i → ⊥) → i ≡ j
        last i j h l = omega arith

    -- THE LAW: a run on a description that is refused with k leaves the stock and the work buffer, and gives k for each log
    pub refused_all : (t : Stock) (w : List Float) (ks : List ℕ) → 2 * length ends ≤ length answers
        → RunLogsPost spec units logs ends allowances s work answers t w ks
        → AllRefused k (length ends) s work answers t w ks
    refused_all t w ks fits r = (refused-commits r.commits fits).0

-- ---- demand 3's one list

-- after a run from a sound stock, each list is the only sound one of doubles with the points of the model's set
pub only_one : (spec : DexelStockSpec) (units : List ℕ) (logs : List Float) (ends allowances : List ℕ) (s : Stock) (work : List Float)
    (answers : List ℕ) (t : Stock) (w : List Float) (ks : List ℕ) → RunLogsPost spec units logs ends allowances s work answers t w ks
    → NoneDue (grid_causes spec units) → SoundStock spec (grid_in spec) s
    → (r : Ray (grid_in spec)) (k : Kind) (l : List Float) → All Double l → sound l ≡ true
    → ((p : Float) → Point p → holds l p
    ≡ (model_after (grid_in spec) (model_start (grid_in spec) (lent_store spec (grid_in spec)) s)
    (commits_to logs ends allowances (length work / 2) (length ends)) (answers_to ks (length ends))).sets r k p)
    → equal l (ray_list spec t.cells r.0 k) ≡ true
unfolding RunOnGridPost
only_one spec units logs ends allowances s work answers t w ks x n snd r k l d h f =
    ((x.ran n).meets_model snd).only_list r k l d (x.doubles r.0 k) h f
