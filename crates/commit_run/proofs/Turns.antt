-- The loop over a list of log commits.
use mathlib.Core.Path.{◌≡◌, refl, sym, ap, ap₂, ◌∙◌, subst}
use mathlib.Core.List.{List, [], ◌∷◌, ◌++◌}
use native.Mathlib.Omega.{arith}
use Prim.Native.Nat.{ℕ, zero, suc, ◌+◌, ◌*◌, ◌/◌, ◌≤◌, ◌<◌}
use lib.ListN.{length, get_or, set, length-set}
use lib.Seq.{get_or-set_other, get_or-set_same}
use lib.Ieee.{Float}
use Rattle.refusal.specs.Refusal.{NoneDue, number_of}
use Rattle.refusal.proofs.Laws.{none-due}
use Rattle.grid.specs.Causes.{grid_causes, grid_in, ByCauses}
use Rattle.grid.specs.declared.DexelStockSpec.{DexelStockSpec}
use Rattle.grid.specs.declared.DexelGrid.{DexelGrid}
use Rattle.std.specs.Prelude.{Result, Ok, Err}
use Rattle.refusal.specs.declared.Refusal.{Refusal}
use Rattle.stock.specs.Stock.{Stock}
use Rattle.log_model.specs.Logs.{Commit, commit_of}
use Rattle.log_model.specs.Model.{LogAnswer}
use Rattle.log_model.specs.Runs.{Run, done, CommitStep as CommitPromise}
use Rattle.log_model.specs.View.{lent_store, CommitOnAnyGrid}
use Rattle.log_model.proofs.RunCorrect.{extend}
use Rattle.log_model.proofs.Doubles.{DoubleCells, list-doubles}
use Rattle.log_model.proofs.View.{run-correct-lent}
use Rattle.commit_log.specs.LogCommit.{answer_of}
use Rattle.commit_run.specs.RunLogs.{begin_of, log_from, commit_at, commits_to, answer_by, answers_to, answer_code, answer_number}
use Rattle.commit_run.specs.RunLogs.{answered, RunStepPost, CommitsTo, none, more, RunOnGridPost, RunLogsPost}

-- the two numbers of an answer tell it
by-numbers : (a : Result ℕ Refusal) → answer_by (answer_code a) (answer_number a) ≡ answer_of a
by-numbers (Ok n) = refl
by-numbers (Err e) = refl

-- answer i stands in its own two cells
pub answer_at : (answers : List ℕ) (i : ℕ) (a : Result ℕ Refusal) → 2 * i + 1 < length answers
    → answer_by (get_or (answered answers i a) (2 * i) 0) (get_or (answered answers i a) (2 * i + 1) 0) ≡ answer_of a
answer_at answers i a fits =
    let first : get_or (answered answers i a) (2 * i) 0 ≡ answer_code a =
    get_or-set_other (set answers (2 * i) (answer_code a)) (2 * i + 1) (2 * i) (answer_number a) 0
    (λ (e : 2 * i ≡ 2 * i + 1). omega arith) ∙ get_or-set_same answers (2 * i) (answer_code a) 0 (omega arith) in
    let second : get_or (answered answers i a) (2 * i + 1) 0 ≡ answer_number a =
    get_or-set_same (set answers (2 * i) (answer_code a)) (2 * i + 1) (answer_number a) 0
    (omega (arith, length-set answers (2 * i) (answer_code a))) in
    ap₂ answer_by first second ∙ by-numbers a

-- and the answers before it stay
answer-before : (answers : List ℕ) (i : ℕ) (a : Result ℕ Refusal) (k : ℕ) → k ≤ i
    → answers_to (answered answers i a) k ≡ answers_to answers k
unfolding answers_to
answer-before answers i a zero h = refl
answer-before answers i a (suc k) h =
    let same : (q : ℕ) → q < 2 * i → get_or (answered answers i a) q 0 ≡ get_or answers q 0 = λ q l.
    get_or-set_other (set answers (2 * i) (answer_code a)) (2 * i + 1) q (answer_number a) 0
    (λ (e : q ≡ 2 * i + 1). omega arith)
    ∙ get_or-set_other answers (2 * i) q (answer_code a) 0 (λ (e : q ≡ 2 * i). omega arith) in
    ap₂ (λ (l : List LogAnswer) (x : LogAnswer). l ++ (x ∷ [])) (answer-before answers i a k (omega arith))
    (ap₂ answer_by (same (2 * k) (omega arith)) (same (2 * k + 1) (omega arith)))

-- the first i commits are run, the next log begins at cell `at`, and each buffer has its size
pub record RunTo (spec : DexelStockSpec) (units : List ℕ) (s : Stock) (logs : List Float) (ends allowances : List ℕ)
    (work₀ : List Float) (answers₀ : List ℕ) (i : ℕ) (t : Stock) (at : ℕ) (work : List Float) (answers : List ℕ)
    : Type 0 where
  pub most : i ≤ length ends
  pub begins : at ≡ begin_of ends i
  pub run : NoneDue (grid_causes spec units)
      → Run spec (grid_in spec) (lent_store spec (grid_in spec)) s (commits_to logs ends allowances (length work₀ / 2) i)
      (answers_to answers i) t
  pub commits : CommitsTo spec units logs ends allowances s work₀ answers₀ i t work answers
  pub doubles : DoubleCells t.cells.spans
  pub spans_size : length t.cells.spans ≡ length s.cells.spans
  pub links_size : length t.cells.links ≡ length s.cells.links
  pub heads_size : length t.cells.heads ≡ length s.cells.heads
  pub work_size : length work ≡ length work₀
  pub answers_size : length answers ≡ length answers₀

pub run-start : (spec : DexelStockSpec) (units : List ℕ) (s : Stock) (logs : List Float) (ends allowances : List ℕ) (work : List Float)
    (answers : List ℕ)
    → DoubleCells s.cells.spans → RunTo spec units s logs ends allowances work answers 0 s 0 work answers
unfolding commits_to answers_to
run-start spec units s logs ends allowances work answers d = record {
  most = omega arith;
  begins = refl;
  run = λ e. done;
  commits = none;
  doubles = d;
  spans_size = refl;
  links_size = refl;
  heads_size = refl;
  work_size = refl;
  answers_size = refl;
}

-- a commit on a description without a cause is a step of a run
on-grid : (spec : DexelStockSpec) (units : List ℕ) (d : Result DexelGrid Refusal) (s t : Stock) (c : Commit) (a : LogAnswer)
    → NoneDue (grid_causes spec units) → ByCauses spec units d → CommitOnAnyGrid d spec s c a t
    → CommitPromise spec (grid_in spec) (lent_store spec (grid_in spec)) s c a t
unfolding CommitOnAnyGrid
on-grid spec units (Ok g) s t c a e b x = subst (λ (h : DexelGrid). CommitPromise spec h (lent_store spec h) s c a t) b.1 x
on-grid spec units (Err r) s t c a e b x = absurd (none-due (grid_causes spec units) (number_of r) e b)

pub run-next : (spec : DexelStockSpec) (units : List ℕ) (s : Stock) (logs : List Float) (ends allowances : List ℕ)
    (work₀ : List Float) (answers₀ : List ℕ) (i : ℕ) (t : Stock) (at : ℕ) (work : List Float) (answers : List ℕ)
    (u : Stock) (work' : List Float) (answers' : List ℕ)
    → RunTo spec units s logs ends allowances work₀ answers₀ i t at work answers → i < length ends → 2 * length ends ≤ length answers₀
    → RunStepPost spec units t (log_from logs at (get_or ends i 0)) (get_or allowances i 0) work answers i u work' answers'
    → DoubleCells u.cells.spans → length u.cells.spans ≡ length t.cells.spans
    → length u.cells.links ≡ length t.cells.links → length u.cells.heads ≡ length t.cells.heads
    → length work' ≡ length work → length answers' ≡ length answers
    → RunTo spec units s logs ends allowances work₀ answers₀ (i + 1) u (get_or ends i 0) work' answers'
unfolding commits_to answers_to
run-next spec units s logs ends allowances work₀ answers₀ i t at work answers u work' answers' r below room x d za zb zc zw zn = record {
  most = omega arith;
  begins = begins;
  run = λ e.
      subst (λ (vs : List LogAnswer). Run spec (grid_in spec) (lent_store spec (grid_in spec)) s
      (commits_to logs ends allowances (length work₀ / 2) (i + 1)) vs u) (sym answers-are)
      (subst (λ (k : ℕ). Run spec (grid_in spec) (lent_store spec (grid_in spec)) s
      (commits_to logs ends allowances (length work₀ / 2) k) (answers_to answers i ++ (answer_of x.answer ∷ []))
      u) one_more
      (extend spec (grid_in spec) (lent_store spec (grid_in spec)) (r.run e)
      (on-grid spec units x.commits.described t u (commit_at logs ends allowances (length work₀ / 2) i)
      (answer_of x.answer) e x.commits.by
      (subst (λ (c : Commit). CommitOnAnyGrid x.commits.described spec t c (answer_of x.answer) u) same-commit
      x.commits.promise))));
  commits = subst (λ (k : ℕ). CommitsTo spec units logs ends allowances s work₀ answers₀ k u work' answers') one_more
      (more r.commits (subst (λ (b : ℕ). RunStepPost spec units t (log_from logs b (get_or ends i 0))
      (get_or allowances i 0) work answers i u work' answers') r.begins x));
  doubles = d;
  spans_size = za ∙ r.spans_size;
  links_size = zb ∙ r.links_size;
  heads_size = zc ∙ r.heads_size;
  work_size = zw ∙ r.work_size;
  answers_size = zn ∙ r.answers_size;
}
  where
    one_more : suc i ≡ i + 1
    one_more = omega arith

    begins : get_or ends i 0 ≡ begin_of ends (i + 1)
    begins = ap (begin_of ends) one_more

    same-commit : commit_of (log_from logs at (get_or ends i 0)) (get_or allowances i 0) work
        ≡ commit_at logs ends allowances (length work₀ / 2) i
    same-commit = ap₂ (λ (b : ℕ) (w : ℕ). record {
      log = log_from logs b (get_or ends i 0);
      allowance = get_or allowances i 0;
      work = w;
    }) r.begins (ap (λ (n : ℕ). n / 2) r.work_size)

    fits : 2 * i + 1 < length answers
    fits = omega (arith, r.answers_size)

    answers-are : answers_to answers' (i + 1) ≡ answers_to answers i ++ (answer_of x.answer ∷ [])
    answers-are =
        ap (answers_to answers') (sym one_more) ∙ ap (λ (l : List ℕ). answers_to l (suc i)) x.written
        ∙ ap₂ (λ (l : List LogAnswer) (v : LogAnswer). l ++ (v ∷ []))
        (answer-before answers i x.answer i (omega arith)) (answer_at answers i x.answer fits)

pub run_end : (spec : DexelStockSpec) (units : List ℕ) (s : Stock) (logs : List Float) (ends allowances : List ℕ)
    (work₀ : List Float) (answers₀ : List ℕ) (i : ℕ) (t : Stock) (at : ℕ) (work : List Float) (answers : List ℕ)
    → RunTo spec units s logs ends allowances work₀ answers₀ i t at work answers → length ends ≤ i
    → RunLogsPost spec units logs ends allowances s work₀ answers₀ t work answers
unfolding RunOnGridPost
run_end spec units s logs ends allowances work₀ answers₀ i t at work answers r past =
    let all : i ≡ length ends = omega (arith, r.most) in
    record {
      commits = subst (λ (k : ℕ). CommitsTo spec units logs ends allowances s work₀ answers₀ k t work answers) all r.commits;
      ran = λ e.
          let run : Run spec (grid_in spec) (lent_store spec (grid_in spec)) s
          (commits_to logs ends allowances (length work₀ / 2) (length ends)) (answers_to answers (length ends)) t =
          subst (λ (k : ℕ). Run spec (grid_in spec) (lent_store spec (grid_in spec)) s
          (commits_to logs ends allowances (length work₀ / 2) k) (answers_to answers k) t) all (r.run e) in
          record {
            run = run;
            meets_model = λ sound. (run-correct-lent spec (grid_in spec)).meets_model s t
                (commits_to logs ends allowances (length work₀ / 2) (length ends)) (answers_to answers (length ends)) sound run;
          };
      doubles = list-doubles spec t r.doubles;
    }
