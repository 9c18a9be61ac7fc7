-- No entry refuses with 0 or 4: each number that is due to one is given (`is_given`), and so is each number but 0 that an export answers.
use mathlib.Core.Path.{◌≡◌, refl, sym, ap, subst}
use mathlib.Core.Bool.{true, not}
use mathlib.Core.List.{List}
use Prim.Native.Nat.{ℕ, suc}
use lib.Ieee.{Float}
use Rattle.span_compare.specs.Verdicts.{compare_causes}
use Rattle.grid.specs.Causes.{grid_causes, ByCauses}
use Rattle.std.specs.Prelude.{Result, Ok, Err}
use Rattle.grid.specs.declared.DexelGrid.{DexelGrid}
use Rattle.refusal.specs.declared.Refusal.{Refusal}
use Rattle.grid.specs.declared.DexelStockSpec.{DexelStockSpec}
use Rattle.refusal.specs.Refusal.{Due, number_of}
use Rattle.refusal.proofs.Laws.{number-allowed}
use Rattle.ray_trace.specs.Trace.{trace_causes}
use Rattle.spans.specs.Results.{list_causes}
use Rattle.stock_fill.specs.Uncut.{fill_causes}
use Rattle.stock_volume.specs.Volume.{volume_causes}
use Rattle.stock.specs.Stock.{Stock, SoundStock}
use Rattle.commit_changes.specs.ChangeCommit.{change_commit_causes}
use Rattle.commit_log.specs.LogCommit.{LogCommitPost}
use Rattle.log_model.specs.Logs.{Commit, commit_of}
use Rattle.log_model.specs.Model.{LogAnswer, changed, refused, log_commit_causes, AnswerDue}
use Rattle.log_model.specs.View.{CommitOnAnyGrid, lent_store}
use Rattle.log_model.specs.Runs.{point_sets}
use Rattle.store.specs.Store.{Cells}
use Rattle.c_results.specs.Numbers.{AnsweredBy}
use Rattle.c_results.proofs.Results.{is_given, due-given}

-- the number of every refusal
pub number-given : (e : Refusal) → is_given (number_of e) ≡ true
number-given e = ap not (number-allowed e)

-- what an export answers, by the words of its contract, where it is not 0
pub answer-given : {A S : Type 0} (numbers : A → S → Type 0) (promise : Result A Refusal → Type 0) (k : ℕ) (before after : S)
    → AnsweredBy numbers promise (suc k) before after → is_given (suc k) ≡ true
answer-given numbers promise k before after a = subst (λ (x : ℕ). is_given x ≡ true) a.1 (number-given a.0)

-- the list functions and merge, with 12 and 11
pub list-given : (short bad : Type 0) (k : ℕ) → Due (list_causes short bad) k → is_given k ≡ true
list-given short bad k = due-given (list_causes short bad) k refl

pub compare-given : (a b : List Float) (k : ℕ) → Due (compare_causes a b) k → is_given k ≡ true
compare-given a b k = due-given (compare_causes a b) k refl

pub trace-given : (lo hi : Float) (possible certain log : List Float) (place : Float) (k : ℕ)
    → Due (trace_causes lo hi possible certain log place) k → is_given k ≡ true
trace-given lo hi possible certain log place k = due-given (trace_causes lo hi possible certain log place) k refl

pub grid-given : (s : DexelStockSpec) (units : List ℕ) (k : ℕ) → Due (grid_causes s units) k → is_given k ≡ true
unfolding grid_causes
grid-given s units k = due-given (grid_causes s units) k refl

pub fill-given : (s : DexelStockSpec) (units : List ℕ) (c : Cells) (k : ℕ) → Due (fill_causes s units c) k → is_given k ≡ true
unfolding grid_causes
fill-given s units c k = due-given (fill_causes s units c) k refl

pub volume-given : (s : DexelStockSpec) (units : List ℕ) (c : Cells) (intervals k : ℕ)
    → Due (volume_causes s units c intervals) k → is_given k ≡ true
unfolding grid_causes
volume-given s units c intervals k =
    due-given (volume_causes s units c intervals) k refl

pub changes-given : (spec : DexelStockSpec) (units : List ℕ) (base : ℕ) (s : Stock) (changes : List ℕ)
    (pairs : List Float) (k : ℕ) → Due (change_commit_causes spec units base s changes pairs) k → is_given k ≡ true
unfolding grid_causes
changes-given spec units base s changes pairs k =
    due-given (change_commit_causes spec units base s changes pairs) k refl

-- the number of an answer
number : LogAnswer → ℕ
number (changed n) = n
number (refused k) = k

log-given : (spec : DexelStockSpec) (units : List ℕ) (s t : Stock) (c : Commit) (k : ℕ) (r : Result DexelGrid Refusal)
    → ByCauses spec units r → CommitOnAnyGrid r spec s c (refused k) t → is_given k ≡ true
unfolding CommitOnAnyGrid AnswerDue log_commit_causes number
log-given spec units s t c k (Ok g) b p =
    due-given (log_commit_causes spec g ((lent_store spec g).lent s) (¬ SoundStock spec g s)
    (point_sets g (lent_store spec g) s) s.generation c) k refl p.answers
log-given spec units s t c k (Err e) b p =
    subst (λ (x : ℕ). is_given x ≡ true) (same k (number_of e) p.0) (grid-given spec units (number_of e) b)
  where
    same : (k j : ℕ) → refused k ≡ refused j → j ≡ k
    same k j e = ap number (sym e)

pub commit-given : (spec : DexelStockSpec) (units : List ℕ) (s t : Stock) (log : List Float) (allowance : ℕ)
    (work work' : List Float) (e : Refusal) → LogCommitPost spec units s log allowance work (Err e) t work'
    → is_given (number_of e) ≡ true
commit-given spec units s t log allowance work work' e p =
    log-given spec units s t (commit_of log allowance work) (number_of e) p.described p.by p.promise
