-- A list of log commits as a caller lends it: the logs end to end in one slice, the cell where each ends, and each
-- one's allowance. Two numbers tell each answer: 0 and how many rays changed, or 1 and the refusal's number.
use Rattle.std.specs.Prelude.{◌≡◌, List, [], ◌∷◌, ◌++◌, ℕ, zero, suc, ◌+◌, ◌-◌, ◌*◌, ◌/◌, ◌≤◌, ◌<◌, length, get_or, take, drop, set}
use Rattle.std.specs.Prelude.{Float, Result, Ok, Err}
use Rattle.refusal.specs.Refusal.{NoneDue, number_of}
use Rattle.refusal.specs.declared.Refusal.{Refusal}
use Rattle.grid.specs.Causes.{grid_causes, grid_in}
use Rattle.grid.specs.declared.DexelStockSpec.{DexelStockSpec}
use Rattle.grid.specs.declared.DexelGrid.{DexelGrid}
use Rattle.stock.specs.Stock.{Stock, SoundStock, Kind, ray_list}
use Rattle.spans.specs.Spans.{All, Double}
use Rattle.log_model.specs.Logs.{Commit}
use Rattle.log_model.specs.Model.{LogAnswer, changed, refused}
use Rattle.log_model.specs.Runs.{Run, RunMeetsModel}
use Rattle.log_model.specs.View.{lent_store}
use Rattle.commit_log.specs.LogCommit.{LogCommitPost}

-- the cell where log i begins: where the one before it ends
abbrev pub begin_of : List ℕ → ℕ → ℕ
begin_of ends zero = 0
begin_of ends (suc i) = get_or ends i 0

-- what the caller lends: the logs lie one after the other within their slice, each has an allowance, and each answer two cells
pub record RunLogsPre (logs : List Float) (ends allowances answers : List ℕ) : Type 0 where
  pub ascends : (i : ℕ) → i < length ends → begin_of ends i ≤ get_or ends i 0
  pub within : (i : ℕ) → i < length ends → get_or ends i 0 ≤ length logs
  pub allowed : length ends ≤ length allowances
  pub room : 2 * length ends ≤ length answers

-- the cells of a log
abbrev pub log_from : List Float → (at end : ℕ) → List Float
log_from logs at end = take (end - at) (drop at logs)

-- commit i, with a work buffer of `work` pairs, and the first k commits
abbrev pub commit_at : List Float → (ends allowances : List ℕ) → (work i : ℕ) → Commit
commit_at logs ends allowances work i =
    record { log = log_from logs (begin_of ends i) (get_or ends i 0); allowance = get_or allowances i 0; work = work }

unfoldable pub commits_to : List Float → (ends allowances : List ℕ) → (work k : ℕ) → List Commit
commits_to logs ends allowances work zero = []
commits_to logs ends allowances work (suc k) = commits_to logs ends allowances work k ++ (commit_at logs ends allowances work k ∷ [])

-- an answer by its two numbers, and the first k answers
abbrev pub answer_by : ℕ → ℕ → LogAnswer
answer_by zero n = changed n
answer_by (suc k) n = refused n

unfoldable pub answers_to : List ℕ → ℕ → List LogAnswer
answers_to answers zero = []
answers_to answers (suc k) = answers_to answers k ++ (answer_by (get_or answers (2 * k) 0) (get_or answers (2 * k + 1) 0) ∷ [])

-- the two numbers of an answer
abbrev pub answer_code : Result ℕ Refusal → ℕ
answer_code (Ok n) = 0
answer_code (Err e) = 1

abbrev pub answer_number : Result ℕ Refusal → ℕ
answer_number (Ok n) = n
answer_number (Err e) = number_of e

abbrev pub answered : List ℕ → ℕ → Result ℕ Refusal → List ℕ
answered answers i a = set (set answers (2 * i) (answer_code a)) (2 * i + 1) (answer_number a)

-- one commit of the list, and its answer in its two cells
pub record RunStepPost (spec : DexelStockSpec) (units : List ℕ) (s : Stock) (log : List Float) (allowance : ℕ)
    (work : List Float) (answers : List ℕ) (i : ℕ) (t : Stock) (work' : List Float) (answers' : List ℕ) : Type 0 where
  pub answer : Result ℕ Refusal
  pub commits : LogCommitPost spec units s log allowance work answer t work'
  pub written : answers' ≡ answered answers i answer

-- The first i commits one after the other, whatever the description is: each on the stock, the work buffer and the
-- answers that the one before left
pub data CommitsTo (spec : DexelStockSpec) (units : List ℕ) (logs : List Float) (ends allowances : List ℕ) (s : Stock)
    (work : List Float) (answers : List ℕ) : ℕ → Stock → List Float → List ℕ → Type 0 where
  none : CommitsTo spec units logs ends allowances s work answers 0 s work answers
  more : {i : ℕ} {t u : Stock} {w v : List Float} {ks ls : List ℕ} → CommitsTo spec units logs ends allowances s work answers i t w ks
      → RunStepPost spec units t (log_from logs (begin_of ends i) (get_or ends i 0)) (get_or allowances i 0) w ks i u v ls
      → CommitsTo spec units logs ends allowances s work answers (suc i) u v ls

-- A list of log commits was run from the stock s to the stock t: it is a run of logs, and from a sound stock all that
-- demand 3 says holds of it
pub record RunPost (spec : DexelStockSpec) (g : DexelGrid) (s : Stock) (cs : List Commit) (vs : List LogAnswer) (t : Stock) : Type 0 where
  pub run : Run spec g (lent_store spec g) s cs vs t
  pub meets_model : SoundStock spec g s → RunMeetsModel spec g (lent_store spec g) s cs vs t

-- what holds of the run where the description has no cause, which is where `grid` accepts it
unfoldable pub RunOnGridPost : (spec : DexelStockSpec) (units : List ℕ) → Stock → List Commit → List LogAnswer → Stock → Type 0
RunOnGridPost spec units s cs vs t = NoneDue (grid_causes spec units) → RunPost spec (grid_in spec) s cs vs t

-- ALL OF A RUN: every cell of every buffer, commit by commit, and what demand 3 says of the whole. So a refused description leaves all but
-- the answers (`refused_all` in proofs/Laws), and each list that is left is the only one of doubles with its points (`only_one` there).
pub record RunLogsPost (spec : DexelStockSpec) (units : List ℕ) (logs : List Float) (ends allowances : List ℕ)
    (s : Stock) (work : List Float) (answers : List ℕ) (t : Stock) (work' : List Float) (answers' : List ℕ) : Type 0 where
  pub commits : CommitsTo spec units logs ends allowances s work answers (length ends) t work' answers'
  pub ran : RunOnGridPost spec units s
      (commits_to logs ends allowances (length work / 2) (length ends)) (answers_to answers' (length ends)) t
  -- each end of every list that is left is a double
  pub doubles : (r : ℕ) (k : Kind) → All Double (ray_list spec t.cells r k)
