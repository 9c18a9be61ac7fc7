-- The causes of a log commit in document 01's order, and document 01's model of a list of log commits: it keeps two
-- point sets per ray and the generation, and is fed the first stock and the commits alone.
use Rattle.std.specs.Prelude.{◌≡◌, Bool, false, ◌⊎◌, ℕ, zero, suc, ◌+◌, ◌-◌, ◌*◌, ◌/◌, ◌^◌, ◌≤◌, ◌<◌, length, Float}
use mathlib.Core.List.{List, [], ◌∷◌, Memᴰ}
use Rattle.std.proofs.Common.{le_refl, le_of_lt}
use Rattle.refusal.specs.Refusal.{Cause, cause, Due, NoneDue}
use Rattle.spans.specs.Spans.{Point, ListOf, set_minus}
use Rattle.grid.specs.Rays.{ray_count, Ray}
use Rattle.grid.specs.declared.DexelStockSpec.{DexelStockSpec}
use Rattle.grid.specs.declared.DexelGrid.{DexelGrid}
use Rattle.log_model.specs.declared.Entry.{Entry}
use Rattle.log_model.specs.Logs.{entries, WholeLog, work_needed, names_some_ray, removed, Commit}
use Rattle.stock.specs.Stock.{Kind, Possible, Certain}

-- ---- the sets of all rays

-- two point sets for each ray
abbrev pub Sets : DexelGrid → Type 0
Sets g = Ray g → Kind → Float → Bool

-- the sets without the points that a log takes
unfoldable pub sets_after : (g : DexelGrid) → Sets g → List Entry → Sets g
unfolding removed
sets_after g s es r k p = set_minus (s r k) (removed g es r k) p

-- a set of the ray r would change: not all points stay
unfoldable pub RayChanges : (g : DexelGrid) → Sets g → List Entry → Ray g → Type 0
unfolding sets_after
RayChanges g s es r = ¬ ((k : Kind) (p : Float) → Point p → sets_after g s es r k p ≡ s r k p)

-- of the first i rays exactly n have the property P
pub data Count (g : DexelGrid) (P : Ray g → Type 0) : ℕ → ℕ → Type 0 where
  none : Count g P zero zero
  counted : {i n : ℕ} (h : i < ray_count g) → P (i, h) → Count g P i n → Count g P (suc i) (suc n)
  skipped : {i n : ℕ} (h : i < ray_count g) → ¬ P (i, h) → Count g P i n → Count g P (suc i) n

-- the sum of f over the first i rays
unfoldable pub sum_to : (g : DexelGrid) → (Ray g → ℕ) → (i : ℕ) → i ≤ ray_count g → ℕ
sum_to g f zero h = 0
sum_to g f (suc i) h = sum_to g f i (le_of_lt h) + f (i, h)

-- and over all rays
abbrev pub sum_over : (g : DexelGrid) → (Ray g → ℕ) → ℕ
sum_over g f = sum_to g f (ray_count g) (le_refl (ray_count g))

-- the number of all pairs of two lists for each ray
unfoldable pub pair_total : (g : DexelGrid) → (Ray g → Kind → List Float) → ℕ
unfolding sum_to
pair_total g lists = sum_over g (λ r. length (lists r Possible) / 2 + length (lists r Certain) / 2)

-- n is the number of pairs of the sound lists of all sets
pub record IntervalTotal (g : DexelGrid) (s : Sets g) (n : ℕ) : Type 0 where
  pub lists : Ray g → Kind → List Float
  pub each : (r : Ray g) (k : Kind) → ListOf (s r k) (lists r k)
  pub number : n ≡ pair_total g lists

-- ---- causes

-- how many whole records and how many heads the store lends
pub record Capacity : Type 0 where
  pub records : ℕ
  pub heads : ℕ

-- 12: too few records, heads or work pairs
unfoldable pub LogBuffersShort : DexelStockSpec → DexelGrid → Capacity → Commit → Type 0
LogBuffersShort spec g b c =
    (b.records < spec.max_intervals) ⊎ (b.heads < 2 * ray_count g)
    ⊎ (c.work < work_needed spec.max_intervals c.log)

-- 11: part of an entry is over, or the store is not sound
unfoldable pub LogInputBad : Type 0 → Commit → Type 0
LogInputBad Unsound c = (WholeLog c.log → ⊥) ⊎ Unsound

-- 17: an entry that names no ray
unfoldable pub NamesNoRay : DexelGrid → List Entry → Type 0
unfolding names_some_ray
NamesNoRay g es = (e : Entry) × Memᴰ e es × (names_some_ray g e ≡ false)

-- 9: more changed rays than allowed
unfoldable pub TooManyRays : (g : DexelGrid) → Sets g → Commit → Type 0
unfolding RayChanges entries
TooManyRays g s c = (n : ℕ) × Count g (RayChanges g s (entries c.log)) (ray_count g) n × (c.allowance < n)

-- 10: more intervals after the commit than the budget
unfoldable pub TooManyIntervals : DexelStockSpec → (g : DexelGrid) → Sets g → Commit → Type 0
unfolding sets_after entries
TooManyIntervals spec g s c = (n : ℕ) × IntervalTotal g (sets_after g s (entries c.log)) n × (spec.max_intervals < n)

-- Document 01's order for a log commit, on a store that lends b, whose lists hold the sets s, at generation n.
-- `Unsound` says that the store is not sound. The causes 1 to 3 are those of `grid`, which has accepted the
-- description.
unfoldable pub log_commit_causes : DexelStockSpec → (g : DexelGrid) → Capacity → Type 0 → Sets g → ℕ → Commit → List Cause
unfolding LogBuffersShort LogInputBad NamesNoRay TooManyRays TooManyIntervals
log_commit_causes spec g b Unsound s n c =
    cause 12 (LogBuffersShort spec g b c)
    ∷ cause 11 (LogInputBad Unsound c)
    ∷ cause 15 (n ≡ 2 ^ 64 - 1)
    ∷ cause 17 (NamesNoRay g (entries c.log))
    ∷ cause 9 (TooManyRays g s c)
    ∷ cause 10 (TooManyIntervals spec g s c)
    ∷ []

-- an accepted commit answers how many rays changed, a refused one its number
pub data LogAnswer : Type 0 where
  changed refused : ℕ → LogAnswer

-- the answer that the order gives
unfoldable pub AnswerDue : DexelStockSpec → (g : DexelGrid) → Capacity → Type 0 → Sets g → ℕ → Commit → LogAnswer → Type 0
unfolding log_commit_causes Due NoneDue RayChanges
AnswerDue spec g b Unsound s n c (refused k) = Due (log_commit_causes spec g b Unsound s n c) k
AnswerDue spec g b Unsound s n c (changed m) =
    NoneDue (log_commit_causes spec g b Unsound s n c) × Count g (RayChanges g s (entries c.log)) (ray_count g) m

-- ---- the model

-- document 01's model keeps these
pub record Model (g : DexelGrid) : Type 0 where
  pub sets : Sets g
  pub generation : ℕ

-- an accepted log takes its points and adds one to the generation; a refused log changes nothing
unfoldable pub model_step : (g : DexelGrid) → Model g → Commit → LogAnswer → Model g
unfolding sets_after entries
model_step g m c (refused k) = m
model_step g m c (changed n) = record { sets = sets_after g m.sets (entries c.log); generation = suc m.generation }

-- the answers that the model gives to a list of commits, on a store that lends b. Its own stock is always sound.
unfoldable pub ModelAnswers : DexelStockSpec → (g : DexelGrid) → Capacity → Model g → List Commit → List LogAnswer → Type 0
unfolding AnswerDue model_step
ModelAnswers spec g b m [] [] = Unit {0}
ModelAnswers spec g b m [] (a ∷ vs) = ⊥
ModelAnswers spec g b m (c ∷ cs) [] = ⊥
ModelAnswers spec g b m (c ∷ cs) (a ∷ vs) = AnswerDue spec g b ⊥ m.sets m.generation c a
    × ModelAnswers spec g b (model_step g m c a) cs vs

-- the model after the list
unfoldable pub model_after : (g : DexelGrid) → Model g → List Commit → List LogAnswer → Model g
unfolding model_step
model_after g m [] vs = m
model_after g m (c ∷ cs) [] = m
model_after g m (c ∷ cs) (a ∷ vs) = model_after g (model_step g m c a) cs vs

-- the logs that were accepted
unfoldable pub accepted_logs : List Commit → List LogAnswer → List (List Float)
accepted_logs [] vs = []
accepted_logs (c ∷ cs) [] = []
accepted_logs (c ∷ cs) (refused k ∷ vs) = accepted_logs cs vs
accepted_logs (c ∷ cs) (changed n ∷ vs) = c.log ∷ accepted_logs cs vs
