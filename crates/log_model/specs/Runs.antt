-- What one log commit promises, a run of log commits, and demand 3's claims about a run.
use Rattle.std.specs.Prelude.{◌≡◌, true, List, [], ◌∷◌, ◌↔◌, ℕ, suc, ◌+◌, length, Float}
use Rattle.spans.specs.Spans.{All, Double, Point, holds, sound, equal, ListOf}
use Rattle.grid.specs.declared.DexelStockSpec.{DexelStockSpec}
use Rattle.grid.specs.declared.DexelGrid.{DexelGrid}
use Rattle.log_model.specs.Logs.{outer, inner, InHit, entries, Commit}
use Rattle.log_model.specs.Model.{Sets, sets_after, pair_total, Capacity, LogAnswer, changed, refused, AnswerDue, Model}
use Rattle.log_model.specs.Model.{ModelAnswers, model_after, accepted_logs}
use Rattle.grid.specs.Rays.{Ray}
use Rattle.stock.specs.Stock.{Kind, Possible, Certain}

-- How a store is read: its lists, the two numbers of the small record, what it lends and whether it is sound
pub record StoreView (g : DexelGrid) : Type 1 where
  pub Store : Type 0
  pub lists : Store → Ray g → Kind → List Float
  pub intervals : Store → ℕ
  pub generation : Store → ℕ
  pub lent : Store → Capacity
  pub Sound : Store → Type 0

-- the sets that a store's lists hold
unfoldable pub point_sets : (g : DexelGrid) (R : StoreView g) → R.Store → Sets g
unfolding holds
point_sets g R s r k p = holds (R.lists s r k) p

-- what an accepted log leaves of the store s
pub record AcceptedEffect (g : DexelGrid) (R : StoreView g) (s : R.Store) (c : Commit) (t : R.Store) : Type 0 where
  pub sound : R.Sound t
  pub exactly : (r : Ray g) (k : Kind) (p : Float) → point_sets g R t r k p ≡ sets_after g (point_sets g R s) (entries c.log) r k p
  pub generation : R.generation t ≡ suc (R.generation s)
  pub lent : R.lent t ≡ R.lent s

-- a refused commit leaves the store as it was
unfoldable pub CommitEffect : (g : DexelGrid) (R : StoreView g) → R.Store → Commit → LogAnswer → R.Store → Type 0
CommitEffect g R s c (refused k) t = t ≡ s
CommitEffect g R s c (changed n) t = AcceptedEffect g R s c t

-- ONE LOG COMMIT, from the store s to the store t with the answer a: what the entry's contract promises, whatever s is
pub record CommitStep (spec : DexelStockSpec) (g : DexelGrid) (R : StoreView g) (s : R.Store) (c : Commit)
    (a : LogAnswer) (t : R.Store) : Type 0 where
  pub answers : AnswerDue spec g (R.lent s) (¬ R.Sound s) (point_sets g R s) (R.generation s) c a
  pub leaves : CommitEffect g R s c a t

-- A RUN OF LOGS: each commit on the store as the one before left it
pub data Run (spec : DexelStockSpec) (g : DexelGrid) (R : StoreView g) : R.Store → List Commit → List LogAnswer → R.Store → Type 0 where
  done : {s : R.Store} → Run spec g R s [] [] s
  next : {s t u : R.Store} {c : Commit} {a : LogAnswer} {cs : List Commit} {vs : List LogAnswer}
      → CommitStep spec g R s c a t → Run spec g R t cs vs u → Run spec g R s (c ∷ cs) (a ∷ vs) u

-- the model's start: the sets and the generation of the first stock
unfoldable pub model_start : (g : DexelGrid) (R : StoreView g) → R.Store → Model g
unfolding point_sets
model_start g R s = record { sets = point_sets g R s; generation = R.generation s }

-- DEMAND 3, of a run from the sound store s with the commits cs and the answers vs to the store t
pub record RunMeetsModel (spec : DexelStockSpec) (g : DexelGrid) (R : StoreView g) (s : R.Store) (cs : List Commit)
    (vs : List LogAnswer) (t : R.Store) : Type 0 where
  -- the answers, accepted and refused, are the model's, and the model has no others
  pub answers : ModelAnswers spec g (R.lent s) (model_start g R s) cs vs
  pub no_others : (bs : List LogAnswer) → ModelAnswers spec g (R.lent s) (model_start g R s) cs bs → bs ≡ vs
  -- each list is the one sound list of the model's set
  pub listed : (r : Ray g) (k : Kind) → ListOf ((model_after g (model_start g R s) cs vs).sets r k) (R.lists t r k)
  -- and no other list of doubles is sound and has its points
  pub only_list : (r : Ray g) (k : Kind) (l : List Float) → All Double l → All Double (R.lists t r k) → sound l ≡ true
      → ((p : Float) → Point p → holds l p ≡ (model_after g (model_start g R s) cs vs).sets r k p) → equal l (R.lists t r k) ≡ true
  -- the interval total is the number of all their pairs, the generation the model's
  pub all_pairs : R.intervals t ≡ pair_total g (R.lists t)
  pub model_generation : R.generation t ≡ (model_after g (model_start g R s) cs vs).generation
  -- the same without the model: the generation grows by one for each accepted log
  pub generation : R.generation t ≡ R.generation s + length (accepted_logs cs vs)
  -- possible holds exactly the points it first held that lie in no inner hit of an accepted log
  pub possible_is : (r : Ray g) (p : Float)
      → (holds (R.lists t r Possible) p ≡ true) ↔ ((holds (R.lists s r Possible) p ≡ true) × (¬ InHit g (accepted_logs cs vs) r inner p))
  -- certain holds exactly the points it first held that lie in no outer and no inner hit of an accepted log
  pub certain_is : (r : Ray g) (p : Float)
      → (holds (R.lists t r Certain) p ≡ true)
      ↔ ((holds (R.lists s r Certain) p ≡ true) × (¬ InHit g (accepted_logs cs vs) r outer p) × (¬ InHit g (accepted_logs cs vs) r inner p))
  -- certain lies within possible, and no list gains a point
  pub certain_within : (r : Ray g) (p : Float) → holds (R.lists t r Certain) p ≡ true → holds (R.lists t r Possible) p ≡ true
  pub nothing_gains : (r : Ray g) (k : Kind) (p : Float) → holds (R.lists t r k) p ≡ true → holds (R.lists s r k) p ≡ true
  pub sound : R.Sound t
