-- Which number is due after each test of a log commit: the causes before it are absent, since their tests were
-- passed, and its own is present. 9 and 10 are causes of the point sets; the counts over the lists decide them, since
-- the lists are of doubles.
use mathlib.Core.Path.{◌≡◌, refl, ap₂, ◌∙◌}
use mathlib.Core.Bool.{Bool, true, false, cond, ◌||◌}
use mathlib.Core.List.{List}
use mathlib.Core.Logic.{inl, inr}
use Prim.Native.Nat.{ℕ, ◌-◌, ◌*◌, ◌/◌, ◌^◌, ◌≤◌, ◌<◌, min}
use native.Mathlib.Omega.{arith}
use borrow.Author.Tests.{ltb-true, ltb-false, le-ltb}
use lib.Dec.{ltb}
use lib.ListN.{length}
use lib.Ieee.{Float}
use Rattle.logic.proofs.Bools.{or_cases}
use Rattle.refusal.specs.Refusal.{Due, NoneDue, number_of}
use Rattle.spans.specs.Spans.{ListOf}
use Rattle.grid.specs.Rays.{ray_count, Ray}
use Rattle.grid.specs.declared.DexelStockSpec.{DexelStockSpec}
use Rattle.grid.specs.declared.DexelGrid.{DexelGrid}
use Rattle.stock.specs.Stock.{Stock, SoundStock, is_short, Kind, ray_lists}
use Rattle.log_model.specs.Logs.{entries, WholeLog, work_needed, commit_of}
use Rattle.log_model.specs.Model.{LogBuffersShort, LogInputBad, NamesNoRay, TooManyRays, TooManyIntervals, log_commit_causes}
use Rattle.log_model.specs.Counts.{changed_ray_count, pairs_after}
use Rattle.log_model.specs.Runs.{point_sets}
use Rattle.log_model.specs.View.{lent_store}
use Rattle.log_model.proofs.Decided.{DecidedBy, rays-by, intervals-by}
use Rattle.log_model.proofs.Doubles.{Doubles}
use Rattle.log_model.proofs.View.{lent-laws}
use Rattle.log_entries.specs.Named.{EachNamed}
use Rattle.log_entries.proofs.Places.{each-no}
use Rattle.log_budget.specs.Answer.{budget_number, budget_of}
use Rattle.std.specs.Prelude.{Result, Ok, Err, ⊤}
use Rattle.refusal.specs.declared.Refusal.{Refusal}
use Rattle.refusal.specs.declared.Refusal.TheVariants.{Description, RayLimit, IntervalLimit, Beam, Tool, Chord, VisitBudget, RayBudget}
use Rattle.refusal.specs.declared.Refusal.TheVariants.{IntervalBudget, Unsound, ShortBuffer, Change, BaseGeneration, LastGeneration}
use Rattle.refusal.specs.declared.Refusal.TheVariants.{LogFull, NoRay, Text, Place}
use Rattle.commit_check.specs.Tests.{LogChecked, stock_log_causes, LogCheckPost}
use Rattle.store.specs.Steps.{Room}
use Rattle.log_model.specs.Steps.{WorkRoom}

-- ---- what `budget` says
module _ (a n c l : ℕ) where
  -- the budgets that are kept, and the number that is answered
  pub data Kept (k : ℕ) : Type 0 where
    few_rays_no : ltb a c ≡ true → k ≡ 9 → Kept k
    few_pairs_no : ltb a c ≡ false → ltb n l ≡ true → k ≡ 10 → Kept k
    both : ltb a c ≡ false → ltb n l ≡ false → k ≡ 0 → Kept k

  pub which : (k : ℕ) → k ≡ budget_of a n c l → Kept k
  unfolding budget_of
  which k e = go (ltb a c) refl (ltb n l) refl
    where
      by : (t : Bool) → ltb a c ≡ t → (u : Bool) → ltb n l ≡ u → k ≡ cond t 9 (cond u 10 0)
      by t p u q = e ∙ ap₂ (λ (t u : Bool). cond t 9 (cond u 10 0)) p q

      go : (t : Bool) → ltb a c ≡ t → (u : Bool) → ltb n l ≡ u → Kept k
      go true p u q = few_rays_no p (by true p u q)
      go false p true q = few_pairs_no p q (by false p true q)
      go false p false q = both p q (by false p false q)

-- no refusal has the number 0
not-none : (e : Refusal) → number_of e ≡ 0 → ⊥
not-none Description h = omega arith
not-none RayLimit h = omega arith
not-none IntervalLimit h = omega arith
not-none Beam h = omega arith
not-none Tool h = omega arith
not-none Chord h = omega arith
not-none VisitBudget h = omega arith
not-none RayBudget h = omega arith
not-none IntervalBudget h = omega arith
not-none Unsound h = omega arith
not-none ShortBuffer h = omega arith
not-none Change h = omega arith
not-none BaseGeneration h = omega arith
not-none LastGeneration h = omega arith
not-none LogFull h = omega arith
not-none NoRay h = omega arith
not-none Text h = omega arith
not-none Place h = omega arith

-- ---- the causes one after the other
module _ (spec : DexelStockSpec) (g : DexelGrid) (s : Stock) (log : List Float) (allowance : ℕ) (work : List Float) where
  min-left : (a b n : ℕ) → a < n → min a b < n
  min-left a b n h = omega arith

  min-right : (a b n : ℕ) → b < n → min a b < n
  min-right a b n h = omega arith

  min-both : (a b n : ℕ) → n ≤ a → n ≤ b → min a b < n → ⊥
  min-both a b n h k l = omega arith

  few-cells : is_short spec g s.cells ≡ true → LogBuffersShort spec g ((lent_store spec g).lent s) (commit_of log allowance work)
  unfolding is_short LogBuffersShort
  few-cells h = elim (or_cases (ltb (length s.cells.spans / 2) spec.max_intervals)
      (ltb (length s.cells.links / 2) spec.max_intervals || ltb (length s.cells.heads) (2 * ray_count g)) h) [
        | inl a ↦ inl (min-left (length s.cells.spans / 2) (length s.cells.links / 2) spec.max_intervals (ltb-true _ _ a))
        | inr b ↦ elim (or_cases (ltb (length s.cells.links / 2) spec.max_intervals)
            (ltb (length s.cells.heads) (2 * ray_count g)) b) [
              | inl d ↦ inl (min-right (length s.cells.spans / 2) (length s.cells.links / 2)
                  spec.max_intervals (ltb-true _ _ d))
              | inr d ↦ inr (inl (ltb-true _ _ d))
            ]
      ]

  enough : Room spec.max_intervals (2 * ray_count g) s.cells
      → WorkRoom spec.max_intervals log work
      → ¬ LogBuffersShort spec g ((lent_store spec g).lent s) (commit_of log allowance work)
  unfolding LogBuffersShort
  enough room w (inl h) = min-both (length s.cells.spans / 2) (length s.cells.links / 2)
      spec.max_intervals (omega (arith, room.in_spans)) (omega (arith, room.in_links)) h
  enough room w (inr (inl h)) = omega (arith, room.in_heads)
  enough room w (inr (inr h)) = omega arith

  good : WholeLog log → SoundStock spec g s → ¬ LogInputBad (¬ SoundStock spec g s) (commit_of log allowance work)
  unfolding LogInputBad
  good w sound (inl h) = h w
  good w sound (inr h) = h sound

  -- each list is the sound list of its points
  lists : SoundStock spec g s → (r : Ray g) (k : Kind) → ListOf (point_sets g (lent_store spec g) s r k) (ray_lists spec g s.cells r k)
  unfolding point_sets
  lists sound r k = record { is_sound = (lent-laws spec g).sound_list s sound r k; points = λ p. refl }

  -- the rays that the log changes, and the pairs that it leaves, counted over the lists
  abbrev rays : ℕ
  rays = changed_ray_count g (ray_lists spec g s.cells) (entries log)

  abbrev left : ℕ
  left = pairs_after g (ray_lists spec g s.cells) (entries log)

  module _ (sound : SoundStock spec g s) (d : Doubles g (ray_lists spec g s.cells) (entries log)) where
    over-allowance : DecidedBy (TooManyRays g (point_sets g (lent_store spec g) s) (commit_of log allowance work)) (ltb allowance rays)
    over-allowance = rays-by spec g ((lent_store spec g).lent s) (point_sets g (lent_store spec g) s)
        (ray_lists spec g s.cells) (lists sound) s.generation (commit_of log allowance work) d

    over-budget : DecidedBy (TooManyIntervals spec g (point_sets g (lent_store spec g) s) (commit_of log allowance work))
        (ltb spec.max_intervals left)
    over-budget = intervals-by spec g ((lent_store spec g).lent s) (point_sets g (lent_store spec g) s) (ray_lists spec g s.cells)
        (lists sound) s.generation (commit_of log allowance work) d

  -- 12: too few records, heads or work pairs
  pub short-due : is_short spec g s.cells ≡ true → LogCheckPost spec g s log allowance work (Err ShortBuffer)
  unfolding log_commit_causes Due
  short-due h = inl (few-cells h, refl)

  pub work-due : length work / 2 < work_needed spec.max_intervals log → LogCheckPost spec g s log allowance work (Err ShortBuffer)
  unfolding log_commit_causes Due LogBuffersShort
  work-due h = inl (inr (inr h), refl)

  module _ (room : Room spec.max_intervals (2 * ray_count g) s.cells)
      (w : WorkRoom spec.max_intervals log work) where
    -- 11: part of an entry is over, or the store is not sound
    pub part-due : (WholeLog log → ⊥) → LogCheckPost spec g s log allowance work (Err Unsound)
    unfolding log_commit_causes Due LogInputBad
    part-due h = inr (enough room w, inl (inl h, refl))

    pub unsound-due : (SoundStock spec g s → ⊥) → LogCheckPost spec g s log allowance work (Err Unsound)
    unfolding log_commit_causes Due LogInputBad
    unsound-due h = inr (enough room w, inl (inr h, refl))

    module _ (whole : WholeLog log) (sound : SoundStock spec g s) where
      -- 15: the last generation
      pub last-due : s.generation ≡ 0xffff_ffff_ffff_ffff → LogCheckPost spec g s log allowance work (Err LastGeneration)
      unfolding log_commit_causes Due
      last-due h = inr (enough room w, inr (good whole sound, inl (h, refl)))

      module _ (below : s.generation ≡ 0xffff_ffff_ffff_ffff → ⊥) where
        -- 17: an entry that names no ray
        pub unnamed-due : NamesNoRay g (entries log) → LogCheckPost spec g s log allowance work (Err NoRay)
        unfolding log_commit_causes Due
        unnamed-due h = inr (enough room w, inr (good whole sound, inr (below, inl (h, refl))))

        module _ (named : EachNamed g log) where
          -- 9: more rays change than are allowed
          rays-due : Doubles g (ray_lists spec g s.cells) (entries log) → ltb allowance rays ≡ true
              → Due (stock_log_causes spec g s (commit_of log allowance work)) 9
          unfolding log_commit_causes Due
          rays-due d t = inr (
            enough room w,
            inr (good whole sound, inr (below, inr (each-no g log named, inl ((over-allowance sound d).0 t, refl)))),
          )

          -- 10: more intervals than the budget
          intervals-due : Doubles g (ray_lists spec g s.cells) (entries log) → ltb allowance rays ≡ false
              → ltb spec.max_intervals left ≡ true → Due (stock_log_causes spec g s (commit_of log allowance work)) 10
          unfolding log_commit_causes Due
          intervals-due d t u = inr (
            enough room w,
            inr (
              good whole sound,
              inr (
                below,
                inr (each-no g log named, inr ((over-allowance sound d).1 t, inl ((over-budget sound d).0 u, refl))),
              ),
            ),
          )

          -- the budgets are asked last, so that what they answer is the answer of all tests
          pub by-budget : Doubles g (ray_lists spec g s.cells) (entries log) → s.generation < 2 ^ 64 → (b : Result ⊤ Refusal)
              → budget_number b ≡ budget_of allowance spec.max_intervals rays left → LogCheckPost spec g s log allowance work b
          by-budget d fits (Err e) h = elim (which allowance spec.max_intervals rays left (number_of e) h) [
            | few_rays_no t k ↦ rw k (rays-due d t)
            | few_pairs_no t u k ↦ rw k (intervals-due d t u)
            | both t u k ↦ absurd (not-none e k)
          ]
          by-budget d fits (Ok v) h = elim (which allowance spec.max_intervals rays left 0 h) [
            | few_rays_no t k ↦ absurd (omega (arith, k))
            | few_pairs_no t u k ↦ absurd (omega (arith, k))
            | both t u k ↦ record {
              room = room;
              work_room = w;
              whole = whole;
              sound = sound;
              below = under s.generation fits below;
              named = named;
              few_rays = ltb-false allowance rays t;
              few_pairs = ltb-false spec.max_intervals left u;
            }
          ]
            where
              under : (n : ℕ) → n < 2 ^ 64 → (n ≡ 0xffff_ffff_ffff_ffff → ⊥) → n < 2 ^ 64 - 1
              under n h ne = omega arith

  -- no cause is present where every test is passed
  pub passes_none : Doubles g (ray_lists spec g s.cells) (entries log) → LogChecked spec g s log allowance work
      → NoneDue (stock_log_causes spec g s (commit_of log allowance work))
  unfolding log_commit_causes NoneDue
  passes_none d p = (
    enough p.room p.work_room,
    (
      good p.whole p.sound,
      (
        (λ z. under s.generation p.below z),
        (
          each-no g log p.named,
          (
            (over-allowance p.sound d).1 (le-ltb allowance rays p.few_rays),
            ((over-budget p.sound d).1 (le-ltb spec.max_intervals left p.few_pairs), tt),
          ),
        ),
      ),
    ),
  )
    where
      under : (n : ℕ) → n < 2 ^ 64 - 1 → n ≡ 2 ^ 64 - 1 → ⊥
      under n h e = omega arith
