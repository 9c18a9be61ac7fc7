-- The causes of a log commit as tests over the lists of a sound store: 9 by `changed_ray_count`, 10 by `pairs_after`. So
-- each cause is decided before anything is written, and the order always has an answer.
use mathlib.Core.Path.{◌≡◌, refl, sym, ap, ap₂, ◌∙◌, subst, fun_ext}
use mathlib.Core.Bool.{Bool, true, false, cond, not, ◌&&◌, ◌||◌, true≢false, false≢true}
use mathlib.Core.List.Memᴰ
use mathlib.Core.List.{List, [], ◌∷◌, ◌++◌}
use mathlib.Core.Logic.{◌⊎◌, inl, inr, ◌↔◌}
use Prim.Native.Nat.{ℕ, zero, suc, ◌+◌, ◌*◌, ◌/◌, ◌%◌, ◌-◌, ◌^◌, ◌≤◌, ◌<◌}
use native.Mathlib.Nat.{le_refl, le_of_lt, add-zero}
use native.Mathlib.Numerals.{add-one}
use native.Mathlib.Omega.{arith}
use borrow.Author.Tests.{ltb-true, ltb-false, eqb-true, eqb-false}
use lib.Dec.{ltb, eqb}
use lib.ListN.{length}
use lib.Ieee.{Float}
use Rattle.logic.proofs.Bools.{or_cases, or_left, clash, not-true, not-false}
use Rattle.refusal.specs.Refusal.{Cause, Due, NoneDue}
use Rattle.spans.specs.Spans.{All, Double, Point, within, holds, sound, ListOf}
use Rattle.spans.proofs.Points.{or_assoc}
use Rattle.grid.specs.Rays.{ray_count, Ray}
use Rattle.grid.specs.declared.DexelStockSpec.{DexelStockSpec}
use Rattle.grid.specs.declared.DexelGrid.{DexelGrid}
use Rattle.log_model.specs.declared.Entry.{Entry}
use Rattle.log_model.specs.Logs.{entries, work_needed, names_some_ray, names_ray, HitKind, outer, inner, hit_lo}
use Rattle.log_model.specs.Logs.{hit_hi, hits_on_ray, removed, Commit}
use Rattle.log_model.specs.Model.{Sets, sets_after, RayChanges, Count, none, counted, skipped, sum_to, sum_over, pair_total}
use Rattle.log_model.specs.Model.{IntervalTotal, Capacity, LogBuffersShort, LogInputBad, NamesNoRay, TooManyRays}
use Rattle.log_model.specs.Model.{TooManyIntervals, log_commit_causes, LogAnswer, changed, refused, AnswerDue}
use Rattle.log_model.specs.Counts.{is_hit_by, starts_left, hits_on_list, is_ray_changed, changed_ray_count, pairs_after}
use Rattle.log_model.proofs.Unique.{count-unique, intervals-unique, intervals-points}
use Rattle.log_model.proofs.Meets.{kept-unhit, unhit-points}
use Rattle.log_model.proofs.Starts.{pairs-left}
use Rattle.log_model.proofs.Less.{less, less-list, same-list}
use Rattle.log_model.proofs.Doubles.{Doubles, less-doubles}
use Rattle.stock.specs.Stock.{Kind, Possible, Certain}
use Rattle.log_model.specs.Steps.{is_whole_log}

-- ---- the points that a log takes, as those of one flat list

module _ (g : DexelGrid) (r : Ray g) where
  ray-hits-append : (es : List Entry) (w : HitKind) (m : List Float) (p : Float)
      → holds (hits_on_ray g es r.0 w ++ m) p ≡ (holds (hits_on_ray g es r.0 w) p || holds m p)
  unfolding hits_on_ray holds
  ray-hits-append [] w m p = refl
  ray-hits-append (e ∷ es) w m p = go (names_ray g e r.0) (ray-hits-append es w m p)
    where
      go : (b : Bool) → holds (hits_on_ray g es r.0 w ++ m) p ≡ (holds (hits_on_ray g es r.0 w) p || holds m p)
          → holds (cond b (hit_lo w e ∷ hit_hi w e ∷ hits_on_ray g es r.0 w) (hits_on_ray g es r.0 w) ++ m) p
          ≡ (holds (cond b (hit_lo w e ∷ hit_hi w e ∷ hits_on_ray g es r.0 w) (hits_on_ray g es r.0 w)) p || holds m p)
      go true f = ap (◌||◌ (within (hit_lo w e) (hit_hi w e) p)) f
          ∙ sym (or_assoc (within (hit_lo w e) (hit_hi w e) p) (holds (hits_on_ray g es r.0 w) p) (holds m p))
      go false f = f

  pub removed-hits : (es : List Entry) (k : Kind) (p : Float) → removed g es r k p ≡ holds (hits_on_list g es r k) p
  unfolding removed hits_on_list
  removed-hits es Possible p = refl
  removed-hits es Certain p = sym (ray-hits-append es outer (hits_on_ray g es r.0 inner) p)

  pub sets-after-hits : (s : Sets g) (es : List Entry) (k : Kind) (p : Float)
      → sets_after g s es r k p ≡ (s r k p && not (holds (hits_on_list g es r k) p))
  unfolding sets_after
  sets-after-hits s es k p = ap (λ (b : Bool). s r k p && not b) (removed-hits es k p)

-- ---- a test that decides

abbrev pub DecidedBy : Type 0 → Bool → Type 0
DecidedBy P b = (b ≡ true → P) × (b ≡ false → ¬ P)

pub not_left : (a b : Bool) → (a || b) ≡ false → a ≡ false
not_left true b h = h
not_left false b h = refl

pub not_right : (a b : Bool) → (a || b) ≡ false → b ≡ false
not_right true b h = absurd (true≢false h)
not_right false b h = h

either : {P Q : Type 0} (a b : Bool) → DecidedBy P a → DecidedBy Q b → DecidedBy (P ⊎ Q) (a || b)
either a b (x, y) (u, v) = (
  (λ h. elim (or_cases a b h) [ inl k ↦ inl (x k) | inr k ↦ inr (u k) ]),
  (λ h z. elim z [ inl p ↦ y (not_left a b h) p | inr q ↦ v (not_right a b h) q ]),
)

less-than : (a b : ℕ) → DecidedBy (a < b) (ltb a b)
less-than a b = (ltb-true a b, λ h k. no a b (ltb-false a b h) k)
  where
    no : (a b : ℕ) → b ≤ a → a < b → ⊥
    no a b h k = omega arith

-- ---- 17

-- an entry names no ray
unfoldable pub unnamed : DexelGrid → List Entry → Bool
unfolding names_some_ray
unnamed g [] = false
unnamed g (e ∷ es) = not (names_some_ray g e) || unnamed g es

pub no-ray : (g : DexelGrid) (es : List Entry) → DecidedBy (NamesNoRay g es) (unnamed g es)
unfolding unnamed NamesNoRay
no-ray g [] = ((λ h. absurd (false≢true h)), λ h x. Memᴰ.not-nil x.1)
no-ray g (e ∷ es) = (some (no-ray g es), all (no-ray g es))
  where
    some : DecidedBy (NamesNoRay g es) (unnamed g es) → (not (names_some_ray g e) || unnamed g es) ≡ true → NamesNoRay g (e ∷ es)
    some d h = elim (or_cases (not (names_some_ray g e)) (unnamed g es) h) [
      | inl u ↦ (e, Memᴰ.head refl, not-true (names_some_ray g e) u)
      | inr u ↦ let (f, i, n) = d.0 u in (f, Memᴰ.tail i, n)
    ]

    all : DecidedBy (NamesNoRay g es) (unnamed g es) → (not (names_some_ray g e) || unnamed g es) ≡ false → NamesNoRay g (e ∷ es) → ⊥
    all d h (f, i, n) = elim (Memᴰ.cases_cons i) [
      | inl q ↦ absurd (clash (not (names_some_ray g e) || unnamed g es)
          (or_left (not (names_some_ray g e)) (unnamed g es) (ap not (ap (names_some_ray g) (sym q) ∙ n))) h)
      | inr j ↦ d.1 (not_right (not (names_some_ray g e)) (unnamed g es) h) (f, j, n)
    ]

-- ---- 9 and 10

-- a property of rays that a test decides is counted by a sum
pub count_by : (g : DexelGrid) (P : Ray g → Type 0) (test : Ray g → Bool) → ((r : Ray g) → DecidedBy (P r) (test r))
    → (i : ℕ) (h : i ≤ ray_count g)
    → Count g P i (sum_to g (λ r. cond (test r) 1 0) i h)
unfolding sum_to
count_by g P test d zero h = none
count_by g P test d (suc i) h = go (test (i, h)) refl (sum_to g (λ r. cond (test r) 1 0) i (le_of_lt h)) (count_by g P test d i (le_of_lt h))
  where
    go : (b : Bool) → test (i, h) ≡ b → (n : ℕ) → Count g P i n → Count g P (suc i) (n + cond b 1 0)
    go true t n c = subst (λ (m : ℕ). Count g P (suc i) m) (sym (add-one n)) (counted h ((d (i, h)).0 t) c)
    go false t n c = subst (λ (m : ℕ). Count g P (suc i) m) (sym (add-zero n)) (skipped h ((d (i, h)).1 t) c)

module _ (g : DexelGrid) (s : Sets g) (lists : Ray g → Kind → List Float)
    (each : (r : Ray g) (k : Kind) → ListOf (s r k) (lists r k)) (es : List Entry) where
  -- a set stays exactly when no hit has a point of its list
  pub stays : (r : Ray g) (k : Kind)
      → ((p : Float) → sets_after g s es r k p ≡ s r k p) ↔ (is_hit_by (lists r k) (hits_on_list g es r k) ≡ false)
  stays r k =
      let law = kept-unhit (lists r k) (hits_on_list g es r k) (each r k).is_sound in (
        (λ f. law.0 (λ p. ap (λ (b : Bool). b && not (holds (hits_on_list g es r k) p)) ((each r k).points p)
            ∙ sym (sets-after-hits g r s es k p) ∙ f p ∙ sym ((each r k).points p))),
        (λ h p. sets-after-hits g r s es k p
            ∙ ap (λ (b : Bool). b && not (holds (hits_on_list g es r k) p)) (sym ((each r k).points p)) ∙ law.1 h p
            ∙ (each r k).points p),
      )

  -- the same where the ends of the lists and of the hits are doubles, by the points alone
  module _ (d : Doubles g lists es) where
    stays-points : (r : Ray g) (k : Kind) → ((p : Float) → Point p → sets_after g s es r k p ≡ s r k p)
        → is_hit_by (lists r k) (hits_on_list g es r k) ≡ false
    stays-points r k f = unhit-points (lists r k) (hits_on_list g es r k) (each r k).is_sound (d.of_lists r k) (d.of_hits r k)
        (λ p h. ap (λ (b : Bool). b && not (holds (hits_on_list g es r k) p)) ((each r k).points p)
        ∙ sym (sets-after-hits g r s es k p) ∙ f p h ∙ sym ((each r k).points p))

    pub changes-by : (r : Ray g) → DecidedBy (RayChanges g s es r) (is_ray_changed g lists es r)
    unfolding RayChanges is_ray_changed
    changes-by r = (
      (λ h f. elim (or_cases (is_hit_by (lists r Possible) (hits_on_list g es r Possible))
          (is_hit_by (lists r Certain) (hits_on_list g es r Certain)) h) [
            | inl u ↦ clash (is_hit_by (lists r Possible) (hits_on_list g es r Possible)) u (stays-points r Possible (f Possible))
            | inr u ↦ clash (is_hit_by (lists r Certain) (hits_on_list g es r Certain)) u (stays-points r Certain (f Certain))
          ]),
      (λ h n. n (λ k p _. elim k as (λ (k : Kind). sets_after g s es r k p ≡ s r k p) [
        | Possible ↦ (stays r Possible).1
            (not_left (is_hit_by (lists r Possible) (hits_on_list g es r Possible))
            (is_hit_by (lists r Certain) (hits_on_list g es r Certain)) h) p
        | Certain ↦ (stays r Certain).1
            (not_right (is_hit_by (lists r Possible) (hits_on_list g es r Possible))
            (is_hit_by (lists r Certain) (hits_on_list g es r Certain)) h) p
      ])),
    )

    pub rays-counted : Count g (RayChanges g s es) (ray_count g) (changed_ray_count g lists es)
    unfolding changed_ray_count
    rays-counted = count_by g (RayChanges g s es) (is_ray_changed g lists es) changes-by (ray_count g) (le_refl (ray_count g))

  -- the sound lists of the sets as they would be
  pub sets-after-list : (r : Ray g) (k : Kind) → ListOf (sets_after g s es r k) (less (lists r k) (hits_on_list g es r k))
  sets-after-list r k =
      same-list (λ p. s r k p && not (holds (hits_on_list g es r k) p)) (sets_after g s es r k) (less (lists r k) (hits_on_list g es r k))
      (λ p. sym (sets-after-hits g r s es k p)) (less-list (s r k) (lists r k) (hits_on_list g es r k) (each r k))

  -- and whichever they are, their number of pairs
  one-count : (r : Ray g) (k : Kind) → length (less (lists r k) (hits_on_list g es r k)) / 2 ≡ starts_left (lists r k) (hits_on_list g es r k)
  one-count r k =
      pairs-left (lists r k) (hits_on_list g es r k) (less (lists r k) (hits_on_list g es r k)) (each r k).is_sound
      (same-list (sets_after g s es r k) (λ p. holds (lists r k) p && not (holds (hits_on_list g es r k) p))
      (less (lists r k) (hits_on_list g es r k))
      (λ p. sets-after-hits g r s es k p
      ∙ ap (λ (b : Bool). b && not (holds (hits_on_list g es r k) p)) (sym ((each r k).points p))) (sets-after-list r k))

  pub intervals-counted : IntervalTotal g (sets_after g s es) (pairs_after g lists es)
  unfolding pairs_after pair_total
  intervals-counted = record {
    lists = λ r k. less (lists r k) (hits_on_list g es r k);
    each = sets-after-list;
    number = ap (sum_over g) (fun_ext (λ r. ap₂ ◌+◌ (sym (one-count r Possible)) (sym (one-count r Certain))));
  }

  -- where the ends of the lists and of the hits are doubles, the points alone settle this number: whichever sound lists of doubles have
  -- the points of the sets as they would be, it is the number of their pairs
  pub interval-total-is : Doubles g lists es → {n : ℕ} → IntervalTotal g (sets_after g s es) n
      → (others : Ray g → Kind → List Float) → ((r : Ray g) (k : Kind) → All Double (others r k))
      → ((r : Ray g) (k : Kind) → sound (others r k) ≡ true)
      → ((r : Ray g) (k : Kind) (p : Float) → Point p → holds (others r k) p ≡ sets_after g s es r k p)
      → n ≡ pair_total g others
  unfolding intervals-counted
  interval-total-is d a others e o h =
      intervals-unique g (sets_after g s es) a intervals-counted
      ∙ intervals-points g (sets_after g s es) intervals-counted
      (λ r k. less-doubles (lists r k) (hits_on_list g es r k) (d.of_lists r k) (d.of_hits r k)) others e o h

-- ---- the order

-- each test decides its cause
abbrev pub AllDecided : List Cause → List Bool → Type 0
AllDecided [] [] = Unit {0}
AllDecided [] (b ∷ bs) = ⊥
AllDecided (c ∷ cs) [] = ⊥
AllDecided (c ∷ cs) (b ∷ bs) = DecidedBy c.present b × AllDecided cs bs

-- the number of the first cause whose test is passed, or else the other answer
unfoldable pub answer_of_tests : List Cause → List Bool → LogAnswer → LogAnswer
answer_of_tests [] bs a = a
answer_of_tests (c ∷ cs) [] a = a
answer_of_tests (c ∷ cs) (b ∷ bs) a = cond b (refused c.number) (answer_of_tests cs bs a)

pub due-by : (cs : List Cause) (bs : List Bool) (a : LogAnswer) → AllDecided cs bs
    → ((k : ℕ) × (answer_of_tests cs bs a ≡ refused k) × Due cs k) ⊎ ((answer_of_tests cs bs a ≡ a) × NoneDue cs)
unfolding answer_of_tests Due NoneDue
due-by [] [] a d = inr (refl, tt)
due-by [] (b ∷ bs) a d = absurd d
due-by (c ∷ cs) [] a d = absurd d
due-by (c ∷ cs) (true ∷ bs) a d = inl (c.number, refl, inl (d.0.0 refl, refl))
due-by (c ∷ cs) (false ∷ bs) a d = elim (due-by cs bs a d.1) [
  | inl (k, e, x) ↦ inl (k, e, inr (d.0.1 refl, x))
  | inr (e, x) ↦ inr (e, (d.0.1 refl, x))
]

module _ (spec : DexelStockSpec) (g : DexelGrid) (b : Capacity) where
  -- the causes of the order on a sound store with these lists, each as its test
  unfoldable pub tests : (Ray g → Kind → List Float) → ℕ → Commit → List Bool
  unfolding changed_ray_count pairs_after unnamed entries
  tests lists n c =
      (ltb b.records spec.max_intervals
      || (ltb b.heads (2 * ray_count g) || ltb c.work (work_needed spec.max_intervals c.log)))
      ∷ not (is_whole_log c.log)
      ∷ eqb n (2 ^ 64 - 1)
      ∷ unnamed g (entries c.log)
      ∷ ltb c.allowance (changed_ray_count g lists (entries c.log))
      ∷ ltb spec.max_intervals (pairs_after g lists (entries c.log))
      ∷ []

  module _ (s : Sets g) (lists : Ray g → Kind → List Float)
      (each : (r : Ray g) (k : Kind) → ListOf (s r k) (lists r k)) (n : ℕ) (c : Commit)
      (d : Doubles g lists (entries c.log)) where
    short-by : DecidedBy (LogBuffersShort spec g b c)
        (ltb b.records spec.max_intervals
        || (ltb b.heads (2 * ray_count g) || ltb c.work (work_needed spec.max_intervals c.log)))
    unfolding LogBuffersShort
    short-by =
        either (ltb b.records spec.max_intervals)
        (ltb b.heads (2 * ray_count g) || ltb c.work (work_needed spec.max_intervals c.log))
        (less-than b.records spec.max_intervals)
        (either (ltb b.heads (2 * ray_count g)) (ltb c.work (work_needed spec.max_intervals c.log))
        (less-than b.heads (2 * ray_count g))
        (less-than c.work (work_needed spec.max_intervals c.log)))

    bad-by : DecidedBy (LogInputBad ⊥ c) (not (is_whole_log c.log))
    unfolding LogInputBad
    bad-by = (
      (λ h. inl (eqb-false (length c.log % 6) 0 (not-true (is_whole_log c.log) h))),
      (λ h x. elim x [ inl y ↦ y (eqb-true (length c.log % 6) 0 (not-false (is_whole_log c.log) h)) | inr y ↦ y ]),
    )

    -- 9 is present exactly when the count is above the allowance
    pub rays-by : DecidedBy (TooManyRays g s c) (ltb c.allowance (changed_ray_count g lists (entries c.log)))
    unfolding TooManyRays
    rays-by =
        let x = rays-counted g s lists each (entries c.log) d in
        let d = less-than c.allowance (changed_ray_count g lists (entries c.log)) in (
          (λ h. (changed_ray_count g lists (entries c.log), x, d.0 h)),
          (λ h y. d.1 h (subst (λ (m : ℕ). c.allowance < m) (count-unique y.1 x) y.2)),
        )

    -- 10 is present exactly when the count is above the budget
    pub intervals-by : DecidedBy (TooManyIntervals spec g s c) (ltb spec.max_intervals (pairs_after g lists (entries c.log)))
    unfolding TooManyIntervals
    intervals-by =
        let x = intervals-counted g s lists each (entries c.log) in
        let d = less-than spec.max_intervals (pairs_after g lists (entries c.log)) in (
          (λ h. (pairs_after g lists (entries c.log), x, d.0 h)),
          (λ h y. d.1 h (subst (λ (m : ℕ). spec.max_intervals < m)
              (intervals-unique g (sets_after g s (entries c.log)) y.1 x) y.2)),
        )

    all-decided : AllDecided (log_commit_causes spec g b ⊥ s n c) (tests lists n c)
    unfolding log_commit_causes tests
    all-decided = (
      short-by,
      (
        bad-by,
        ((eqb-true n (2 ^ 64 - 1), eqb-false n (2 ^ 64 - 1)), (no-ray g (entries c.log), (rays-by, (intervals-by, tt)))),
      ),
    )

    -- the order's answer, worked out
    pub answer-due : AnswerDue spec g b ⊥ s n c
        (answer_of_tests (log_commit_causes spec g b ⊥ s n c) (tests lists n c) (changed (changed_ray_count g lists (entries c.log))))
    unfolding AnswerDue
    answer-due = elim (due-by (log_commit_causes spec g b ⊥ s n c) (tests lists n c)
        (changed (changed_ray_count g lists (entries c.log))) all-decided) [
          | inl (k, e, x) ↦ subst (λ (a : LogAnswer). AnswerDue spec g b ⊥ s n c a) (sym e) x
          | inr (e, x) ↦ subst (λ (a : LogAnswer). AnswerDue spec g b ⊥ s n c a) (sym e)
              (x, rays-counted g s lists each (entries c.log) d)
        ]
