-- What is counted is counted in one way, and document 01's order gives one answer: two counts of the same rays are
-- equal, and a set has one sound list, as numbers.
use mathlib.Core.Path.{◌≡◌, refl, sym, ap, ap₂, ◌∙◌, subst, fun_ext}
use mathlib.Core.Bool.{Bool, true}
use mathlib.Core.List.{List, [], ◌∷◌}
use mathlib.Core.Logic.{◌⊎◌, inl, inr}
use Prim.Native.Nat.{ℕ, suc, ◌+◌, ◌/◌, ◌<◌}
use native.Mathlib.Bridge.{le_prop}
use lib.Ieee.{Float}
use Rattle.refusal.proofs.Laws.{due-unique, none-due}
use lib.ListN.{length}
use Rattle.spans.specs.Spans.{All, Double, Point, holds, sound, equal, ListOf}
use Rattle.spans.proofs.Sets.{same_set, same_points, equal-length}
use Rattle.grid.specs.Rays.{ray_count, Ray}
use Rattle.grid.specs.declared.DexelStockSpec.{DexelStockSpec}
use Rattle.grid.specs.declared.DexelGrid.{DexelGrid}
use Rattle.log_model.specs.Logs.{Commit}
use Rattle.log_model.specs.Model.{Sets, Count, none, counted, skipped, sum_over, pair_total, IntervalTotal, Capacity}
use Rattle.log_model.specs.Model.{LogAnswer, changed, refused, log_commit_causes, AnswerDue, Model, model_step, ModelAnswers}
use Rattle.stock.specs.Stock.{Kind, Possible, Certain}

-- the one sound list of a set, as numbers
pub one_list : (s : Float → Bool) (l m : List Float) → ListOf s l → ListOf s m → equal l m ≡ true
one_list s l m a b = same_set l m a.is_sound b.is_sound (λ p _. a.points p ∙ sym (b.points p))

-- a ray is its number
same-ray : (g : DexelGrid) (P : Ray g → Type 0) (i : ℕ) (h k : i < ray_count g) → P (i, h) → P (i, k)
same-ray g P i h k x = subst (λ (z : i < ray_count g). P (i, z)) (le_prop h k) x

pub count-unique : {g : DexelGrid} {P : Ray g → Type 0} {i n m : ℕ} → Count g P i n → Count g P i m → n ≡ m
count-unique none none = refl
count-unique (counted h x t) (counted h' x' t') = ap suc (count-unique t t')
count-unique {g} {P} (counted {i = i} h x t) (skipped h' x' t') = absurd (x' (same-ray g P i h h' x))
count-unique {g} {P} (skipped {i = i} h x t) (counted h' x' t') = absurd (x (same-ray g P i h' h x'))
count-unique (skipped h x t) (skipped h' x' t') = count-unique t t'

-- equal lists have as many pairs in all
pub pairs-same : (g : DexelGrid) (f h : Ray g → Kind → List Float)
    → ((r : Ray g) (k : Kind) → equal (f r k) (h r k) ≡ true) → pair_total g f ≡ pair_total g h
unfolding pair_total
pairs-same g f h s =
    ap (sum_over g)
    (fun_ext λ r. ap₂ (λ (a b : ℕ). a / 2 + b / 2) (equal-length (f r Possible) (h r Possible) (s r Possible))
    (equal-length (f r Certain) (h r Certain) (s r Certain)))

pub intervals-unique : (g : DexelGrid) (s : Sets g) {n m : ℕ} → IntervalTotal g s n → IntervalTotal g s m → n ≡ m
intervals-unique g s a b =
    a.number ∙ pairs-same g a.lists b.lists (λ r k. one_list (s r k) (a.lists r k) (b.lists r k) (a.each r k) (b.each r k))
    ∙ sym b.number

-- two sound lists of doubles with the same points have as many pairs
pub points-pairs : (a b : List Float) → All Double a → All Double b → sound a ≡ true → sound b ≡ true
    → ((p : Float) → Point p → holds a p ≡ holds b p) → length a / 2 ≡ length b / 2
points-pairs a b da db sa sb h = ap (λ (n : ℕ). n / 2) (equal-length a b (same_points a b da db sa sb h))

-- so the number of intervals of lists of doubles is settled by the points alone: other sound lists of doubles with these points have as
-- many pairs
pub intervals-points : (g : DexelGrid) (s : Sets g) {n : ℕ} (a : IntervalTotal g s n) → ((r : Ray g) (k : Kind) → All Double (a.lists r k))
    → (lists : Ray g → Kind → List Float) → ((r : Ray g) (k : Kind) → All Double (lists r k))
    → ((r : Ray g) (k : Kind) → sound (lists r k) ≡ true)
    → ((r : Ray g) (k : Kind) (p : Float) → Point p → holds (lists r k) p ≡ s r k p) → n ≡ pair_total g lists
unfolding pair_total
intervals-points g s a da lists dl sl h =
    a.number ∙ ap (sum_over g) (fun_ext λ r. ap₂ ◌+◌ (same r Possible) (same r Certain))
  where
    same : (r : Ray g) (k : Kind) → length (a.lists r k) / 2 ≡ length (lists r k) / 2
    same r k = points-pairs (a.lists r k) (lists r k) (da r k) (dl r k) (a.each r k).is_sound (sl r k)
        (λ p e. (a.each r k).points p ∙ sym (h r k p e))

only_part : {A U : Type 0} → A ⊎ ⊥ → A ⊎ U
only_part (inl a) = inl a
only_part (inr b) = absurd b

not-either : {A U : Type 0} → ¬ (A ⊎ ⊥) → ¬ U → A ⊎ U → ⊥
not-either n u (inl a) = n (inl a)
not-either n u (inr b) = u b

module _ (spec : DexelStockSpec) (g : DexelGrid) (b : Capacity) where
  pub answer-due-unique : (U : Type 0) (s : Sets g) (n : ℕ) (c : Commit) (v w : LogAnswer) → AnswerDue spec g b U s n c v
      → AnswerDue spec g b U s n c w → v ≡ w
  unfolding AnswerDue
  answer-due-unique U s n c (refused k) (refused j) x y = ap refused (due-unique (log_commit_causes spec g b U s n c) k j x y)
  answer-due-unique U s n c (refused k) (changed j) x y = absurd (none-due (log_commit_causes spec g b U s n c) k y.0 x)
  answer-due-unique U s n c (changed k) (refused j) x y = absurd (none-due (log_commit_causes spec g b U s n c) j x.0 y)
  answer-due-unique U s n c (changed k) (changed j) x y = ap changed (count-unique x.1 y.1)

  -- the model gives one list of answers
  pub modelled-unique : (m : Model g) (cs : List Commit) (vs ws : List LogAnswer) → ModelAnswers spec g b m cs vs
      → ModelAnswers spec g b m cs ws → vs ≡ ws
  unfolding ModelAnswers
  modelled-unique m [] [] [] x y = refl
  modelled-unique m [] [] (w ∷ ws) x y = absurd y
  modelled-unique m [] (v ∷ vs) ws x y = absurd x
  modelled-unique m (c ∷ cs) [] ws x y = absurd x
  modelled-unique m (c ∷ cs) (v ∷ vs) [] x y = absurd y
  modelled-unique m (c ∷ cs) (v ∷ vs) (w ∷ ws) x y =
      let e : v ≡ w = answer-due-unique ⊥ m.sets m.generation c v w x.0 y.0 in
      ap₂ (λ (a : LogAnswer) (l : List LogAnswer). a ∷ l) e
      (modelled-unique (model_step g m c v) cs vs ws x.1
      (subst (λ (a : LogAnswer). ModelAnswers spec g b (model_step g m c a) cs ws) (sym e) y.1))

  -- on a sound store the order is the model's
  pub answer-due-sound : (U : Type 0) → ¬ U → (s : Sets g) (n : ℕ) (c : Commit) (v : LogAnswer)
      → AnswerDue spec g b U s n c v → AnswerDue spec g b ⊥ s n c v
  unfolding AnswerDue
  answer-due-sound U u s n c (refused k) (inl x) = inl x
  answer-due-sound U u s n c (refused k) (inr (x, inl (inl y, e))) = inr (x, inl (inl y, e))
  answer-due-sound U u s n c (refused k) (inr (x, inl (inr y, e))) = absurd (u y)
  answer-due-sound U u s n c (refused k) (inr (x, inr (y, d))) = inr (x, inr ((λ z. y (only_part z)), d))
  answer-due-sound U u s n c (changed k) ((x, (y, d)), e) = ((x, ((λ z. y (only_part z)), d)), e)

  -- and the model's order is that of a sound store
  pub answer-due-unsound : (U : Type 0) → ¬ U → (s : Sets g) (n : ℕ) (c : Commit) (v : LogAnswer)
      → AnswerDue spec g b ⊥ s n c v → AnswerDue spec g b U s n c v
  unfolding AnswerDue
  answer-due-unsound U u s n c (refused k) (inl x) = inl x
  answer-due-unsound U u s n c (refused k) (inr (x, inl (inl y, e))) = inr (x, inl (inl y, e))
  answer-due-unsound U u s n c (refused k) (inr (x, inl (inr y, e))) = absurd y
  answer-due-unsound U u s n c (refused k) (inr (x, inr (y, d))) = inr (x, inr ((λ z. not-either y u z), d))
  answer-due-unsound U u s n c (changed k) ((x, (y, d)), e) = ((x, ((λ z. not-either y u z), d)), e)
