-- DEMAND 3: after any run from a sound store everything that `RunMeetsModel` says holds, and two runs that are alike
-- in the hits of their accepted logs leave equal lists and totals. A run follows the model commit by commit, and the
-- model's sets have a closed form, the first sets less the points of all accepted logs: the claims are read off it.
use mathlib.Core.Path.{◌≡◌, refl, sym, ap, ◌∙◌, subst, subst₂, fun_ext}
use mathlib.Core.Bool.{Bool, true, false, not, ◌&&◌, ◌||◌}
use mathlib.Core.List.{List, [], ◌∷◌, ◌++◌}
use mathlib.Core.Logic.{inl, inr, ◌↔◌}
use Prim.Native.Nat.{ℕ, ◌+◌}
use native.Mathlib.Nat.{add-zero, add-suc, suc-add}
use lib.ListN.{length}
use lib.Ieee.{Float}
use Rattle.logic.proofs.Bools.{and_left, and_right, both, not-true, clash, by_cases}
use Rattle.spans.specs.Spans.{holds, equal}
use Rattle.spans.proofs.Sets.{same_points}
use Rattle.grid.specs.declared.DexelStockSpec.{DexelStockSpec}
use Rattle.grid.specs.declared.DexelGrid.{DexelGrid}
use Rattle.log_model.specs.Logs.{inner, outer, InHit, entries, removed, Commit}
use Rattle.log_model.specs.Model.{Sets, Capacity, LogAnswer, changed, refused, Model, model_step, ModelAnswers, model_after}
use Rattle.log_model.specs.Model.{accepted_logs}
use Rattle.log_model.specs.Runs.{StoreView, point_sets, AcceptedEffect, CommitEffect, CommitStep, Run, done, next}
use Rattle.log_model.specs.Runs.{model_start, RunMeetsModel}
use Rattle.log_model.proofs.Hits.{removed_by, removed_by-none, removed_by-more, to_inner, of_inner, to-either, of_either, alike-removed}
use Rattle.log_model.proofs.Unique.{one_list, pairs-same, answer-due-sound, modelled-unique}
use Rattle.log_model.specs.RunCorrect.{Alike, SoundView, StoresAgree, RunCorrect}
use Rattle.grid.specs.Rays.{Ray}
use Rattle.stock.specs.Stock.{Kind, Possible, Certain}

-- ---- Bool

less_none : (x b : Bool) → b ≡ false → x ≡ (x && not b)
less_none true true h = h
less_none true false h = refl
less_none false b h = refl

less-more : (x a b c : Bool) → c ≡ (a || b) → ((x && not a) && not b) ≡ (x && not c)
less-more x a b c h = go x a ∙ ap (λ (z : Bool). x && not z) (sym h)
  where
    go : (x a : Bool) → ((x && not a) && not b) ≡ (x && not (a || b))
    go true true = refl
    go true false = refl
    go false a = refl

-- ---- the model's sets and generation, in closed form

module _ (g : DexelGrid) where
  closed : (m : Model g) (cs : List Commit) (vs : List LogAnswer) (r : Ray g) (k : Kind) (p : Float)
      → (model_after g m cs vs).sets r k p ≡ (m.sets r k p && not (removed_by g (accepted_logs cs vs) r k p))
  unfolding model_after accepted_logs
  closed m [] vs r k p = less_none (m.sets r k p) (removed_by g [] r k p) (removed_by-none g r k p)
  closed m (c ∷ cs) [] r k p = less_none (m.sets r k p) (removed_by g [] r k p) (removed_by-none g r k p)
  closed m (c ∷ cs) (refused n ∷ vs) r k p = closed m cs vs r k p
  closed m (c ∷ cs) (changed n ∷ vs) r k p =
      closed (model_step g m c (changed n)) cs vs r k p
      ∙ less-more (m.sets r k p) (removed g (entries c.log) r k p) (removed_by g (accepted_logs cs vs) r k p)
      (removed_by g (c.log ∷ accepted_logs cs vs) r k p) (removed_by-more g c.log (accepted_logs cs vs) r k p)

  grown : (m : Model g) (cs : List Commit) (vs : List LogAnswer) → (model_after g m cs vs).generation ≡ m.generation
      + length (accepted_logs cs vs)
  unfolding model_after accepted_logs
  grown m [] vs = sym (add-zero m.generation)
  grown m (c ∷ cs) [] = sym (add-zero m.generation)
  grown m (c ∷ cs) (refused n ∷ vs) = grown m cs vs
  grown m (c ∷ cs) (changed n ∷ vs) =
      grown (model_step g m c (changed n)) cs vs ∙ suc-add m.generation (length (accepted_logs cs vs))
      ∙ sym (add-suc m.generation (length (accepted_logs cs vs)))

-- ---- a run follows the model

module _ (spec : DexelStockSpec) (g : DexelGrid) (R : StoreView g) where
  record Follows (b : Capacity) (m : Model g) (cs : List Commit) (vs : List LogAnswer) (t : R.Store) : Type 0 where
    modelled : ModelAnswers spec g b m cs vs
    sets : point_sets g R t ≡ (model_after g m cs vs).sets
    generation : R.generation t ≡ (model_after g m cs vs).generation
    sound : R.Sound t

  -- the store after an accepted log stands for the model's next state
  restart : (s t : R.Store) (c : Commit) (n : ℕ) → AcceptedEffect g R s c t
      → model_start g R t ≡ model_step g (model_start g R s) c (changed n)
  unfolding model_start model_step
  restart s t c n x =
      λ i. record { sets = fun_ext (λ r. fun_ext (λ k. fun_ext (x.exactly r k))) i; generation = x.generation i }

  more : (s t u : R.Store) (c : Commit) (v : LogAnswer) (cs : List Commit) (vs : List LogAnswer) → R.Sound s → CommitStep spec g R s c v t
      → (R.Sound t → Follows (R.lent t) (model_start g R t) cs vs u) → Follows (R.lent s) (model_start g R s) (c ∷ cs) (v ∷ vs) u
  unfolding CommitEffect model_after ModelAnswers model_start
  more s t u c (refused k) cs vs S x f =
      let e : t ≡ s = x.leaves in
      let h = subst (λ (z : R.Store). Follows (R.lent z) (model_start g R z) cs vs u) e (f (subst R.Sound (sym e) S)) in
      record {
        modelled = (
          answer-due-sound spec g (R.lent s) (¬ R.Sound s) (λ n. n S) (point_sets g R s) (R.generation s) c
              (refused k) x.answers,
          h.modelled,
        );
        sets = h.sets;
        generation = h.generation;
        sound = h.sound;
      }
  more s t u c (changed n) cs vs S x f =
      let y : AcceptedEffect g R s c t = x.leaves in
      let h = subst₂ (λ (b : Capacity) (m : Model g). Follows b m cs vs u) y.lent (restart s t c n y) (f y.sound) in
      record {
        modelled = (
          answer-due-sound spec g (R.lent s) (¬ R.Sound s) (λ n. n S) (point_sets g R s) (R.generation s) c
              (changed n) x.answers,
          h.modelled,
        );
        sets = h.sets;
        generation = h.generation;
        sound = h.sound;
      }

  follows : {s t : R.Store} {cs : List Commit} {vs : List LogAnswer} → Run spec g R s cs vs t → R.Sound s
      → Follows (R.lent s) (model_start g R s) cs vs t
  follows {s} done S = record {
    modelled = unfold ModelAnswers in tt;
    sets = unfold model_after model_start in refl;
    generation = unfold model_after model_start in refl;
    sound = S;
  }
  follows (next {s} {t} {u} {c} {a} {cs} {vs} x r) S = more s t u c a cs vs S x (λ T. follows r T)

-- ---- what follows from that

module _ (spec : DexelStockSpec) (g : DexelGrid) (R : StoreView g) (L : SoundView g R) where
  module _ (s : R.Store) (cs : List Commit) (vs : List LogAnswer) (t : R.Store)
      (F : Follows spec g R (R.lent s) (model_start g R s) cs vs t) where
    -- a list holds the points that the model gives it
    points-are : (r : Ray g) (k : Kind) (p : Float) → holds (R.lists t r k) p ≡ (model_after g (model_start g R s) cs vs).sets r k p
    unfolding point_sets
    points-are r k p = ap (λ (z : Sets g). z r k p) F.sets

    holding : (r : Ray g) (k : Kind) (p : Float)
        → holds (R.lists t r k) p ≡ (holds (R.lists s r k) p && not (removed_by g (accepted_logs cs vs) r k p))
    unfolding point_sets model_start
    holding r k p = points-are r k p ∙ closed g (model_start g R s) cs vs r k p

    -- that is exactly those that it first held and that no accepted log removes
    held : (r : Ray g) (k : Kind) (p : Float)
        → (holds (R.lists t r k) p ≡ true)
        ↔ ((holds (R.lists s r k) p ≡ true) × (removed_by g (accepted_logs cs vs) r k p ≡ true → ⊥))
    held r k p =
        let before = holds (R.lists s r k) p in
        let gone = removed_by g (accepted_logs cs vs) r k p in (
          (λ x. (
            and_left before (not gone) (sym (holding r k p) ∙ x),
            λ y. clash gone y (not-true gone (and_right before (not gone) (sym (holding r k p) ∙ x))),
          )),
          (λ x. holding r k p ∙ elim (by_cases gone) [ inl y ↦ absurd (x.1 y) | inr y ↦ both before (not gone) x.0 (ap not y) ]),
        )

    neither : (r : Ray g) (p : Float) → ¬ InHit g (accepted_logs cs vs) r outer p
        → ¬ InHit g (accepted_logs cs vs) r inner p → removed_by g (accepted_logs cs vs) r Certain p ≡ true → ⊥
    neither r p a b x = elim (to-either g r p (accepted_logs cs vs) x) [ inl y ↦ a y | inr y ↦ b y ]

    run-meets-model : RunMeetsModel spec g R s cs vs t
    run-meets-model = record {
      answers = F.modelled;
      no_others = λ bs x. modelled-unique spec g (R.lent s) (model_start g R s) cs bs vs x F.modelled;
      listed = λ r k. record { is_sound = L.sound_list t F.sound r k; points = points-are r k };
      only_list = λ r k l dl dt sl x. same_points l (R.lists t r k) dl dt sl (L.sound_list t F.sound r k)
          (λ p h. x p h ∙ sym (points-are r k p));
      all_pairs = L.all_pairs t F.sound;
      model_generation = F.generation;
      generation = F.generation ∙ unfold model_start in grown g (model_start g R s) cs vs;
      possible_is = λ r p. (
        (λ x. (((held r Possible p).0 x).0, λ y. ((held r Possible p).0 x).1 (of_inner g r p (accepted_logs cs vs) y))),
        (λ x. (held r Possible p).1 (x.0, λ y. x.1 (to_inner g r p (accepted_logs cs vs) y))),
      );
      certain_is = λ r p. (
        (λ x. (
          ((held r Certain p).0 x).0,
          (λ y. ((held r Certain p).0 x).1 (of_either g r p (accepted_logs cs vs) (inl y))),
          (λ y. ((held r Certain p).0 x).1 (of_either g r p (accepted_logs cs vs) (inr y))),
        )),
        (λ x. (held r Certain p).1 (x.0, neither r p x.1 x.2)),
      );
      certain_within = L.within t F.sound;
      nothing_gains = λ r k p x. ((held r k p).0 x).0;
      sound = F.sound;
    }

  module _ (s t u : R.Store) (cs ds : List Commit) (vs ws : List LogAnswer)
      (F : Follows spec g R (R.lent s) (model_start g R s) cs vs t)
      (G : Follows spec g R (R.lent s) (model_start g R s) ds ws u)
      (a : Alike g (accepted_logs cs vs) (accepted_logs ds ws)) where
    same-sets : (r : Ray g) (k : Kind) (p : Float) → holds (R.lists u r k) p ≡ holds (R.lists t r k) p
    same-sets r k p =
        holding s ds ws u G r k p
        ∙ ap (λ (b : Bool). holds (R.lists s r k) p && not b) (sym (alike-removed g (accepted_logs cs vs) (accepted_logs ds ws) a r k p))
        ∙ sym (holding s cs vs t F r k p)

    same : (r : Ray g) (k : Kind) → equal (R.lists t r k) (R.lists u r k) ≡ true
    same r k =
        one_list (holds (R.lists t r k)) (R.lists t r k) (R.lists u r k)
        (record { is_sound = L.sound_list t F.sound r k; points = λ p. refl })
        (record { is_sound = L.sound_list u G.sound r k; points = same-sets r k })

    agree : StoresAgree g R t u
    agree = record {
      same_lists = same;
      same_total = L.all_pairs t F.sound ∙ pairs-same g (R.lists t) (R.lists u) same ∙ sym (L.all_pairs u G.sound);
    }

-- THE THEOREM, for every way to read a store
pub run-correct : (spec : DexelStockSpec) (g : DexelGrid) (R : StoreView g) → SoundView g R → RunCorrect spec g R
run-correct spec g R L = record {
  meets_model = λ s t cs vs S x. run-meets-model spec g R L s cs vs t (follows spec g R x S);
  agrees = λ s t u cs ds vs ws S x y a. agree spec g R L s t u cs ds vs ws (follows spec g R x S) (follows spec g R y S) a;
}

-- a run with one commit more at its end
pub extend : (spec : DexelStockSpec) (g : DexelGrid) (R : StoreView g) {s t u : R.Store} {cs : List Commit}
    {vs : List LogAnswer} {c : Commit} {v : LogAnswer}
    → Run spec g R s cs vs t → CommitStep spec g R t c v u → Run spec g R s (cs ++ c ∷ []) (vs ++ v ∷ []) u
extend spec g R done y = next y done
extend spec g R (next x r) y = next x (extend spec g R r y)
