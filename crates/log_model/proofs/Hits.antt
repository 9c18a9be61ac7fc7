-- The points that a list of logs takes, by their hits: a point is taken exactly when a hit has it, so logs that are
-- alike in hits take the same points.
use mathlib.Core.Path.{◌≡◌, refl, sym, ap, ◌∙◌, subst}
use mathlib.Core.Bool.{Bool, true, false, cond, ◌&&◌, ◌||◌, false≢true}
use mathlib.Core.List.Memᴰ
use mathlib.Core.List.{List, [], ◌∷◌, Memᴰ}
use mathlib.Core.Logic.{◌⊎◌, inl, inr}
use lib.Ieee.{Float, lt, le, eq}
use Rattle.logic.proofs.Bools.{or_cases, or_left, or_right, and_left, and_right, both, same_if}
use Rattle.doubles.proofs.Order.{le_trans, le_lt_trans, lt-le-trans, eq→le, eq→ge}
use Rattle.spans.specs.Spans.{within, holds}
use Rattle.grid.specs.declared.DexelGrid.{DexelGrid}
use Rattle.log_model.specs.declared.Entry.{Entry}
use Rattle.log_model.specs.Logs.{entries, names_ray, HitKind, outer, inner, hit_lo, hit_hi, hits_on_ray, removed, InHit}
use Rattle.log_model.specs.RunCorrect.{HitsIncluded, Alike}
use Rattle.grid.specs.Rays.{Ray}
use Rattle.stock.specs.Stock.{Kind, Possible, Certain}

-- ---- pairs and points

-- a pair that holds a point has lo < hi, and an equal pair holds it too
pub within-proper : (lo hi p : Float) → within lo hi p ≡ true → lt lo hi ≡ true
within-proper lo hi p t = le_lt_trans lo p hi (and_left (le lo p) (lt p hi) t) (and_right (le lo p) (lt p hi) t)

within_same : (lo hi lo' hi' p : Float) → eq lo lo' ≡ true → eq hi hi' ≡ true → within lo hi p ≡ true → within lo' hi' p ≡ true
within_same lo hi lo' hi' p a b t =
    both (le lo' p) (lt p hi') (le_trans lo' lo p (eq→ge lo lo' a) (and_left (le lo p) (lt p hi) t))
    (lt-le-trans p hi hi' (and_right (le lo p) (lt p hi) t) (eq→le hi hi' b))

-- an entry that takes p, and that names the ray r
record Remover (g : DexelGrid) (es : List Entry) (r : Ray g) (w : HitKind) (p : Float) : Type 0 where
  entry : Entry
  in_log : Memᴰ entry es
  on_ray : names_ray g entry r.0 ≡ true
  does : within (hit_lo w entry) (hit_hi w entry) p ≡ true

module _ (g : DexelGrid) (r : Ray g) (w : HitKind) (p : Float) where
  pub ray-hits-cons : (e : Entry) (es : List Entry) (b : Bool) → names_ray g e r.0 ≡ b
      → holds (hits_on_ray g (e ∷ es) r.0 w) p ≡ (b && within (hit_lo w e) (hit_hi w e) p || holds (hits_on_ray g es r.0 w) p)
  unfolding hits_on_ray holds
  ray-hits-cons e es true h = ap
      (λ (b : Bool). holds (cond b (hit_lo w e ∷ hit_hi w e ∷ hits_on_ray g es r.0 w) (hits_on_ray g es r.0 w)) p) h
  ray-hits-cons e es false h = ap (λ (b : Bool). holds
      (cond b (hit_lo w e ∷ hit_hi w e ∷ hits_on_ray g es r.0 w) (hits_on_ray g es r.0 w)) p) h

  remover : (es : List Entry) → holds (hits_on_ray g es r.0 w) p ≡ true → Remover g es r w p
  unfolding hits_on_ray holds
  remover [] t = absurd (false≢true t)
  remover (e ∷ es) t = go (names_ray g e r.0) refl (remover es)
    where
      later : Remover g es r w p → Remover g (e ∷ es) r w p
      later f = record { entry = f.entry; in_log = Memᴰ.tail f.in_log; on_ray = f.on_ray; does = f.does }

      go : (b : Bool) → names_ray g e r.0 ≡ b → (holds (hits_on_ray g es r.0 w) p ≡ true → Remover g es r w p) → Remover g (e ∷ es) r w p
      go true h f = elim (or_cases (within (hit_lo w e) (hit_hi w e) p) (holds (hits_on_ray g es r.0 w) p)
          (sym (ray-hits-cons e es true h) ∙ t)) [
            | inl u ↦ record { entry = e; in_log = Memᴰ.head refl; on_ray = h; does = u }
            | inr u ↦ later (f u)
          ]
      go false h f = later (f (sym (ray-hits-cons e es false h) ∙ t))

  of-remover : (es : List Entry) (e : Entry) → Memᴰ e es → names_ray g e r.0 ≡ true
      → within (hit_lo w e) (hit_hi w e) p ≡ true → holds (hits_on_ray g es r.0 w) p ≡ true
  of-remover [] e i a b = absurd (Memᴰ.not-nil i)
  of-remover (f ∷ es) e i a b = go (Memᴰ.cases_cons i) (λ j. of-remover es e j a b)
    where
      go : (e ≡ f) ⊎ Memᴰ e es → (Memᴰ e es → holds (hits_on_ray g es r.0 w) p ≡ true)
          → holds (hits_on_ray g (f ∷ es) r.0 w) p ≡ true
      go (inl q) _ =
          ray-hits-cons f es true (subst (λ (x : Entry). names_ray g x r.0 ≡ true) q a)
          ∙ or_left (within (hit_lo w f) (hit_hi w f) p) (holds (hits_on_ray g es r.0 w) p)
          (subst (λ (x : Entry). within (hit_lo w x) (hit_hi w x) p ≡ true) q b)
      go (inr j) more =
          ray-hits-cons f es (names_ray g f r.0) refl
          ∙ or_right (names_ray g f r.0 && within (hit_lo w f) (hit_hi w f) p) (holds (hits_on_ray g es r.0 w) p)
          (more j)

-- ---- lists of logs

-- an outer or an inner pair of the logs holds p
held_by : (g : DexelGrid) → List (List Float) → Ray g → HitKind → Float → Bool
held_by g [] r w p = false
held_by g (l ∷ ls) r w p = holds (hits_on_ray g (entries l) r.0 w) p || held_by g ls r w p

-- the logs take p from the list of kind k
pub removed_by : (g : DexelGrid) → List (List Float) → Ray g → Kind → Float → Bool
removed_by g [] r k p = false
removed_by g (l ∷ ls) r k p = removed g (entries l) r k p || removed_by g ls r k p

pub removed_by-none : (g : DexelGrid) (r : Ray g) (k : Kind) (p : Float) → removed_by g [] r k p ≡ false
unfolding removed_by
removed_by-none g r k p = refl

pub removed_by-more : (g : DexelGrid) (l : List Float) (ls : List (List Float)) (r : Ray g) (k : Kind) (p : Float)
    → removed_by g (l ∷ ls) r k p ≡ (removed g (entries l) r k p || removed_by g ls r k p)
unfolding removed_by
removed_by-more g l ls r k p = refl

by-kinds : (a b c d : Bool) → ((a || b) || (c || d)) ≡ ((a || c) || (b || d))
by-kinds true b c d = refl
by-kinds false true true d = refl
by-kinds false true false d = refl
by-kinds false false c d = refl

module _ (g : DexelGrid) (r : Ray g) (p : Float) where
  from-possible : (ls : List (List Float)) → removed_by g ls r Possible p ≡ held_by g ls r inner p
  unfolding removed_by held_by removed
  from-possible [] = refl
  from-possible (l ∷ ls) = ap (◌||◌ (holds (hits_on_ray g (entries l) r.0 inner) p)) (from-possible ls)

  from-certain : (ls : List (List Float)) → removed_by g ls r Certain p ≡ (held_by g ls r outer p || held_by g ls r inner p)
  unfolding removed_by held_by removed
  from-certain [] = refl
  from-certain (l ∷ ls) =
      ap (◌||◌ (holds (hits_on_ray g (entries l) r.0 outer) p || holds (hits_on_ray g (entries l) r.0 inner) p)) (from-certain ls)
      ∙ by-kinds (holds (hits_on_ray g (entries l) r.0 outer) p) (holds (hits_on_ray g (entries l) r.0 inner) p)
      (held_by g ls r outer p) (held_by g ls r inner p)

  to-hit : (ls : List (List Float)) (w : HitKind) → held_by g ls r w p ≡ true → InHit g ls r w p
  unfolding held_by InHit
  to-hit [] w t = absurd (false≢true t)
  to-hit (l ∷ ls) w t = go (or_cases (holds (hits_on_ray g (entries l) r.0 w) p) (held_by g ls r w p) t) (to-hit ls w)
    where
      go : (holds (hits_on_ray g (entries l) r.0 w) p ≡ true) ⊎ (held_by g ls r w p ≡ true)
          → (held_by g ls r w p ≡ true → InHit g ls r w p) → InHit g (l ∷ ls) r w p
      go (inl u) _ =
          let f = remover g r w p (entries l) u in (
            record {
              log = l;
              entry = f.entry;
              in_logs = Memᴰ.head refl;
              in_log = f.in_log;
              on_ray = f.on_ray;
              proper = within-proper (hit_lo w f.entry) (hit_hi w f.entry) p f.does;
            },
            f.does,
          )
      go (inr u) more =
          let (h, t) = more u in (
            record {
              log = h.log;
              entry = h.entry;
              in_logs = Memᴰ.tail h.in_logs;
              in_log = h.in_log;
              on_ray = h.on_ray;
              proper = h.proper;
            },
            t,
          )

  held_in : (ls : List (List Float)) (w : HitKind) (l : List Float) (e : Entry) → Memᴰ l ls
      → Memᴰ e (entries l) → names_ray g e r.0 ≡ true
      → within (hit_lo w e) (hit_hi w e) p ≡ true → held_by g ls r w p ≡ true
  unfolding held_by
  held_in [] w l e i j a b = absurd (Memᴰ.not-nil i)
  held_in (m ∷ ls) w l e i j a b = go (Memᴰ.cases_cons i) (λ k. held_in ls w l e k j a b)
    where
      go : (l ≡ m) ⊎ Memᴰ l ls → (Memᴰ l ls → held_by g ls r w p ≡ true)
          → (holds (hits_on_ray g (entries m) r.0 w) p || held_by g ls r w p) ≡ true
      go (inl q) _ =
          or_left (holds (hits_on_ray g (entries m) r.0 w) p) (held_by g ls r w p)
          (of-remover g r w p (entries m) e (subst (λ (x : List Float). Memᴰ e (entries x)) q j) a b)
      go (inr k) more = or_right (holds (hits_on_ray g (entries m) r.0 w) p) (held_by g ls r w p) (more k)

  of-hit : (ls : List (List Float)) (w : HitKind) → InHit g ls r w p → held_by g ls r w p ≡ true
  unfolding InHit
  of-hit ls w (h, t) = held_in ls w h.log h.entry h.in_logs h.in_log h.on_ray t

  -- possible loses exactly the points in inner hits
  pub to_inner : (ls : List (List Float)) → removed_by g ls r Possible p ≡ true → InHit g ls r inner p
  to_inner ls t = to-hit ls inner (sym (from-possible ls) ∙ t)

  pub of_inner : (ls : List (List Float)) → InHit g ls r inner p → removed_by g ls r Possible p ≡ true
  of_inner ls x = from-possible ls ∙ of-hit ls inner x

  -- certain loses exactly the points in outer and in inner hits
  pub to-either : (ls : List (List Float)) → removed_by g ls r Certain p ≡ true → InHit g ls r outer p ⊎ InHit g ls r inner p
  to-either ls t = elim (or_cases (held_by g ls r outer p) (held_by g ls r inner p) (sym (from-certain ls) ∙ t)) [
    | inl u ↦ inl (to-hit ls outer u)
    | inr u ↦ inr (to-hit ls inner u)
  ]

  pub of_either : (ls : List (List Float)) → InHit g ls r outer p ⊎ InHit g ls r inner p → removed_by g ls r Certain p ≡ true
  of_either ls (inl x) = from-certain ls ∙ or_left (held_by g ls r outer p) (held_by g ls r inner p) (of-hit ls outer x)
  of_either ls (inr x) = from-certain ls ∙ or_right (held_by g ls r outer p) (held_by g ls r inner p) (of-hit ls inner x)

-- ---- logs that are alike in hits take the same points

module _ (g : DexelGrid) where
  carry : (ls ms : List (List Float)) → HitsIncluded g ls ms → (r : Ray g) (w : HitKind) (p : Float) → InHit g ls r w p → InHit g ms r w p
  unfolding InHit HitsIncluded
  carry ls ms f r w p (h, t) =
      let (i, a, b) = f r w h in
      (i, within_same (hit_lo w h.entry) (hit_hi w h.entry) (hit_lo w i.entry) (hit_hi w i.entry) p a b t)

  included-removed : (ls ms : List (List Float)) → HitsIncluded g ls ms → (r : Ray g) (k : Kind) (p : Float)
      → removed_by g ls r k p ≡ true → removed_by g ms r k p ≡ true
  included-removed ls ms f r Possible p t = of_inner g r p ms (carry ls ms f r inner p (to_inner g r p ls t))
  included-removed ls ms f r Certain p t = of_either g r p ms
      (elim (to-either g r p ls t) [ inl x ↦ inl (carry ls ms f r outer p x) | inr x ↦ inr (carry ls ms f r inner p x) ])

  pub alike-removed : (ls ms : List (List Float)) → Alike g ls ms → (r : Ray g) (k : Kind) (p : Float)
      → removed_by g ls r k p ≡ removed_by g ms r k p
  unfolding Alike
  alike-removed ls ms a r k p = same_if (removed_by g ls r k p) (removed_by g ms r k p)
      (included-removed ls ms a.0 r k p) (included-removed ms ls a.1 r k p)
