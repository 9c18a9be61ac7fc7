-- Laws of the walks: a walk ends exactly where there is a chain within its fuel, and then counts it; and the same of all lists together.
use mathlib.Core.Path.{◌≡◌, refl, sym, ap, ◌∙◌, subst}
use mathlib.Core.Bool.{Bool, true, false, cond, ◌&&◌}
use mathlib.Core.List.{List, [], ◌∷◌, ◌++◌}
use Prim.Native.Nat.{ℕ, zero, suc, ◌+◌, ◌-◌, ◌≤◌, ◌<◌}
use native.Mathlib.Nat.{add-zero}
use native.Mathlib.Decide.{ℕ_discrete}
use native.Mathlib.Omega.{arith}
use lib.Dec.{eqb, ltb}
use lib.Ieee.{Float}
use lib.ListN.{length, get_or, length-append}
use borrow.Author.Tests.{ltb-true, lt-ltb, eqb-true, eq-eqb}
use Rattle.logic.proofs.Bools.{and_left, and_right}
use Rattle.std.specs.Prelude.{Option, Some, None, option_and_then}
use Rattle.std.proofs.lemmas.Option.{none-some, same_Some}
use Rattle.store.specs.Store.{next_at, owner_at, RecordChain, ends, more, places_of, chained}
use Rattle.store.specs.Walks.{walk_from, walk_all}
use Rattle.store.proofs.Chains.{places-of, Run, run-head, run-tail}

-- a chain, with its length within the fuel and the count at its end
pub record Walked (links : List ℕ) (n o f c k e : ℕ) : Type 0 where
  pub slots : List ℕ
  pub chain : RecordChain links n o k slots
  pub within : length slots ≤ f
  pub counted : e ≡ c + length slots

module _ (links : List ℕ) (n o : ℕ) where
  pub walk-to : {k : ℕ} {ps : List ℕ} (f c : ℕ) → RecordChain links n o k ps → length ps ≤ f
      → walk_from links n o f c k ≡ Some (c + length ps)
  unfolding walk_from
  walk-to zero c ends h = ap Some (sym (add-zero c))
  walk-to (suc f) c ends h = ap Some (sym (add-zero c))
  walk-to zero c (more i<n own d) h = absurd (omega arith)
  walk-to (suc f) c (more {i} {ps} i<n own d) h =
      let sum : suc c + length ps ≡ c + suc (length ps) = omega arith in
      simp (lt-ltb i n i<n, eq-eqb (owner_at links i) o own) (walk-to {k = next_at links i} f (suc c) d (omega arith) ∙ ap Some sum)

  pub walk_of : (f c k e : ℕ) → walk_from links n o f c k ≡ Some e → Walked links n o f c k e
  unfolding walk_from
  walk_of zero c zero e h =
      record { slots = []; chain = ends; within = omega arith; counted = sym (same_Some _ _ h) ∙ sym (add-zero c) }
  walk_of zero c (suc i) e h = absurd (none-some _ h)
  walk_of (suc f) c zero e h =
      record { slots = []; chain = ends; within = omega arith; counted = sym (same_Some _ _ h) ∙ sym (add-zero c) }
  walk_of (suc f) c (suc i) e h =
      by-test (ltb i n && eqb (owner_at links i) o) refl h
      (λ (w : walk_from links n o f (suc c) (next_at links i) ≡ Some e). walk_of f (suc c) (next_at links i) e w)
    where
      by-test : (t : Bool) → ltb i n && eqb (owner_at links i) o ≡ t
          → cond t (walk_from links n o f (suc c) (next_at links i)) None ≡ Some e
          → (walk_from links n o f (suc c) (next_at links i) ≡ Some e → Walked links n o f (suc c) (next_at links i) e)
          → Walked links n o (suc f) c (suc i) e
      by-test true t w rec =
          let r = rec w in
          record {
            slots = i ∷ r.slots;
            chain = more (ltb-true i n (and_left (ltb i n) (eqb (owner_at links i) o) t))
                (eqb-true (owner_at links i) o (and_right (ltb i n) (eqb (owner_at links i) o) t)) r.chain;
            within = omega (arith, r.within);
            counted = omega (arith, r.counted);
          }
      by-test false t w rec = absurd (none-some _ w)

then-of : (w : Option ℕ) (f : ℕ → Option ℕ) (e : ℕ) → option_and_then f w ≡ Some e → (c : ℕ) × (w ≡ Some c) × (f c ≡ Some e)
then-of (Some c) f e h = (c, refl, h)
then-of None f e h = absurd (none-some _ h)

module _ (spans : List Float) (links heads : List ℕ) (n limit : ℕ) where
  pub record AllWalked (r j c e : ℕ) : Type 0 where
    pub run : Run spans links heads n j r
    pub counted : e ≡ c + length (chained n links heads j r)
    pub within : e ≤ limit

  -- the chain of list j, and those from the next on
  joined : (j r : ℕ) → RecordChain links n (suc j) (get_or heads j 0) (places_of n links heads j)
      → Run spans links heads n (suc j) r → Run spans links heads n j (suc r)
  joined j r here later i lo hi = at (ℕ_discrete i j)
    where
      at : Dec (i ≡ j) → RecordChain links n (suc i) (get_or heads i 0) (places_of n links heads i)
      at (yes e) = subst (λ (x : ℕ). RecordChain links n (suc x) (get_or heads x 0) (places_of n links heads x)) (sym e) here
      at (no ne) = later i (omega (arith, ne)) (omega arith)

  pub all_of : limit ≤ n → (r j c e : ℕ) → c ≤ limit → walk_all links heads n limit r j c ≡ Some e → AllWalked r j c e
  unfolding walk_all chained
  all_of small zero j c e h w =
      let same : c ≡ e = same_Some _ _ w in
      record { run = λ i lo hi. absurd (omega arith); counted = omega arith; within = omega arith }
  all_of small (suc r) j c e h w =
      let t = then-of (walk_from links n (suc j) (limit - c) c (get_or heads j 0)) (walk_all links heads n limit r (suc j)) e w in
      let first = walk_of links n (suc j) (limit - c) c (get_or heads j 0) t.0 t.1 in
      let same : places_of n links heads j ≡ first.slots = places-of links n (suc j) n first.chain (omega (arith, first.within)) in
      let rest = all_of small r (suc j) t.0 e (omega (arith, first.within, first.counted)) t.2 in
      let sum : length (places_of n links heads j ++ chained n links heads (suc j) r)
      ≡ length (places_of n links heads j) + length (chained n links heads (suc j) r) =
      length-append (places_of n links heads j) (chained n links heads (suc j) r) in
      record {
        run = joined j r (subst (λ (l : List ℕ). RecordChain links n (suc j) (get_or heads j 0) l) (sym same) first.chain) rest.run;
        counted = omega (arith, sum, ap length same, first.counted, rest.counted);
        within = rest.within;
      }

  pub all-to : (r j c : ℕ) → Run spans links heads n j r → c + length (chained n links heads j r) ≤ limit
      → walk_all links heads n limit r j c ≡ Some (c + length (chained n links heads j r))
  unfolding walk_all chained
  all-to zero j c run h = ap Some (sym (add-zero c))
  all-to (suc r) j c run h =
      let s : List ℕ = places_of n links heads j in
      let t : List ℕ = chained n links heads (suc j) r in
      let sum : length (s ++ t) ≡ length s + length t = length-append s t in
      let total : c + length s + length t ≡ c + length (s ++ t) = omega arith in
      ap (λ (w : Option ℕ). option_and_then (walk_all links heads n limit r (suc j)) w)
      (walk-to links n (suc j) (limit - c) c (run-head spans links heads n j r run) (omega arith))
      ∙ all-to r (suc j) (c + length s) (run-tail spans links heads n j r run) (omega arith)
      ∙ ap Some total

-- ---- one step of a walk, in the code's terms
module _ (links : List ℕ) (n o limit : ℕ) where
  pub walk_end : (f c k : ℕ) → k ≡ 0 → walk_from links n o f c k ≡ Some c
  unfolding walk_from
  walk_end zero c k e = ap (walk_from links n o zero c) e
  walk_end (suc f) c k e = ap (walk_from links n o (suc f) c) e

  pub walk-full : (c k : ℕ) → limit ≤ c → (k ≡ 0 → ⊥) → walk_from links n o (limit - c) c k ≡ None
  unfolding walk_from
  walk-full c zero h ne = absurd (ne refl)
  walk-full c (suc i) h ne = let none : limit - c ≡ 0 = omega arith in ap (λ (f : ℕ). walk_from links n o f c (suc i)) none

  pub walk_step : (c k : ℕ) → c < limit → (k ≡ 0 → ⊥)
      → walk_from links n o (limit - c) c k
      ≡ cond (ltb (k - 1) n && eqb (owner_at links (k - 1)) o)
      (walk_from links n o (limit - (c + 1)) (c + 1) (next_at links (k - 1))) None
  unfolding walk_from
  walk_step c zero h ne = absurd (ne refl)
  walk_step c (suc i) h ne =
      let fuel : limit - c ≡ suc (limit - (c + 1)) = omega arith in
      let one : suc i - 1 ≡ i = omega arith in
      let next : suc c ≡ c + 1 = omega arith in
      ap (λ (f : ℕ). walk_from links n o f c (suc i)) fuel ∙ simp (one, next)

-- ---- one list of a walk of all, in the code's terms
module _ (links heads : List ℕ) (n limit m : ℕ) where
  all-step : (j c : ℕ) → j < m → walk_all links heads n limit (m - j) j c
      ≡ option_and_then (walk_all links heads n limit (m - (j + 1)) (j + 1))
      (walk_from links n (j + 1) (limit - c) c (get_or heads j 0))
  unfolding walk_all
  all-step j c h =
      let left : m - j ≡ suc (m - (j + 1)) = omega arith in
      let next : suc j ≡ j + 1 = omega arith in
      ap (λ (r : ℕ). walk_all links heads n limit r j c) left
      ∙ ap (λ (o : ℕ). option_and_then (walk_all links heads n limit (m - (j + 1)) o)
      (walk_from links n o (limit - c) c (get_or heads j 0))) next

  pub all-broken : (j c : ℕ) → j < m → walk_from links n (j + 1) (limit - c) c (get_or heads j 0) ≡ None
      → walk_all links heads n limit (m - j) j c ≡ None
  all-broken j c h e = all-step j c h
      ∙ ap (λ (w : Option ℕ). option_and_then (walk_all links heads n limit (m - (j + 1)) (j + 1)) w) e

  pub all-next : (j c e : ℕ) → j < m → walk_from links n (j + 1) (limit - c) c (get_or heads j 0) ≡ Some e
      → walk_all links heads n limit (m - j) j c ≡ walk_all links heads n limit (m - (j + 1)) (j + 1) e
  all-next j c e h w = all-step j c h
      ∙ ap (λ (x : Option ℕ). option_and_then (walk_all links heads n limit (m - (j + 1)) (j + 1)) x) w

  pub all_end : (j c : ℕ) → m ≤ j → walk_all links heads n limit (m - j) j c ≡ Some c
  unfolding walk_all
  all_end j c h = let none : m - j ≡ 0 = omega arith in ap (λ (r : ℕ). walk_all links heads n limit r j c) none
