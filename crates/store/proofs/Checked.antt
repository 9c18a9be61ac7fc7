-- A store is sound exactly where as many records are in use as the total says, and the walk of all lists ends at that count.
use mathlib.Core.Path.{◌≡◌, sym, ap, ◌∙◌}
use mathlib.Core.Bool.{false, false≢true}
use mathlib.Core.List.{List}
use lib.Dec.{eqb}
use borrow.Author.Tests.{eq-eqb, eqb-true}
use Prim.Native.Nat.{ℕ, ◌+◌, ◌≤◌}
use native.Mathlib.Omega.{arith}
use lib.Ieee.{Float}
use lib.ListN.{length}
use Rattle.std.specs.Prelude.{Option, Some, None}
use Rattle.std.specs.Option.{option_eq}
use Rattle.std.proofs.lemmas.Option.{none-some, same_Some}
use Rattle.store.specs.Store.{used_at, chained, ChainsSound, cells}
use Rattle.store.specs.Walks.{walk_all}
use Rattle.store.proofs.Counting.{distinct-le, distinct-full, covers-le, count-max}
use Rattle.store.proofs.Chains.{Run, chained-distinct, chained-pass}
use Rattle.store.proofs.Walking.{AllWalked, all_of, all-to}
use Rattle.logic.specs.Logic.{Decides, count_to}

module _ (n m total : ℕ) (spans : List Float) (links heads : List ℕ) where
  pub sound-of : count_to (used_at spans links) n ≡ total → walk_all links heads n total m 0 0 ≡ Some total
      → ChainsSound n m total (cells spans links heads)
  sound-of same w =
      let all : AllWalked spans links heads n total m 0 0 total =
      all_of spans links heads n total (omega (arith, count-max (used_at spans links) n)) m 0 0 total (omega arith) w in
      let len : length (chained n links heads 0 m) ≡ count_to (used_at spans links) n = omega (arith, all.counted) in
      record {
        chains = λ j h. all.run j (omega arith) (omega arith);
        others = distinct-full (used_at spans links) n (chained n links heads 0 m)
            (chained-distinct spans links heads n 0 m all.run) (chained-pass spans links heads n 0 m all.run) len;
        counts = omega (arith, all.counted);
      }

  run_of : ChainsSound n m total (cells spans links heads) → Run spans links heads n 0 m
  run_of s i lo hi = s.chains i (omega arith)

  pub count_of : ChainsSound n m total (cells spans links heads) → count_to (used_at spans links) n ≡ total
  count_of s =
      let le : length (chained n links heads 0 m) ≤ count_to (used_at spans links) n =
      distinct-le (used_at spans links) n (chained n links heads 0 m)
      (chained-distinct spans links heads n 0 m (run_of s)) (chained-pass spans links heads n 0 m (run_of s)) in
      let ge : count_to (used_at spans links) n ≤ length (chained n links heads 0 m) =
      covers-le (used_at spans links) n (chained n links heads 0 m) s.others in
      omega (arith, s.counts)

  pub walk_of-sound : ChainsSound n m total (cells spans links heads) → walk_all links heads n total m 0 0 ≡ Some total
  walk_of-sound s =
      let sum : 0 + length (chained n links heads 0 m) ≡ total = omega (arith, s.counts) in
      all-to spans links heads n total m 0 0 (run_of s) (omega arith) ∙ ap Some sum

  -- the answers of the check: the count u of records in use differs from the total; or the walk tells
  pub differs : (u : ℕ) → u ≡ count_to (used_at spans links) n → (u ≡ total → ⊥)
      → Decides (ChainsSound n m total (cells spans links heads)) false
  differs u e ne = ((λ z. absurd (false≢true z)), λ s. absurd (ne (e ∙ count_of s)))

  pub told : (u : ℕ) (w : Option ℕ) → u ≡ count_to (used_at spans links) n → u ≡ total → w ≡ walk_all links heads n u m 0 0
      → Decides (ChainsSound n m total (cells spans links heads)) (option_eq eqb w (Some u))
  told u (Some e) eu et w = (
    (λ t. let same : e ≡ u = eqb-true e u t in
        sound-of (sym eu ∙ et) (ap (λ (l : ℕ). walk_all links heads n l m 0 0) (sym et) ∙ sym w ∙ ap Some (same ∙ et))),
    λ s. eq-eqb e u (same_Some _ _ (w ∙ ap (λ (l : ℕ). walk_all links heads n l m 0 0) et ∙ walk_of-sound s) ∙ sym et),
  )
  told u None eu et w = (
    (λ z. absurd (false≢true z)),
    λ s. absurd (none-some _ (w ∙ ap (λ (l : ℕ). walk_all links heads n l m 0 0) et ∙ walk_of-sound s)),
  )
