-- When a record is in use: by its owner, its next, its lo, or else by its hi.
use mathlib.Core.Path.{◌≡◌, refl, sym, ap, ◌∙◌}
use mathlib.Core.Bool.{Bool, true, false, not, ◌&&◌}
use mathlib.Core.List.{List}
use Prim.Native.Nat.{ℕ, ◌+◌}
use native.Mathlib.Numerals.{add-one}
use lib.Dec.{eqb}
use lib.Ieee.{Float}
use borrow.Author.Tests.{eq-eqb, ne_eqb}
use Rattle.store.specs.Store.{is_plus_zero, lo_at, hi_at, next_at, owner_at, used_at}
use Rattle.logic.specs.Logic.{bit, count_to}

last : (a b c : Bool) → not (a && (b && (c && false))) ≡ true
last true true true = refl
last true true false = refl
last true false c = refl
last false b c = refl

third : (a b : Bool) → not (a && (b && false)) ≡ true
third true true = refl
third true false = refl
third false b = refl

module _ (spans : List Float) (links : List ℕ) (i : ℕ) where
  abbrev lo : Bool
  lo = is_plus_zero (lo_at spans i)

  abbrev hi : Bool
  hi = is_plus_zero (hi_at spans i)

  pub used-owner : (owner_at links i ≡ 0 → ⊥) → used_at spans links i ≡ true
  unfolding used_at
  used-owner h = ap (λ (t : Bool). not (lo && (hi && (eqb (next_at links i) 0 && t)))) (ne_eqb (owner_at links i) 0 h)
      ∙ last lo hi (eqb (next_at links i) 0)

  pub used-next : (next_at links i ≡ 0 → ⊥) → used_at spans links i ≡ true
  unfolding used_at
  used-next h = ap (λ (t : Bool). not (lo && (hi && (t && eqb (owner_at links i) 0)))) (ne_eqb (next_at links i) 0 h) ∙ third lo hi

  pub used-lo : is_plus_zero (lo_at spans i) ≡ false → used_at spans links i ≡ true
  unfolding used_at
  used-lo h = ap (λ (t : Bool). not (t && (hi && (eqb (next_at links i) 0 && eqb (owner_at links i) 0)))) h

  pub used-hi : owner_at links i ≡ 0 → next_at links i ≡ 0 → is_plus_zero (lo_at spans i) ≡ true
      → used_at spans links i ≡ not (is_plus_zero (hi_at spans i))
  unfolding used_at
  used-hi o n l = simp (l, eq-eqb (next_at links i) 0 n, eq-eqb (owner_at links i) 0 o) (ap not (right hi))
    where
      right : (t : Bool) → t && true ≡ t
      right true = refl
      right false = refl

-- one place more
pub count-more : (p : ℕ → Bool) (i : ℕ) → count_to p (i + 1) ≡ count_to p i + bit (p i)
unfolding count_to
count-more p i = simp add-one

pub count_next : (p : ℕ → Bool) (i c c' : ℕ) (t : Bool) → c ≡ count_to p i → p i ≡ t → c' ≡ c + bit t → c' ≡ count_to p (i + 1)
count_next p i c c' t e h e' = e' ∙ ap (λ (x : ℕ). x + bit t) e ∙ ap (λ (u : Bool). count_to p i + bit u) (sym h) ∙ sym (count-more p i)
