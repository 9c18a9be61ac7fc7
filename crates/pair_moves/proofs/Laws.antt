-- Lists with the same pairs in another order: what an exchange does, and what every order has in common.
use mathlib.Core.Path.{◌≡◌, refl, ◌∙◌, ap, subst}
use mathlib.Core.List.{List, [], ◌∷◌}
use Prim.Native.Nat.{ℕ, zero, suc, ◌+◌, ◌-◌, ◌*◌, ◌%◌, ◌≤◌, ◌<◌}
use native.Mathlib.Omega.{arith}
use native.Mathlib.Decide.{dec_lt}
use native.Mathlib.Numerals.{add-one}
use lib.ListN.{length, get_or, set, length-set}
use lib.Ieee.{Float, nan}
use Rattle.pair_moves.specs.Pairs.{Rearranged, same, keep, swap, then, SamePairs}

-- ---- two pairs that change places
-- the pair in front of l with the pair at cell q of l
exchange : (l : List Float) (q : ℕ) (a b : Float) → q % 2 ≡ 0 → suc q < length l
    → Rearranged (a ∷ b ∷ l) (get_or l q nan ∷ get_or l (suc q) nan ∷ set (set l q a) (suc q) b)
exchange [] q a b e h = absurd (omega arith)
exchange (c ∷ []) q a b e h = absurd (omega arith)
exchange (c ∷ d ∷ l) zero a b e h = swap
exchange (c ∷ d ∷ l) (suc zero) a b e h = absurd (omega arith)
exchange (c ∷ d ∷ l) (suc (suc q)) a b e h = then swap (then (keep (exchange l q a b (omega arith) (omega arith))) swap)

exchanged : (l : List Float) (p q : ℕ) → p % 2 ≡ 0 → q % 2 ≡ 0 → p < q → suc q < length l
    → Rearranged l (set (set (set (set l p (get_or l q nan)) (suc p) (get_or l (suc q) nan)) q (get_or l p nan)) (suc q) (get_or l (suc p) nan))
exchanged [] p q e f h k = absurd (omega arith)
exchanged (a ∷ []) p q e f h k = absurd (omega arith)
exchanged (a ∷ b ∷ l) p zero e f h k = absurd (omega arith)
exchanged (a ∷ b ∷ l) p (suc zero) e f h k = absurd (omega arith)
exchanged (a ∷ b ∷ l) zero (suc (suc q)) e f h k = exchange l q a b (omega arith) (omega arith)
exchanged (a ∷ b ∷ l) (suc zero) (suc (suc q)) e f h k = absurd (omega arith)
exchanged (a ∷ b ∷ l) (suc (suc p)) (suc (suc q)) e f h k = keep (exchanged l p q (omega arith) (omega arith) (omega arith) (omega arith))

-- a pair put where it stands
pub put_same : (l : List Float) (p : ℕ) → suc p < length l → set (set l p (get_or l p nan)) (suc p) (get_or l (suc p) nan) ≡ l
put_same [] p h = absurd (omega arith)
put_same (a ∷ []) p h = absurd (omega arith)
put_same (a ∷ b ∷ l) zero h = refl
put_same (a ∷ b ∷ l) (suc p) h = ap (λ (m : List Float). a ∷ m) (put_same (b ∷ l) p (omega arith))

-- ---- what the code's stores leave
-- the pair k of l overwritten
abbrev pub put : List Float → ℕ → Float → Float → List Float
put l k x y = set (set l (2 * k) x) (2 * k + 1) y

pub put-length : (l : List Float) (k : ℕ) (x y : Float) → length (put l k x y) ≡ length l
put-length l k x y = length-set (set l (2 * k) x) (2 * k + 1) y ∙ length-set l (2 * k) x

pub swapped : (l : List Float) (i j : ℕ) → i ≤ j → 2 * j + 2 ≤ length l
    → SamePairs l (put (put l i (get_or l (2 * j) nan) (get_or l (2 * j + 1) nan)) j (get_or l (2 * i) nan) (get_or l (2 * i + 1) nan))
swapped l i j h k = record {
  size = put-length (put l i (get_or l (2 * j) nan) (get_or l (2 * j + 1) nan)) j (get_or l (2 * i) nan) (get_or l (2 * i + 1) nan)
      ∙ put-length l i (get_or l (2 * j) nan) (get_or l (2 * j + 1) nan);
  pairs = elim (dec_lt i j) [
    | yes g ↦ rw (add-one (2 * i), add-one (2 * j)) (exchanged l (2 * i) (2 * j) (omega arith) (omega arith) (omega arith) (omega arith))
    | no g ↦ subst (λ (m : ℕ). Rearranged l
        (put (put l m (get_or l (2 * j) nan) (get_or l (2 * j + 1) nan)) j (get_or l (2 * m) nan) (get_or l (2 * m + 1) nan)))
        (equal i j h g)
        (rw (add-one (2 * j), put_same l (2 * j) (omega arith), put_same l (2 * j) (omega arith)) same)
  ];
}
  where
    equal : (i j : ℕ) → i ≤ j → (i < j → ⊥) → j ≡ i
    equal i j h g = omega arith

-- the pair j of l gives way to the pair in front of it: a pair kept aside for j goes there instead
step_down : (l : List Float) (q : ℕ) (x y : Float) → q % 2 ≡ 0 → suc (suc (suc q)) < length l
    → Rearranged (set (set l (suc (suc q)) x) (suc (suc (suc q))) y)
    (set (set (set (set l (suc (suc q)) (get_or l q nan)) (suc (suc (suc q))) (get_or l (suc q) nan)) q x) (suc q) y)
step_down [] q x y e h = absurd (omega arith)
step_down (a ∷ []) q x y e h = absurd (omega arith)
step_down (a ∷ b ∷ []) q x y e h = absurd (omega arith)
step_down (a ∷ b ∷ c ∷ []) q x y e h = absurd (omega arith)
step_down (a ∷ b ∷ c ∷ d ∷ l) zero x y e h = swap
step_down (a ∷ b ∷ c ∷ d ∷ l) (suc zero) x y e h = absurd (omega arith)
step_down (a ∷ b ∷ c ∷ d ∷ l) (suc (suc q)) x y e h = keep (step_down (c ∷ d ∷ l) q x y (omega arith) (omega arith))

-- the pair x, y is kept aside for place j: put there, the pairs are those of the start
pub record Aside (l₀ : List Float) (k j : ℕ) (x y : Float) (l : List Float) : Type 0 where
  pub size : length l ≡ length l₀
  pub most : j ≤ k
  pub pairs : Rearranged l₀ (put l j x y)

pub aside-start : (l : List Float) (k : ℕ) → 2 * k + 2 ≤ length l → Aside l k k (get_or l (2 * k) nan) (get_or l (2 * k + 1) nan) l
aside-start l k h = record { size = refl; most = omega arith; pairs = rw (add-one (2 * k), put_same l (2 * k) (omega arith)) same }

pub aside-step : (l₀ : List Float) (k j : ℕ) (x y : Float) (l : List Float) → 0 < j → 2 * k + 2 ≤ length l₀ → Aside l₀ k j x y l
    → Aside l₀ k (j - 1) x y (put l j (get_or l (2 * j - 2) nan) (get_or l (2 * j - 1) nan))
aside-step l₀ k j x y l pos h s = record {
  size = put-length l j (get_or l (2 * j - 2) nan) (get_or l (2 * j - 1) nan) ∙ s.size;
  most = omega (arith, s.most);
  pairs = then {n = put (put l j (get_or l (2 * j - 2) nan) (get_or l (2 * j - 1) nan)) (j - 1) x y} s.pairs
      (rw (low j pos, high j pos, back j pos, last j pos, at j)
      (step_down l (2 * (j - 1)) x y (omega arith) (omega (arith, s.size, s.most))));
}
  where
    low : (j : ℕ) → 0 < j → 2 * j - 2 ≡ 2 * (j - 1)
    low j h = omega arith

    high : (j : ℕ) → 0 < j → 2 * j - 1 ≡ suc (2 * (j - 1))
    high j h = omega arith

    back : (j : ℕ) → 0 < j → 2 * j + 1 ≡ suc (suc (suc (2 * (j - 1))))
    back j h = omega arith

    last : (j : ℕ) → 0 < j → 2 * j ≡ suc (suc (2 * (j - 1)))
    last j h = omega arith

    at : (j : ℕ) → 2 * (j - 1) + 1 ≡ suc (2 * (j - 1))
    at j = omega arith

pub aside-done : (l₀ : List Float) (k j : ℕ) (x y : Float) (l : List Float) → Aside l₀ k j x y l → SamePairs l₀ (put l j x y)
aside-done l₀ k j x y l s = record { size = put-length l j x y ∙ s.size; pairs = s.pairs }

-- ---- steps one after the other
pub unchanged : (l : List Float) → SamePairs l l
unchanged l = record { size = refl; pairs = same }

pub after : {l m n : List Float} → SamePairs l m → SamePairs m n → SamePairs l n
after s t = record { size = t.size ∙ s.size; pairs = then s.pairs t.pairs }
