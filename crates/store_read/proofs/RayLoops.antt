-- One turn and the end of each loop that tests a chain.
use mathlib.Core.Path.{◌≡◌, refl, sym, ap, ◌∙◌}
use mathlib.Core.Bool.{Bool, true, false, ◌&&◌}
use mathlib.Core.List.{List, [], ◌∷◌}
use Prim.Native.Nat.{ℕ, ◌-◌}
use lib.Ieee.{Float, binary64, add, sub, lt, le}
use Rattle.store.specs.Store.{lo_at, hi_at, next_at, list_from}
use Rattle.spans.proofs.Containment.{from-skip, from-stop}
use Rattle.store_read.proofs.Steps.{Step, no-ends}
use Rattle.store_read.specs.Lengths.{length_from}
use Rattle.spans.specs.Containment.{from, covers, contained}
use Rattle.store_read.specs.Steps.{ReachPost}

-- ---- the sum of the pairs' lengths
length-cons : (sum lo hi : Float) (l : List Float) → length_from sum (lo ∷ hi ∷ l) ≡ length_from (add binary64 sum (sub binary64 hi lo)) l
unfolding length_from
length-cons sum lo hi l = refl

length-nil : (sum : Float) → length_from sum [] ≡ sum
unfolding length_from
length-nil sum = refl

pub length-step : {n : ℕ} {spans : List Float} {links : List ℕ} {k : ℕ} → Step n spans links k → (sum : Float)
    → length_from sum (list_from n spans links k)
    ≡ length_from (add binary64 sum (sub binary64 (hi_at spans (k - 1)) (lo_at spans (k - 1))))
    (list_from n spans links (next_at links (k - 1)))
length-step {n} {spans} {links} {k} s sum = ap (length_from sum) s.read
    ∙ length-cons sum (lo_at spans (k - 1)) (hi_at spans (k - 1)) (list_from n spans links (next_at links (k - 1)))

pub length-end : (n : ℕ) (spans : List Float) (links : List ℕ) (k : ℕ) (sum : Float) → k ≡ 0
    → length_from sum (list_from n spans links k) ≡ sum
length-end n spans links k sum e = ap (length_from sum) (no-ends n spans links k e) ∙ length-nil sum

-- ---- `first_reaching`
module _ {n : ℕ} {spans : List Float} {links : List ℕ} {k : ℕ} (x : Float) where
  pub reach_here : Step n spans links k → lt (hi_at spans (k - 1)) x ≡ false
      → list_from n spans links k ≡ from x (list_from n spans links k)
  reach_here s h = s.read ∙ sym
      (from-stop x (lo_at spans (k - 1)) (hi_at spans (k - 1)) (list_from n spans links (next_at links (k - 1))) h)
      ∙ ap (from x) (sym s.read)

  pub reach-later : Step n spans links k → lt (hi_at spans (k - 1)) x ≡ true
      → from x (list_from n spans links k) ≡ from x (list_from n spans links (next_at links (k - 1)))
  reach-later s h = ap (from x) s.read
      ∙ from-skip x (lo_at spans (k - 1)) (hi_at spans (k - 1)) (list_from n spans links (next_at links (k - 1))) h

pub reach-none : (n : ℕ) (spans : List Float) (links : List ℕ) (k : ℕ) (x : Float) → k ≡ 0
    → list_from n spans links k ≡ from x (list_from n spans links k)
unfolding from
reach-none n spans links k x e = no-ends n spans links k e ∙ ap (from x) (sym (no-ends n spans links k e))

-- ---- `reaches_over`
pub over_none : (n : ℕ) (spans : List Float) (links : List ℕ) (r : ℕ) (lo hi : Float) → r ≡ 0
    → false ≡ covers (list_from n spans links r) lo hi
over_none n spans links r lo hi e = sym (ap (λ (l : List Float). covers l lo hi) (no-ends n spans links r e))

module _ {n : ℕ} {spans : List Float} {links : List ℕ} {r : ℕ} (t : Step n spans links r) (lo hi : Float) where
  over : covers (list_from n spans links r) lo hi ≡ (le (lo_at spans (r - 1)) lo && le hi (hi_at spans (r - 1)))
  over = ap (λ (l : List Float). covers l lo hi) t.read

  pub over-both : le (lo_at spans (r - 1)) lo ≡ true → le hi (hi_at spans (r - 1)) ≡ covers (list_from n spans links r) lo hi
  over-both h = sym (over ∙ ap (λ (b : Bool). b && le hi (hi_at spans (r - 1))) h)

  pub over-begin : le (lo_at spans (r - 1)) lo ≡ false → false ≡ covers (list_from n spans links r) lo hi
  over-begin h = sym (over ∙ ap (λ (b : Bool). b && le hi (hi_at spans (r - 1))) h)

-- ---- `sound_within`
module _ {n : ℕ} {spans : List Float} {links : List ℕ} {o k r : ℕ}
    (q : ReachPost n spans links o (hi_at spans (k - 1)) r) (s : Step n spans links k) (c : Bool) where
  inner-pair : contained (list_from n spans links o) (list_from n spans links k)
      ≡ (covers (list_from n spans links r) (lo_at spans (k - 1)) (hi_at spans (k - 1))
      && contained (list_from n spans links r) (list_from n spans links (next_at links (k - 1))))
  unfolding contained
  inner-pair = ap (contained (list_from n spans links o)) s.read
      ∙ ap (λ (l : List Float). covers l (lo_at spans (k - 1)) (hi_at spans (k - 1))
      && contained l (list_from n spans links (next_at links (k - 1)))) (sym q.rest)

  pub lies_out : c ≡ covers (list_from n spans links r) (lo_at spans (k - 1)) (hi_at spans (k - 1)) → c ≡ false
      → contained (list_from n spans links o) (list_from n spans links k) ≡ false
  lies_out e h = inner-pair ∙ ap
      (λ (b : Bool). b && contained (list_from n spans links r) (list_from n spans links (next_at links (k - 1))))
      (sym e ∙ h)

  pub lies_in : c ≡ covers (list_from n spans links r) (lo_at spans (k - 1)) (hi_at spans (k - 1)) → c ≡ true
      → contained (list_from n spans links o) (list_from n spans links k)
      ≡ contained (list_from n spans links r) (list_from n spans links (next_at links (k - 1)))
  lies_in e h = inner-pair ∙ ap (λ (b : Bool). b
      && contained (list_from n spans links r) (list_from n spans links (next_at links (k - 1)))) (sym e ∙ h)

pub all-contained : (n : ℕ) (spans : List Float) (links : List ℕ) (o k : ℕ) → k ≡ 0
    → contained (list_from n spans links o) (list_from n spans links k) ≡ true
unfolding contained
all-contained n spans links o k e = ap (contained (list_from n spans links o)) (no-ends n spans links k e)
