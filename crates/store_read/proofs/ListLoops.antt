-- One turn and the end of each loop that reads a chain.
use mathlib.Core.Path.{◌≡◌, refl, sym, ap, ◌∙◌}
use mathlib.Core.Bool.{Bool, true, false, ◌&&◌}
use mathlib.Core.List.{List, [], ◌∷◌}
use Prim.Native.Nat.{ℕ, zero, suc, ◌+◌, ◌-◌, ◌≤◌, ◌<◌}
use native.Mathlib.Numerals.{add-one}
use native.Mathlib.Omega.{arith}
use lib.Dec.{eqb}
use lib.Ieee.{Float, nan, eq, ne}
use lib.ListN.{length, get_or, set, drop, length-drop}
use lib.Seq.{sets, sets-eq, drop-cons}
use borrow.Author.Tests.{eq-eqb, ne_eqb, eqb-true}
use Rattle.logic.proofs.Bools.{same_if, and-false, not-true, not-false}
use Rattle.spans.specs.Spans.{equal}
use Rattle.store.specs.Store.{lo_at, hi_at, next_at, list_from}
use Rattle.store_read.specs.Reading.{ReadListPost}
use Rattle.store_read.proofs.Steps.{Step, no-ends}

-- ---- `read_list`: the cells from t on get the rest of the list
pub copy_step : {n : ℕ} {spans : List Float} {links : List ℕ} {k : ℕ} → Step n spans links k → (out : List Float) (t : ℕ)
    → sets out t (list_from n spans links k) ≡ sets (set (set out t (lo_at spans (k - 1))) (t + 1) (hi_at spans (k - 1)))
    (t + 2) (list_from n spans links (next_at links (k - 1)))
copy_step {n} {spans} {links} {k} s out t =
    let two : suc (suc t) ≡ t + 2 = omega arith in
    ap (sets out t) s.read
    ∙ ap (λ (i : ℕ). sets (set (set out t (lo_at spans (k - 1))) i (hi_at spans (k - 1))) (suc i)
    (list_from n spans links (next_at links (k - 1)))) (sym (add-one t))
    ∙ ap (λ (i : ℕ). sets (set (set out t (lo_at spans (k - 1))) (t + 1) (hi_at spans (k - 1))) i
    (list_from n spans links (next_at links (k - 1)))) (let e : suc (t + 1) ≡ t + 2 = omega arith in e)

pub list-length-step : {n : ℕ} {spans : List Float} {links : List ℕ} {k : ℕ} → Step n spans links k
    → length (list_from n spans links k) ≡ 2 + length (list_from n spans links (next_at links (k - 1)))
list-length-step s = ap length s.read ∙ omega arith

pub copy-end : (n : ℕ) (spans : List Float) (links : List ℕ) (head k : ℕ) (out₀ out : List Float) (at t : ℕ) → k ≡ 0
    → at + length (list_from n spans links head) ≤ length out₀
    → t + length (list_from n spans links k) ≡ at + length (list_from n spans links head)
    → sets out₀ at (list_from n spans links head) ≡ sets out t (list_from n spans links k)
    → ReadListPost (list_from n spans links head) out₀ at out t
copy-end n spans links head k out₀ out at t e fits count same =
    let none : length (list_from n spans links k) ≡ 0 = ap length (no-ends n spans links k e) in
    record {
      past = omega arith;
      cells = sym (ap (sets out t) (no-ends n spans links k e)) ∙ sym same ∙ sets-eq (list_from n spans links head) out₀ at fits;
    }

-- ---- `list_is`: the rest of the list against the rest of the pairs
two-left : (pairs : List Float) (t : ℕ) → 2 ≤ length pairs - t
    → drop t pairs ≡ get_or pairs t nan ∷ get_or pairs (t + 1) nan ∷ drop (t + 2) pairs
two-left pairs t h =
    let two : suc (t + 1) ≡ t + 2 = omega arith in
    drop-cons pairs t nan (omega arith) ∙ ap (λ (i : ℕ). get_or pairs t nan ∷ drop i pairs) (sym (add-one t))
    ∙ ap (λ (m : List Float). get_or pairs t nan ∷ m) (drop-cons pairs (t + 1) nan (omega arith))
    ∙ ap (λ (i : ℕ). get_or pairs t nan ∷ get_or pairs (t + 1) nan ∷ drop i pairs) two

equal-few : (lo hi : Float) (l m : List Float) → length m < 2 → equal (lo ∷ hi ∷ l) m ≡ false
unfolding equal
equal-few lo hi l [] h = refl
equal-few lo hi l (x ∷ []) h = and-false (eq lo x) (equal (hi ∷ l) []) refl
equal-few lo hi l (x ∷ y ∷ m) h = absurd (omega arith)

equal-two : (lo hi : Float) (l pairs : List Float) (t : ℕ) → 2 ≤ length pairs - t
    → equal (lo ∷ hi ∷ l) (drop t pairs)
    ≡ (eq lo (get_or pairs t nan) && (eq hi (get_or pairs (t + 1) nan) && equal l (drop (t + 2) pairs)))
unfolding equal
equal-two lo hi l pairs t h = ap (equal (lo ∷ hi ∷ l)) (two-left pairs t h)

equal-none : (pairs : List Float) (t : ℕ) → t ≤ length pairs → equal [] (drop t pairs) ≡ eqb t (length pairs)
unfolding equal
equal-none [] zero h = refl
equal-none (x ∷ pairs) zero h = sym (ne_eqb 0 (suc (length pairs)) (λ (e : 0 ≡ suc (length pairs)). omega arith))
equal-none [] (suc t) h = absurd (omega arith)
equal-none (x ∷ pairs) (suc t) h = equal-none pairs t (omega arith) ∙ same
  where
    same : eqb t (length pairs) ≡ eqb (suc t) (suc (length pairs))
    same = same_if (eqb t (length pairs)) (eqb (suc t) (suc (length pairs)))
        (λ e. eq-eqb (suc t) (suc (length pairs)) (ap suc (eqb-true t (length pairs) e)))
        (λ e. let w : suc t ≡ suc (length pairs) = eqb-true (suc t) (suc (length pairs)) e in
        let v : t ≡ length pairs = omega arith in eq-eqb t (length pairs) v)

module _ {n : ℕ} {spans : List Float} {links : List ℕ} {k : ℕ} (pairs : List Float) (t : ℕ) where
  pub is-few : Step n spans links k → length pairs - t < 2 → equal (list_from n spans links k) (drop t pairs) ≡ false
  is-few s h = ap (λ (l : List Float). equal l (drop t pairs)) s.read
      ∙ equal-few (lo_at spans (k - 1)) (hi_at spans (k - 1)) (list_from n spans links (next_at links (k - 1)))
      (drop t pairs) (omega (arith, length-drop t pairs))

  is-two : Step n spans links k → 2 ≤ length pairs - t
      → equal (list_from n spans links k) (drop t pairs)
      ≡ (eq (lo_at spans (k - 1)) (get_or pairs t nan)
      && (eq (hi_at spans (k - 1)) (get_or pairs (t + 1) nan)
      && equal (list_from n spans links (next_at links (k - 1))) (drop (t + 2) pairs)))
  is-two s h = ap (λ (l : List Float). equal l (drop t pairs)) s.read
      ∙ equal-two (lo_at spans (k - 1)) (hi_at spans (k - 1)) (list_from n spans links (next_at links (k - 1))) pairs t h

  pub is-other-lo : Step n spans links k → 2 ≤ length pairs - t → ne (lo_at spans (k - 1)) (get_or pairs t nan) ≡ true
      → equal (list_from n spans links k) (drop t pairs) ≡ false
  unfolding ne
  is-other-lo s h e = is-two s h
      ∙ ap (λ (b : Bool). b && (eq (hi_at spans (k - 1)) (get_or pairs (t + 1) nan)
      && equal (list_from n spans links (next_at links (k - 1))) (drop (t + 2) pairs))) (not-true _ e)

  pub is-other-hi : Step n spans links k → 2 ≤ length pairs - t → ne (hi_at spans (k - 1)) (get_or pairs (t + 1) nan)
      ≡ true → equal (list_from n spans links k) (drop t pairs) ≡ false
  unfolding ne
  is-other-hi s h e =
      is-two s h ∙ and-false (eq (lo_at spans (k - 1)) (get_or pairs t nan))
      (eq (hi_at spans (k - 1)) (get_or pairs (t + 1) nan)
      && equal (list_from n spans links (next_at links (k - 1))) (drop (t + 2) pairs))
      (ap (λ (b : Bool). b && equal (list_from n spans links (next_at links (k - 1))) (drop (t + 2) pairs)) (not-true _ e))

  pub is_same : Step n spans links k → 2 ≤ length pairs - t → ne (lo_at spans (k - 1)) (get_or pairs t nan) ≡ false
      → ne (hi_at spans (k - 1)) (get_or pairs (t + 1) nan) ≡ false
      → equal (list_from n spans links k) (drop t pairs) ≡ equal (list_from n spans links (next_at links (k - 1))) (drop (t + 2) pairs)
  unfolding ne
  is_same s h e f =
      is-two s h ∙ ap (λ (b : Bool). b
      && (eq (hi_at spans (k - 1)) (get_or pairs (t + 1) nan)
      && equal (list_from n spans links (next_at links (k - 1))) (drop (t + 2) pairs))) (not-false _ e)
      ∙ ap (λ (b : Bool). b && equal (list_from n spans links (next_at links (k - 1))) (drop (t + 2) pairs)) (not-false _ f)

pub is-end : (n : ℕ) (spans : List Float) (links : List ℕ) (k : ℕ) (pairs : List Float) (t : ℕ) → k ≡ 0
    → t ≤ length pairs → equal (list_from n spans links k) (drop t pairs) ≡ eqb t (length pairs)
is-end n spans links k pairs t e h = ap (λ (l : List Float). equal l (drop t pairs)) (no-ends n spans links k e) ∙ equal-none pairs t h
