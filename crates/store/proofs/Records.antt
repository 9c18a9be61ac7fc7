-- The cells of one record when another is written, and of that one.
use mathlib.Core.Path.{◌≡◌, refl, sym, ◌∙◌}
use mathlib.Core.Bool.{true, false, and-false as and_no}
use mathlib.Core.List.Memᴰ
use mathlib.Core.List.{List, [], ◌∷◌, Memᴰ}
use mathlib.Core.Logic.{◌⊎◌, inl, inr}
use Prim.Native.Nat.{ℕ, suc, ◌+◌, ◌*◌, ◌<◌}
use native.Mathlib.Decide.{ℕ_discrete}
use native.Mathlib.Omega.{arith}
use lib.Dec.{eqb}
use lib.Ieee.{Float, nan, of_bits}
use lib.ListN.{length, get_or, set, drop, length-set}
use lib.Seq.{get_or-set_other, get_or-set_same, drop-set-lt}
use borrow.Author.Tests.{ne_eqb, eqb-true}
use Rattle.doubles.specs.Constants.{plus_zero}
use Rattle.logic.proofs.Bools.{and_left, and_right, not-false}
use Rattle.store.specs.Store.{is_plus_zero, lo_at, hi_at, next_at, owner_at, used_at, put_span, put_link}
use Rattle.store.proofs.Zero.{plus-is, bits-zero}

-- the record at place x has the same cells in both
pub record Same (spans spans' : List Float) (links links' : List ℕ) (x : ℕ) : Type 0 where
  pub lo : lo_at spans' x ≡ lo_at spans x
  pub hi : hi_at spans' x ≡ hi_at spans x
  pub next : next_at links' x ≡ next_at links x
  pub owner : owner_at links' x ≡ owner_at links x

pub same_refl : (spans : List Float) (links : List ℕ) (x : ℕ) → Same spans spans links links x
same_refl spans links x = record { lo = refl; hi = refl; next = refl; owner = refl }

pub same-trans : {s s' s'' : List Float} {l l' l'' : List ℕ} {x : ℕ} → Same s s' l l' x → Same s' s'' l' l'' x → Same s s'' l l'' x
same-trans a b = record { lo = b.lo ∙ a.lo; hi = b.hi ∙ a.hi; next = b.next ∙ a.next; owner = b.owner ∙ a.owner }

pub same-used : {spans spans' : List Float} {links links' : List ℕ} {x : ℕ} → Same spans spans' links links' x
    → used_at spans' links' x ≡ used_at spans links x
unfolding used_at
same-used s = cc

-- the cells of the record at place x
pub record Written (spans : List Float) (links : List ℕ) (x : ℕ) (a b : Float) (p o : ℕ) : Type 0 where
  pub lo : lo_at spans x ≡ a
  pub hi : hi_at spans x ≡ b
  pub next : next_at links x ≡ p
  pub owner : owner_at links x ≡ o

pub written_same : {spans spans' : List Float} {links links' : List ℕ} {x : ℕ} {a b : Float} {p o : ℕ}
    → Same spans spans' links links' x → Written spans links x a b p o → Written spans' links' x a b p o
written_same s w = record { lo = s.lo ∙ w.lo; hi = s.hi ∙ w.hi; next = s.next ∙ w.next; owner = s.owner ∙ w.owner }

module _ {A : Type 0} (l : List A) (i : ℕ) (a b d : A) where
  pub pair-first : (x : ℕ) → (x ≡ i → ⊥) → get_or (set (set l (2 * i) a) (2 * i + 1) b) (2 * x) d ≡ get_or l (2 * x) d
  pair-first x ne = get_or-set_other (set l (2 * i) a) (2 * i + 1) (2 * x) b d (λ e. omega arith)
      ∙ get_or-set_other l (2 * i) (2 * x) a d (λ e. ne (omega arith))

  pub pair-second : (x : ℕ) → (x ≡ i → ⊥) → get_or (set (set l (2 * i) a) (2 * i + 1) b) (2 * x + 1) d ≡ get_or l (2 * x + 1) d
  pair-second x ne = get_or-set_other (set l (2 * i) a) (2 * i + 1) (2 * x + 1) b d (λ e. ne (omega arith))
      ∙ get_or-set_other l (2 * i) (2 * x + 1) a d (λ e. omega arith)

  pub first-here : 2 * i + 1 < length l → get_or (set (set l (2 * i) a) (2 * i + 1) b) (2 * i) d ≡ a
  first-here h = get_or-set_other (set l (2 * i) a) (2 * i + 1) (2 * i) b d (λ e. omega arith)
      ∙ get_or-set_same l (2 * i) a d (omega arith)

  pub second-here : 2 * i + 1 < length l → get_or (set (set l (2 * i) a) (2 * i + 1) b) (2 * i + 1) d ≡ b
  second-here h = get_or-set_same (set l (2 * i) a) (2 * i + 1) b d (simp length-set h)

  pub pair-length : length (set (set l (2 * i) a) (2 * i + 1) b) ≡ length l
  pair-length = simp length-set

  pub pair-past : (n : ℕ) → i < n → drop (2 * n) (set (set l (2 * i) a) (2 * i + 1) b) ≡ drop (2 * n) l
  pair-past n h = drop-set-lt (2 * n) (set l (2 * i) a) (2 * i + 1) b (omega arith) ∙ drop-set-lt (2 * n) l (2 * i) a (omega arith)

module _ (spans : List Float) (links : List ℕ) (i : ℕ) (a b : Float) (p o : ℕ) where
  pub put_other : (x : ℕ) → (x ≡ i → ⊥) → Same spans (put_span spans i a b) links (put_link links i p o) x
  put_other x ne = record {
    lo = pair-first spans i a b nan x ne;
    hi = pair-second spans i a b nan x ne;
    next = pair-first links i p o 0 x ne;
    owner = pair-second links i p o 0 x ne;
  }

  pub put-here : 2 * i + 1 < length spans → 2 * i + 1 < length links → Written (put_span spans i a b) (put_link links i p o) i a b p o
  put-here hs hl = record {
    lo = first-here spans i a b nan hs;
    hi = second-here spans i a b nan hs;
    next = first-here links i p o 0 hl;
    owner = second-here links i p o 0 hl;
  }

-- ---- only counted records are written
pub record Within (n : ℕ) (spans spans' : List Float) (links links' : List ℕ) : Type 0 where
  pub spans_size : length spans' ≡ length spans
  pub links_size : length links' ≡ length links
  pub spans_past : drop (2 * n) spans' ≡ drop (2 * n) spans
  pub links_past : drop (2 * n) links' ≡ drop (2 * n) links

pub within_none : (n : ℕ) (spans : List Float) (links : List ℕ) → Within n spans spans links links
within_none n spans links = record { spans_size = refl; links_size = refl; spans_past = refl; links_past = refl }

pub within-then : {n : ℕ} {s s' s'' : List Float} {l l' l'' : List ℕ} → Within n s s' l l' → Within n s' s'' l' l'' → Within n s s'' l l''
within-then a b = record {
  spans_size = b.spans_size ∙ a.spans_size;
  links_size = b.links_size ∙ a.links_size;
  spans_past = b.spans_past ∙ a.spans_past;
  links_past = b.links_past ∙ a.links_past;
}

pub within-put : (n : ℕ) (spans : List Float) (links : List ℕ) (i : ℕ) (a b : Float) (p o : ℕ) → i < n
    → Within n spans (put_span spans i a b) links (put_link links i p o)
within-put n spans links i a b p o h = record {
  spans_size = pair-length spans i a b a;
  links_size = pair-length links i p o 0;
  spans_past = pair-past spans i a b a n h;
  links_past = pair-past links i p o 0 n h;
}

-- ---- a record is free exactly where its cells are zero
abbrev pub Free : List Float → List ℕ → ℕ → Type 0
Free spans links x = Written spans links x plus_zero plus_zero 0 0

pub free-used : {spans : List Float} {links : List ℕ} {x : ℕ} → Free spans links x → used_at spans links x ≡ false
unfolding used_at of_bits
free-used f = simp (f.lo, f.hi, f.next, f.owner)

pub free-zero : (spans : List Float) (links : List ℕ) (x : ℕ) → used_at spans links x ≡ false → Free spans links x
unfolding used_at
free-zero spans links x u =
    let all = not-false _ u in
    let rest = and_right (is_plus_zero (lo_at spans x)) _ all in
    let last = and_right (is_plus_zero (hi_at spans x)) _ rest in
    record {
      lo = plus-is (lo_at spans x) (and_left _ _ all) ∙ sym bits-zero;
      hi = plus-is (hi_at spans x) (and_left _ _ rest) ∙ sym bits-zero;
      next = eqb-true (next_at links x) 0 (and_left _ _ last);
      owner = eqb-true (owner_at links x) 0 (and_right (eqb (next_at links x) 0) _ last);
    }

-- a record with an owner is in use
pub owned-used : (spans : List Float) (links : List ℕ) (x i : ℕ) → owner_at links x ≡ suc i → used_at spans links x ≡ true
unfolding used_at
owned-used spans links x i e =
    let none : eqb (owner_at links x) 0 ≡ false = ne_eqb (owner_at links x) 0 (λ (z : owner_at links x ≡ 0). omega arith) in
    simp (none, and_no)

-- ---- a place is in a list or not
pub among : (x : ℕ) (l : List ℕ) → Dec (Memᴰ x l)
among x [] = no Memᴰ.not-nil
among x (y ∷ l) = at (ℕ_discrete x y) (among x l)
  where
    at : Dec (x ≡ y) → Dec (Memᴰ x l) → Dec (Memᴰ x (y ∷ l))
    at (yes e) d = yes (Memᴰ.head e)
    at (no ne) (yes m) = yes (Memᴰ.tail m)
    at (no ne) (no out) = no (λ m. split ne out (Memᴰ.cases_cons m))
      where
        split : (x ≡ y → ⊥) → (Memᴰ x l → ⊥) → (x ≡ y) ⊎ Memᴰ x l → ⊥
        split ne' out' (inl e) = ne' e
        split ne' out' (inr m) = out' m
