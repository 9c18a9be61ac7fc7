-- A sound store stays sound when one of its lists is replaced by another: that list then has the new places, and each
-- other list is what it was.
use mathlib.Core.Path.{◌≡◌, refl, sym, ap, ◌∙◌, subst}
use mathlib.Core.Bool.{true}
use mathlib.Core.Logic.{⊎_elim}
use mathlib.Core.List.{List, [], ◌∷◌, ◌++◌, Memᴰ}
use Prim.Native.Nat.{ℕ, zero, suc, ◌+◌, ◌≤◌, ◌<◌}
use native.Mathlib.Decide.{ℕ_discrete}
use native.Mathlib.Omega.{arith}
use lib.Ieee.{Float}
use lib.ListN.{length, get_or, length-append}
use Rattle.store.specs.Store.{next_at, owner_at, used_at, RecordChain, ends, more, places_of, chained, ends_at, Cells}
use Rattle.store.specs.Store.{ChainsSound, store_list}
use Rattle.store.proofs.Records.{Same, same-used, among}
use Rattle.store.proofs.Chains.{chain-owner, chain-places}

-- a chain whose cells stay
pub chain-kept : (links links' : List ℕ) (n o : ℕ) {k : ℕ} {ps : List ℕ} → RecordChain links n o k ps
    → ((x : ℕ) → Memᴰ x ps → (next_at links' x ≡ next_at links x) × (owner_at links' x ≡ owner_at links x))
    → RecordChain links' n o k ps
chain-kept links links' n o ends same = ends
chain-kept links links' n o (more {i} {ps} i<n own c) same =
    let s = same i (mathlib.Core.List.Memᴰ.head refl) in
    more i<n (s.1 ∙ own) (subst (λ (k : ℕ). RecordChain links' n o k ps) (sym s.0)
    (chain-kept links links' n o c (λ x m. same x (mathlib.Core.List.Memᴰ.tail m))))

pub ends-kept : (spans spans' : List Float) (links links' ps : List ℕ)
    → ((x : ℕ) → Memᴰ x ps → Same spans spans' links links' x) → ends_at spans' ps ≡ ends_at spans ps
unfolding ends_at
ends-kept spans spans' links links' [] same = refl
ends-kept spans spans' links links' (i ∷ ps) same =
    let s = same i (mathlib.Core.List.Memᴰ.head refl) in
    let rest : ends_at spans' ps ≡ ends_at spans ps =
    ends-kept spans spans' links links' ps (λ x m. same x (mathlib.Core.List.Memᴰ.tail m)) in
    simp (s.lo, s.hi, rest)

-- ---- the places of all lists
module _ (n : ℕ) (links heads : List ℕ) where
  pub mem-of : (r a x : ℕ) → Memᴰ x (chained n links heads a r)
      → (i : ℕ) × (a ≤ i) × (i < a + r) × Memᴰ x (places_of n links heads i)
  unfolding chained
  mem-of zero a x m = absurd (mathlib.Core.List.Memᴰ.not-nil m)
  mem-of (suc r) a x m =
      ⊎_elim (λ (h : Memᴰ x (places_of n links heads a)). (a, omega arith, omega arith, h))
      (λ (t : Memᴰ x (chained n links heads (suc a) r)). let w = mem-of r (suc a) x t in
      (w.0, omega (arith, w.1), omega (arith, w.2), w.3))
      (mathlib.Core.List.Memᴰ.append_cases (places_of n links heads a) m)

  pub mem-to : (r a i x : ℕ) → a ≤ i → i < a + r → Memᴰ x (places_of n links heads i) → Memᴰ x (chained n links heads a r)
  unfolding chained
  mem-to zero a i x lo hi m = absurd (omega arith)
  mem-to (suc r) a i x lo hi m = at (λ (l : suc a ≤ i). mem-to r (suc a) i x l (omega arith) m) (ℕ_discrete i a)
    where
      at : (suc a ≤ i → Memᴰ x (chained n links heads (suc a) r)) → Dec (i ≡ a)
          → Memᴰ x (places_of n links heads a ++ chained n links heads (suc a) r)
      at rec (yes e) = mathlib.Core.List.Memᴰ.append_left (chained n links heads (suc a) r)
          (subst (λ (y : ℕ). Memᴰ x (places_of n links heads y)) e m)
      at rec (no ne) = mathlib.Core.List.Memᴰ.append_right (places_of n links heads a) (rec (omega (arith, ne)))

-- list j gets the places qs: its records are written, and those that it had and has no longer are free
pub record Replaces (n m : ℕ) (c d : Cells) (j : ℕ) (qs : List ℕ) : Type 0 where
  pub chain : RecordChain d.links n (suc j) (get_or d.heads j 0) qs
  pub head : (i : ℕ) → (i ≡ j → ⊥) → get_or d.heads i 0 ≡ get_or c.heads i 0
  pub cells : (x : ℕ) → (Memᴰ x (places_of n c.links c.heads j) → ⊥) → (Memᴰ x qs → ⊥)
      → Same c.spans d.spans c.links d.links x
  pub freed : (x : ℕ) → x < n → Memᴰ x (places_of n c.links c.heads j) → used_at d.spans d.links x ≡ true → Memᴰ x qs
  pub apart : (i : ℕ) → i < m → (i ≡ j → ⊥) → (x : ℕ) → Memᴰ x (places_of n c.links c.heads i) → Memᴰ x qs → ⊥

-- and what that leaves
pub record Replaced (n m total : ℕ) (c d : Cells) (j : ℕ) (qs : List ℕ) : Type 0 where
  pub here : places_of n d.links d.heads j ≡ qs
  pub places_kept : (i : ℕ) → i < m → (i ≡ j → ⊥) → places_of n d.links d.heads i ≡ places_of n c.links c.heads i
  pub lists_kept : (i : ℕ) → i < m → (i ≡ j → ⊥) → store_list n d i ≡ store_list n c i
  pub is_sound : (total' : ℕ) → total' + length (places_of n c.links c.heads j) ≡ total + length qs → ChainsSound n m total' d
  pub less : length (places_of n c.links c.heads j) ≤ total

module _ (n m total : ℕ) (c d : Cells) (j : ℕ) (qs : List ℕ) (s : ChainsSound n m total c) (j<m : j < m) (r : Replaces n m c d j qs) where
  -- the places of list i, before and after
  abbrev was : ℕ → List ℕ
  was i = places_of n c.links c.heads i

  abbrev is : ℕ → List ℕ
  is i = places_of n d.links d.heads i

  -- another list has none of the places of list j
  others_apart : (i : ℕ) → i < m → (i ≡ j → ⊥) → (x : ℕ) → Memᴰ x (was i) → Memᴰ x (was j) → ⊥
  others_apart i i<m ne x mi mj =
      ne (omega (
        arith,
        (chain-owner c.links n (suc i) (s.chains i i<m) x mi).1,
        (chain-owner c.links n (suc j) (s.chains j j<m) x mj).1,
      ))

  other-cells : (i : ℕ) → i < m → (i ≡ j → ⊥) → (x : ℕ) → Memᴰ x (was i) → Same c.spans d.spans c.links d.links x
  other-cells i i<m ne x mx = r.cells x (others_apart i i<m ne x mx) (r.apart i i<m ne x mx)

  other-chain : (i : ℕ) → i < m → (i ≡ j → ⊥) → RecordChain d.links n (suc i) (get_or d.heads i 0) (was i)
  other-chain i i<m ne = subst (λ (k : ℕ). RecordChain d.links n (suc i) k (was i)) (sym (r.head i ne))
      (chain-kept c.links d.links n (suc i) (s.chains i i<m) (λ x mx. let k = other-cells i i<m ne x mx in (k.next, k.owner)))

  others-kept : (i : ℕ) → i < m → (i ≡ j → ⊥) → is i ≡ was i
  others-kept i i<m ne = sym (chain-places d.links n (suc i) _ _ (other-chain i i<m ne))

  here-now : is j ≡ qs
  here-now = sym (chain-places d.links n (suc j) _ _ r.chain)

  all-chains : (i : ℕ) → i < m → RecordChain d.links n (suc i) (get_or d.heads i 0) (is i)
  all-chains i i<m = at (ℕ_discrete i j)
    where
      at : Dec (i ≡ j) → RecordChain d.links n (suc i) (get_or d.heads i 0) (is i)
      at (yes e) = subst (λ (y : ℕ). RecordChain d.links n (suc y) (get_or d.heads y 0) (is y)) (sym e)
          (subst (λ (l : List ℕ). RecordChain d.links n (suc j) (get_or d.heads j 0) l) (sym here-now) r.chain)
      at (no ne) = subst (λ (l : List ℕ). RecordChain d.links n (suc i) (get_or d.heads i 0) l)
          (sym (others-kept i i<m ne)) (other-chain i i<m ne)

  -- the lists before j, or after it, together are what they were
  same-run : (k a : ℕ) → a + k ≤ m → ((i : ℕ) → a ≤ i → i < a + k → i ≡ j → ⊥)
      → length (chained n d.links d.heads a k) ≡ length (chained n c.links c.heads a k)
  unfolding chained
  same-run zero a h out = refl
  same-run (suc k) a h out =
      let first : length (is a) ≡ length (was a) = ap length (others-kept a (omega arith) (out a (omega arith) (omega arith))) in
      let rest : length (chained n d.links d.heads (suc a) k)
      ≡ length (chained n c.links c.heads (suc a) k) =
      same-run k (suc a) (omega arith) (λ i lo hi. out i (omega arith) (omega arith)) in
      omega (
        arith,
        length-append (is a) (chained n d.links d.heads (suc a) k),
        length-append (was a) (chained n c.links c.heads (suc a) k),
      )

  count-run : (k a : ℕ) → a + k ≤ m → a ≤ j → j < a + k → length (chained n c.links c.heads a k) + length qs
      ≡ length (was j) + length (chained n d.links d.heads a k)
  unfolding chained
  count-run zero a h lo hi = absurd (omega arith)
  count-run (suc k) a h lo hi = at (λ (l : suc a ≤ j). count-run k (suc a) (omega arith) l (omega arith)) (ℕ_discrete a j)
    where
      at : (suc a ≤ j → length (chained n c.links c.heads (suc a) k) + length qs ≡ length (was j)
          + length (chained n d.links d.heads (suc a) k)) → Dec (a ≡ j)
          → length (was a ++ chained n c.links c.heads (suc a) k) + length qs ≡ length (was j)
          + length (is a ++ chained n d.links d.heads (suc a) k)
      at rec (yes e) =
          let before : length (was a) ≡ length (was j) = ap (λ (y : ℕ). length (was y)) e in
          let after : length (is a) ≡ length qs = ap (λ (y : ℕ). length (is y)) e ∙ ap length here-now in
          let rest : length (chained n d.links d.heads (suc a) k)
          ≡ length (chained n c.links c.heads (suc a) k) =
          same-run k (suc a) (omega arith) (λ i lo' hi' e'. omega arith) in
          omega (
            arith,
            length-append (was a) (chained n c.links c.heads (suc a) k),
            length-append (is a) (chained n d.links d.heads (suc a) k),
          )
      at rec (no ne) =
          let first : length (is a) ≡ length (was a) = ap length (others-kept a (omega arith) ne) in
          let rest : length (chained n c.links c.heads (suc a) k) + length qs ≡ length (was j)
          + length (chained n d.links d.heads (suc a) k) = rec (omega (arith, ne)) in
          omega (
            arith,
            length-append (was a) (chained n c.links c.heads (suc a) k),
            length-append (is a) (chained n d.links d.heads (suc a) k),
          )

  in_use : (x : ℕ) → x < n → used_at d.spans d.links x ≡ true → Memᴰ x (chained n d.links d.heads 0 m)
  in_use x x<n u = at (among x qs) (among x (was j))
    where
      new : Memᴰ x qs → Memᴰ x (chained n d.links d.heads 0 m)
      new q = mem-to n d.links d.heads m 0 j x (omega arith) (omega arith) (subst (Memᴰ x) (sym here-now) q)

      old : (Memᴰ x (was j) → ⊥) → (Memᴰ x qs → ⊥) → Memᴰ x (chained n d.links d.heads 0 m)
      old out-j out-q =
          let before : used_at c.spans c.links x ≡ true = sym (same-used (r.cells x out-j out-q)) ∙ u in
          let w = mem-of n c.links c.heads m 0 x (s.others x x<n before) in
          let ne : (w.0 ≡ j → ⊥) = λ (e : w.0 ≡ j). out-j (subst (λ (y : ℕ). Memᴰ x (was y)) e w.3) in
          let i<m : w.0 < m = omega (arith, w.2) in
          mem-to n d.links d.heads m 0 w.0 x w.1 w.2 (subst (Memᴰ x) (sym (others-kept w.0 i<m ne)) w.3)

      at : Dec (Memᴰ x qs) → Dec (Memᴰ x (was j)) → Memᴰ x (chained n d.links d.heads 0 m)
      at (yes q) p = new q
      at (no out-q) (yes p) = new (r.freed x x<n p u)
      at (no out-q) (no out-j) = old out-j out-q

  of-count : length (chained n c.links c.heads 0 m) + length qs ≡ length (was j) + length (chained n d.links d.heads 0 m)
  of-count = count-run m 0 (omega arith) (omega arith) (omega arith)

  one_of : (k a : ℕ) → a ≤ j → j < a + k → length (was j) ≤ length (chained n c.links c.heads a k)
  unfolding chained
  one_of zero a lo hi = absurd (omega arith)
  one_of (suc k) a lo hi = at (λ (l : suc a ≤ j). one_of k (suc a) l (omega arith)) (ℕ_discrete a j)
    where
      at : (suc a ≤ j → length (was j) ≤ length (chained n c.links c.heads (suc a) k)) → Dec (a ≡ j)
          → length (was j) ≤ length (was a ++ chained n c.links c.heads (suc a) k)
      at rec (yes e) =
          let same : length (was a) ≡ length (was j) = ap (λ (y : ℕ). length (was y)) e in
          omega (arith, length-append (was a) (chained n c.links c.heads (suc a) k))
      at rec (no ne) =
          let rest : length (was j) ≤ length (chained n c.links c.heads (suc a) k) = rec (omega (arith, ne)) in
          omega (arith, length-append (was a) (chained n c.links c.heads (suc a) k))

  pub replaced : Replaced n m total c d j qs
  replaced = record {
    here = here-now;
    places_kept = others-kept;
    lists_kept = λ i i<m ne. ap (ends_at d.spans) (others-kept i i<m ne)
        ∙ ends-kept c.spans d.spans c.links d.links (was i) (other-cells i i<m ne);
    is_sound = λ total' sum. record { chains = all-chains; others = in_use; counts = omega (arith, s.counts, of-count) };
    less = omega (arith, s.counts, one_of m 0 (omega arith) (omega arith));
  }
