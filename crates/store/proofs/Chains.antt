-- Laws of chains.
--     places-of        a chain's places are those that are come to, whatever fuel is enough
--     chain-distinct   no place comes twice in a chain
--     chained-distinct nor in all the chains together: the owner tells the lists apart
--     chained-pass     each place in a chain is counted and in use
use mathlib.Core.Path.{◌≡◌, refl, sym, ap, ◌∙◌, subst}
use mathlib.Core.Bool.{true}
use mathlib.Core.Logic.{◌⊎◌, inl, inr, ⊎_elim}
use mathlib.Core.List.Memᴰ
use mathlib.Core.List.{List, [], ◌∷◌, Memᴰ}
use Prim.Native.Nat.{ℕ, zero, suc, ◌+◌, ◌-◌, ◌≤◌, ◌<◌}
use native.Mathlib.Omega.{arith}
use lib.Ieee.{Float}
use lib.ListN.{length, get_or}
use Rattle.store.specs.Store.{next_at, owner_at, used_at, places, RecordChain, ends, more, places_of, chained}
use Rattle.store.proofs.Records.{owned-used}
use Rattle.store.proofs.Counting.{Distinct, Pass, distinct_append, distinct-le, count-max}
use Rattle.logic.specs.Logic.{count_to}

module _ (links : List ℕ) (n o : ℕ) where
  pub places-of : {k : ℕ} {ps : List ℕ} (f : ℕ) → RecordChain links n o k ps → length ps ≤ f → places links f k ≡ ps
  unfolding places
  places-of zero ends h = refl
  places-of (suc f) ends h = refl
  places-of zero (more i<n own c) h = absurd (omega arith)
  places-of (suc f) (more {i} i<n own c) h = ap (λ (l : List ℕ). i ∷ l) (places-of {k = next_at links i} f c (omega arith))

  pub chain-one : {k : ℕ} {ps qs : List ℕ} → RecordChain links n o k ps → RecordChain links n o k qs → ps ≡ qs
  chain-one {k} {ps} {qs} c d = sym (places-of (length ps + length qs) c (omega arith)) ∙ places-of (length ps + length qs) d (omega arith)

  -- each place in a chain is counted, and of the owner
  pub chain-owner : {k : ℕ} {ps : List ℕ} → RecordChain links n o k ps → (x : ℕ) → Memᴰ x ps → (x < n) × (owner_at links x ≡ o)
  chain-owner ends x m = absurd (Memᴰ.not-nil m)
  chain-owner (more {i} i<n own c) x m =
      ⊎_elim (λ (e : x ≡ i). subst (λ (y : ℕ). (y < n) × (owner_at links y ≡ o)) (sym e) (i<n, own)) (chain-owner c x)
      (Memᴰ.cases_cons m)

  -- from a place in a chain runs a chain that is no longer
  suffix : {k : ℕ} {ps : List ℕ} → RecordChain links n o k ps → (x : ℕ) → Memᴰ x ps
      → (qs : List ℕ) × RecordChain links n o (suc x) qs × (length qs ≤ length ps)
  suffix ends x m = absurd (Memᴰ.not-nil m)
  suffix (more {i} {ps} i<n own c) x m = at (λ (m' : Memᴰ x ps). suffix c x m') (Memᴰ.cases_cons m)
    where
      at : (Memᴰ x ps → (qs : List ℕ) × RecordChain links n o (suc x) qs × (length qs ≤ length ps))
          → (x ≡ i) ⊎ Memᴰ x ps → (qs : List ℕ) × RecordChain links n o (suc x) qs × (length qs ≤ suc (length ps))
      at rec (inl e) = (i ∷ ps, subst (λ (y : ℕ). RecordChain links n o (suc y) (i ∷ ps)) (sym e) (more i<n own c), omega arith)
      at rec (inr m') = let s = rec m' in (s.0, s.1, omega (arith, s.2))

  pub chain-distinct : {k : ℕ} {ps : List ℕ} → RecordChain links n o k ps → Distinct ps
  unfolding Distinct
  chain-distinct ends = tt
  chain-distinct (more {i} {ps} i<n own c) = (
    (λ m. let s = suffix c i m in
        let same : length s.0 ≡ suc (length ps) = ap length (chain-one s.1 (more i<n own c)) in
        omega (arith, s.2)),
    chain-distinct c,
  )

module _ (spans : List Float) (links heads : List ℕ) (n : ℕ) where
  -- the chains of the lists from j on, r of them
  abbrev pub Run : ℕ → ℕ → Type 0
  Run j r = (i : ℕ) → j ≤ i → i < j + r → RecordChain links n (suc i) (get_or heads i 0) (places_of n links heads i)

  pub run-head : (j r : ℕ) → Run j (suc r) → RecordChain links n (suc j) (get_or heads j 0) (places_of n links heads j)
  run-head j r all = all j (omega arith) (omega arith)

  pub run-tail : (j r : ℕ) → Run j (suc r) → Run (suc j) r
  run-tail j r all i lo hi = all i (omega arith) (omega arith)

  -- a place in the chains has the owner of one of them
  owner_of : (j r : ℕ) → Run j r → (x : ℕ) → Memᴰ x (chained n links heads j r)
      → (x < n) × ((i : ℕ) × (j ≤ i) × (owner_at links x ≡ suc i))
  unfolding chained
  owner_of j zero all x m = absurd (Memᴰ.not-nil m)
  owner_of j (suc r) all x m = at
      (λ (m' : Memᴰ x (chained n links heads (suc j) r)). owner_of (suc j) r (run-tail j r all) x m')
      (Memᴰ.append_cases (places_of n links heads j) m)
    where
      at : (Memᴰ x (chained n links heads (suc j) r)
          → (x < n) × ((i : ℕ) × (suc j ≤ i) × (owner_at links x ≡ suc i))) → Memᴰ x (places_of n links heads j)
          ⊎ Memᴰ x (chained n links heads (suc j) r)
          → (x < n) × ((i : ℕ) × (j ≤ i) × (owner_at links x ≡ suc i))
      at rec (inl h) = let w = chain-owner links n (suc j) (run-head j r all) x h in (w.0, (j, omega arith, w.1))
      at rec (inr t) = let w = rec t in (w.0, (w.1.0, omega (arith, w.1.1), w.1.2))

  pub chained-distinct : (j r : ℕ) → Run j r → Distinct (chained n links heads j r)
  unfolding chained Distinct
  chained-distinct j zero all = tt
  chained-distinct j (suc r) all =
      distinct_append (places_of n links heads j) (chained n links heads (suc j) r)
      (chain-distinct links n (suc j) (run-head j r all)) (chained-distinct (suc j) r (run-tail j r all))
      (λ x mh mt. let w = owner_of (suc j) r (run-tail j r all) x mt in
      omega (arith, (chain-owner links n (suc j) (run-head j r all) x mh).1, w.1.1, w.1.2))

  pub chained-pass : (j r : ℕ) → Run j r → Pass (used_at spans links) n (chained n links heads j r)
  chained-pass j r all x m = let w = owner_of j r all x m in (w.0, owned-used spans links x w.1.0 w.1.2)

-- ---- reading a chain, one record after the other
pub places-within : (links : List ℕ) (f k : ℕ) → length (places links f k) ≤ f
unfolding places
places-within links zero k = omega arith
places-within links (suc f) zero = omega arith
places-within links (suc f) (suc i) = omega (arith, places-within links f (next_at links i))

module _ (links : List ℕ) (n o : ℕ) where
  -- the record that a chain comes to, and the chain from the next one
  pub record ChainStep (k : ℕ) : Type 0 where
    pub counted : k - 1 < n
    pub owner : owner_at links (k - 1) ≡ o
    pub read : places links n k ≡ (k - 1) ∷ places links n (next_at links (k - 1))
    pub next : RecordChain links n o (next_at links (k - 1)) (places links n (next_at links (k - 1)))

  step_of : {k : ℕ} {ps : List ℕ} → RecordChain links n o k ps → length ps ≤ n → ps ≡ places links n k → (k ≡ 0 → ⊥) → ChainStep k
  step_of ends h e ne = absurd (ne refl)
  step_of (more {i} {ps} i<n own c) h e ne =
      let one : suc i - 1 ≡ i = omega arith in
      let same : places links n (next_at links i) ≡ ps = places-of links n o n c (omega arith) in
      let made : (i < n) × (owner_at links i ≡ o) × (places links n (suc i) ≡ i ∷ places links n (next_at links i))
      × RecordChain links n o (next_at links i) (places links n (next_at links i))
      = (
        i<n,
        own,
        sym e ∙ ap (λ (l : List ℕ). i ∷ l) (sym same),
        subst (λ (l : List ℕ). RecordChain links n o (next_at links i) l) (sym same) c,
      ) in
      let at : (i' : ℕ) → i' ≡ i → (i' < n) × (owner_at links i' ≡ o)
      × (places links n (suc i) ≡ i' ∷ places links n (next_at links i'))
      × RecordChain links n o (next_at links i') (places links n (next_at links i'))
      = λ i' e'. subst (λ (x : ℕ). (x < n) × (owner_at links x ≡ o)
      × (places links n (suc i) ≡ x ∷ places links n (next_at links x))
      × RecordChain links n o (next_at links x) (places links n (next_at links x))) (sym e') made in
      let r = at (suc i - 1) one in
      record { counted = r.0; owner = r.1; read = r.2; next = r.3 }

  pub chain-step : (k : ℕ) → RecordChain links n o k (places links n k) → (k ≡ 0 → ⊥) → ChainStep k
  chain-step k c ne = step_of c (places-within links n k) refl ne

-- where a chain is, the places that are come to are it: the walk needs no more fuel than there are records
pub chain-places : (links : List ℕ) (n o k : ℕ) (ps : List ℕ) → RecordChain links n o k ps → ps ≡ places links n k
chain-places links n o k ps c =
    let short : length ps ≤ count_to (λ i. true) n =
    distinct-le (λ i. true) n ps (chain-distinct links n o c) (λ x m. ((chain-owner links n o c x m).0, refl)) in
    sym (places-of links n o n c (omega (arith, short, count-max (λ i. true) n)))

pub less-step : (links : List ℕ) (n o k : ℕ) → RecordChain links n o k (places links n k) → (k ≡ 0 → ⊥)
    → length (places links n (next_at links (k - 1))) < length (places links n k)
less-step links n o k c ne = omega (arith, ap length (chain-step links n o k c ne).read)

-- an empty list
pub places-zero : (links : List ℕ) (n k : ℕ) → k ≡ 0 → places links n k ≡ []
unfolding places
places-zero links zero k e = refl
places-zero links (suc n) k e = ap (places links (suc n)) e
