-- Laws of freeing: the cells of the records at the places are zero and all others are as they were; a chain after one
-- of its records is freed; a sound store after one of its lists is freed.
use mathlib.Core.Path.{◌≡◌, refl, sym, ap, ◌∙◌, subst}
use mathlib.Core.Logic.{⊎_elim}
use mathlib.Core.List.Memᴰ
use mathlib.Core.List.{List, [], ◌∷◌, Memᴰ}
use Prim.Native.Nat.{ℕ, zero, suc, ◌+◌, ◌-◌, ◌*◌, ◌<◌}
use native.Mathlib.Omega.{arith}
use lib.Ieee.{Float}
use lib.ListN.{length, get_or, set, length-set}
use lib.Seq.{get_or-set_other, get_or-set_same, drop-set-lt}
use Rattle.doubles.specs.Constants.{plus_zero}
use Rattle.store.specs.Store.{next_at, places, places_of, RecordChain, ends, free_span, free_link, freed_spans, freed_links}
use Rattle.store.specs.Store.{Cells, cells, ChainsSound}
use Rattle.store.specs.Updates.{CellsPastKept, freed_list}
use Rattle.store.proofs.Counting.{Distinct}
use Rattle.store.proofs.Records.{Same, same_refl, same-trans, written_same, put_other, put-here, Free, free-used, among}
use Rattle.store.proofs.Records.{Within, within_none, within-put, within-then}
use Rattle.store.proofs.Chains.{chain-owner, chain-distinct, chain-places, chain-step}
use Rattle.store.proofs.Replacing.{Replaces, Replaced, replaced, chain-kept}
use Rattle.store.specs.Steps.{Room}

-- ---- the records at the places
pub freed-other : (ps : List ℕ) (spans : List Float) (links : List ℕ) (x : ℕ) → (Memᴰ x ps → ⊥)
    → Same spans (freed_spans spans ps) links (freed_links links ps) x
unfolding freed_spans freed_links
freed-other [] spans links x out = same_refl spans links x
freed-other (i ∷ ps) spans links x out =
    same-trans (put_other spans links i plus_zero plus_zero 0 0 x (λ (e : x ≡ i). out (Memᴰ.head e)))
    (freed-other ps (free_span spans i) (free_link links i) x (λ m. out (Memᴰ.tail m)))

pub freed-here : (ps : List ℕ) (spans : List Float) (links : List ℕ) (x : ℕ) → 2 * x + 1 < length spans
    → 2 * x + 1 < length links → Memᴰ x ps → Free (freed_spans spans ps) (freed_links links ps) x
unfolding freed_spans freed_links
freed-here [] spans links x hs hl m = absurd (Memᴰ.not-nil m)
freed-here (i ∷ ps) spans links x hs hl m =
    at (among x ps) (freed-here ps (free_span spans i) (free_link links i) x (simp length-set hs) (simp length-set hl))
  where
    at : Dec (Memᴰ x ps) → (Memᴰ x ps
        → Free (freed_spans (free_span spans i) ps) (freed_links (free_link links i) ps) x)
        → Free (freed_spans (free_span spans i) ps) (freed_links (free_link links i) ps) x
    at (yes t) rec = rec t
    at (no out) rec = ⊎_elim
        (λ (e : x ≡ i). written_same (freed-other ps (free_span spans i) (free_link links i) x out)
        (subst (λ (y : ℕ). Free (free_span spans y) (free_link links y) x) e
        (put-here spans links x plus_zero plus_zero 0 0 hs hl)))
        rec
        (Memᴰ.cases_cons m)

pub freed-within : (n : ℕ) (ps : List ℕ) (spans : List Float) (links : List ℕ) → ((x : ℕ) → Memᴰ x ps → x < n)
    → Within n spans (freed_spans spans ps) links (freed_links links ps)
unfolding freed_spans freed_links
freed-within n [] spans links all = within_none n spans links
freed-within n (i ∷ ps) spans links all =
    within-then (within-put n spans links i plus_zero plus_zero 0 0 (all i (Memᴰ.head refl)))
    (freed-within n ps (free_span spans i) (free_link links i) (λ x m. all x (Memᴰ.tail m)))

-- ---- one turn of `free_chain`: the record that the chain comes to is freed, and the chain goes on at its next
pub record Turn (spans : List Float) (links : List ℕ) (n o k : ℕ) : Type 0 where
  pub chain : RecordChain (free_link links (k - 1)) n o (next_at links (k - 1))
      (places (free_link links (k - 1)) n (next_at links (k - 1)))
  pub spans_left : freed_spans spans (places links n k)
      ≡ freed_spans (free_span spans (k - 1)) (places (free_link links (k - 1)) n (next_at links (k - 1)))
  pub links_left : freed_links links (places links n k)
      ≡ freed_links (free_link links (k - 1)) (places (free_link links (k - 1)) n (next_at links (k - 1)))
  pub less : length (places (free_link links (k - 1)) n (next_at links (k - 1))) < length (places links n k)

pub turn : (spans : List Float) (links : List ℕ) (n o k : ℕ) → RecordChain links n o k (places links n k)
    → (k ≡ 0 → ⊥) → Turn spans links n o k
unfolding freed_spans freed_links Distinct
turn spans links n o k c ne =
    let s = chain-step links n o k c ne in
    let distinct : Distinct ((k - 1) ∷ places links n (next_at links (k - 1))) = subst Distinct s.read (chain-distinct links n o c) in
    let kept : RecordChain (free_link links (k - 1)) n o (next_at links (k - 1)) (places links n (next_at links (k - 1)))
    = chain-kept links (free_link links (k - 1)) n o s.next
    (λ x m. let p = put_other spans links (k - 1) plus_zero plus_zero 0 0 x
    (λ (e : x ≡ k - 1). distinct.0 (subst (λ (y : ℕ). Memᴰ y (places links n (next_at links (k - 1)))) e m))
    in (p.next, p.owner)) in
    let same : places links n (next_at links (k - 1)) ≡ places (free_link links (k - 1)) n (next_at links (k - 1)) =
    chain-places (free_link links (k - 1)) n o _ _ kept in
    record {
      chain = subst (λ (ps : List ℕ). RecordChain (free_link links (k - 1)) n o (next_at links (k - 1)) ps) same kept;
      spans_left = ap (freed_spans spans) s.read ∙ ap (freed_spans (free_span spans (k - 1))) same;
      links_left = ap (freed_links links) s.read ∙ ap (freed_links (free_link links (k - 1))) same;
      less = omega (arith, ap length s.read, ap length same);
    }

pub freed-end : (spans : List Float) (links : List ℕ) (n k : ℕ) → k ≡ 0
    → (freed_spans spans (places links n k) ≡ spans) × (freed_links links (places links n k) ≡ links)
unfolding freed_spans freed_links places
freed-end spans links zero k e = (refl, refl)
freed-end spans links (suc n) k e =
    (ap (λ (x : ℕ). freed_spans spans (places links (suc n) x)) e, ap (λ (x : ℕ). freed_links links (places links (suc n) x)) e)

-- ---- list j of a sound store is freed
module _ (n m total : ℕ) (c : Cells) (s : ChainsSound n m total c) (room : Room n m c) (j : ℕ) (j<m : j < m) where
  counted : (x : ℕ) → Memᴰ x (places_of n c.links c.heads j) → x < n
  counted x m = (chain-owner c.links n (suc j) (s.chains j j<m) x m).0

  freed-replaces : Replaces n m c (freed_list n c j) j []
  unfolding freed_list
  freed-replaces =
      let ps : List ℕ = places_of n c.links c.heads j in
      let none : RecordChain (freed_links c.links ps) n (suc j) 0 [] = ends in
      let head-none : get_or (set c.heads j 0) j 0 ≡ 0 = get_or-set_same c.heads j 0 0 (omega (arith, room.in_heads)) in
      record {
        chain = subst (λ (k : ℕ). RecordChain (freed_links c.links ps) n (suc j) k []) (sym head-none) none;
        head = λ i ne. get_or-set_other c.heads j i 0 0 ne;
        cells = λ x out _. freed-other ps c.spans c.links x out;
        freed = λ x x<n mx u. absurd (let f =
            free-used (freed-here ps c.spans c.links x (omega (arith, room.in_spans))
            (omega (arith, room.in_links)) mx) in let z : ◌≡◌ {A = ℕ} 0 1 = cc in omega arith);
        apart = λ i i<m ne x mx mq. Memᴰ.not-nil mq;
      }

  pub freed-list : Replaced n m total c (freed_list n c j) j []
  freed-list = replaced n m total c (freed_list n c j) j [] s j<m freed-replaces

  pub freed-kept : CellsPastKept n m c (freed_list n c j)
  unfolding freed_list
  freed-kept =
      let w = freed-within n (places_of n c.links c.heads j) c.spans c.links counted in
      record {
        spans_size = w.spans_size;
        links_size = w.links_size;
        heads_size = length-set c.heads j 0;
        spans_past = w.spans_past;
        links_past = w.links_past;
        heads_past = drop-set-lt m c.heads j 0 j<m;
      }

-- ---- in the terms of `free_list`
pub freed-cells : (n : ℕ) (spans spans' : List Float) (links links' heads : List ℕ) (j : ℕ)
    → spans' ≡ freed_spans spans (places_of n links heads j) → links' ≡ freed_links links (places_of n links heads j)
    → cells spans' links' (set heads j 0) ≡ freed_list n (cells spans links heads) j
unfolding freed_list
freed-cells n spans spans' links links' heads j es el = ap (λ (l : List Float). cells l links' (set heads j 0)) es
    ∙ ap (λ (l : List ℕ). cells (freed_spans spans (places_of n links heads j)) l (set heads j 0)) el
