-- A sound store stays sound when an empty list of it is laid from the lowest free records: that list then holds the
-- pairs, and each other list is what it was.
use mathlib.Core.Path.{◌≡◌, refl, sym, ap, ◌∙◌, subst}
use mathlib.Core.Bool.{true, false}
use mathlib.Core.List.Memᴰ
use mathlib.Core.List.{List, [], ◌∷◌, Memᴰ}
use Prim.Native.Nat.{ℕ, suc, ◌+◌, ◌-◌, ◌*◌, ◌/◌, ◌%◌, ◌≤◌, ◌<◌}
use native.Mathlib.Nat.{div-add-mod'}
use native.Mathlib.Numerals.{add-one}
use native.Mathlib.Omega.{arith}
use lib.Ieee.{Float, nan}
use lib.ListN.{length, get_or, set, take, drop, length-set, length-drop}
use lib.Seq.{get_or-set_other, get_or-set_same, drop-set-lt}
use Rattle.store.specs.Store.{used_at, places_of, RecordChain, ends, more, ends_at, free_from, head_of, filled_links, filled_spans}
use Rattle.store.specs.Store.{put_span, put_link, Cells, cells, ChainsSound, store_list}
use Rattle.store.specs.Updates.{Update, update, pairs_from, CellsPastKept, lowest_free, laid_list}
use Rattle.store.specs.Fills.{FreeCursor, FillListPost}
use Rattle.store.proofs.Counting.{Distinct}
use Rattle.store.proofs.Records.{Same, same_refl, same-trans, put_other, put-here, written_same, owned-used, Within}
use Rattle.store.proofs.Records.{within_none, within-put, within-then}
use Rattle.store.proofs.Chains.{chain-owner}
use Rattle.store.proofs.FreePlaces.{free-records, lowest-free, lowest-distinct, lowest-length}
use Rattle.store.proofs.Replacing.{Replaces, Replaced, replaced}
use Rattle.store.specs.Steps.{Room, LayListPost}

-- ---- the records at the places
pub filled-other : (ps : List ℕ) (spans : List Float) (links : List ℕ) (o : ℕ) (pairs : List Float) (x : ℕ)
    → (Memᴰ x ps → ⊥) → Same spans (filled_spans spans ps pairs) links (filled_links links o ps) x
unfolding filled_spans filled_links
filled-other [] spans links o pairs x out = same_refl spans links x
filled-other (i ∷ ps) spans links o pairs x out =
    same-trans (put_other spans links i (get_or pairs 0 nan) (get_or pairs 1 nan) (head_of ps) o x (λ (e : x ≡ i). out (Memᴰ.head e)))
    (filled-other ps (put_span spans i (get_or pairs 0 nan) (get_or pairs 1 nan)) (put_link links i (head_of ps) o) o
    (drop 2 pairs) x (λ m. out (Memᴰ.tail m)))

pub filled_within : (n : ℕ) (ps : List ℕ) (spans : List Float) (links : List ℕ) (o : ℕ) (pairs : List Float)
    → ((x : ℕ) → Memᴰ x ps → x < n) → Within n spans (filled_spans spans ps pairs) links (filled_links links o ps)
unfolding filled_spans filled_links
filled_within n [] spans links o pairs all = within_none n spans links
filled_within n (i ∷ ps) spans links o pairs all =
    within-then (within-put n spans links i (get_or pairs 0 nan) (get_or pairs 1 nan) (head_of ps) o (all i (Memᴰ.head refl)))
    (filled_within n ps (put_span spans i (get_or pairs 0 nan) (get_or pairs 1 nan)) (put_link links i (head_of ps) o) o
    (drop 2 pairs) (λ x m. all x (Memᴰ.tail m)))

pub filled-chain : (ps : List ℕ) (spans : List Float) (links : List ℕ) (n o : ℕ) (pairs : List Float) → Distinct ps
    → ((x : ℕ) → Memᴰ x ps → x < n) → 2 * n ≤ length spans → 2 * n ≤ length links
    → RecordChain (filled_links links o ps) n o (head_of ps) ps
unfolding filled_spans filled_links Distinct
filled-chain [] spans links n o pairs d all hs hl = ends
filled-chain (i ∷ ps) spans links n o pairs d all hs hl =
    let i<n : i < n = all i (Memᴰ.head refl) in
    let spans' : List Float = put_span spans i (get_or pairs 0 nan) (get_or pairs 1 nan) in
    let links' : List ℕ = put_link links i (head_of ps) o in
    let here = written_same (filled-other ps spans' links' o (drop 2 pairs) i d.0)
    (put-here spans links i (get_or pairs 0 nan) (get_or pairs 1 nan) (head_of ps) o (omega arith) (omega arith)) in
    let rest = filled-chain ps spans' links' n o (drop 2 pairs) d.1 (λ x m. all x (Memᴰ.tail m))
    (simp length-set hs) (simp length-set hl) in
    more i<n here.owner (subst (λ (k : ℕ). RecordChain (filled_links links' o ps) n o k ps) (sym here.next) rest)

two-more : (pairs : List Float) → 2 ≤ length pairs → get_or pairs 0 nan ∷ get_or pairs 1 nan ∷ drop 2 pairs ≡ pairs
two-more [] h = absurd (omega arith)
two-more (x ∷ []) h = absurd (omega arith)
two-more (x ∷ y ∷ l) h = refl

pub filled-ends : (ps : List ℕ) (spans : List Float) (links : List ℕ) (n o : ℕ) (pairs : List Float) → Distinct ps
    → ((x : ℕ) → Memᴰ x ps → x < n) → 2 * n ≤ length spans → 2 * n ≤ length links
    → length pairs ≡ 2 * length ps → ends_at (filled_spans spans ps pairs) ps ≡ pairs
unfolding filled_spans filled_links ends_at Distinct
filled-ends [] spans links n o [] d all hs hl size = refl
filled-ends [] spans links n o (x ∷ pairs) d all hs hl size = absurd (omega arith)
filled-ends (i ∷ ps) spans links n o pairs d all hs hl size =
    let i<n : i < n = all i (Memᴰ.head refl) in
    let spans' : List Float = put_span spans i (get_or pairs 0 nan) (get_or pairs 1 nan) in
    let links' : List ℕ = put_link links i (head_of ps) o in
    let here = written_same (filled-other ps spans' links' o (drop 2 pairs) i d.0)
    (put-here spans links i (get_or pairs 0 nan) (get_or pairs 1 nan) (head_of ps) o (omega arith) (omega arith)) in
    let left : length (drop 2 pairs) ≡ 2 * length ps = simp length-drop (omega arith) in
    let rest : ends_at (filled_spans spans' ps (drop 2 pairs)) ps ≡ drop 2 pairs =
    filled-ends ps spans' links' n o (drop 2 pairs) d.1 (λ x m. all x (Memᴰ.tail m)) (simp length-set hs)
    (simp length-set hl) left in
    simp (here.lo, here.hi, rest) (two-more pairs (omega arith))

-- ---- an empty list of a sound store is laid
module _ (n m total : ℕ) (c : Cells) (s : ChainsSound n m total c) (room : Room n m c) (u : Update) (j<m : u.list < m)
    (empty : places_of n c.links c.heads u.list ≡ []) (fits : length u.ends / 2 + total ≤ n) where
  abbrev count : ℕ
  count = length u.ends / 2

  pub enough-free : count ≤ length (free_from c.spans c.links 0 n)
  enough-free = omega (arith, free-records n m total c.spans c.links c.heads s)

  taken-counted : (x : ℕ) → Memᴰ x (lowest_free n c count) → x < n
  unfolding lowest_free
  taken-counted x mx = (lowest-free c.spans c.links n count x mx).0

  taken_free : (x : ℕ) → Memᴰ x (lowest_free n c count) → used_at c.spans c.links x ≡ false
  unfolding lowest_free
  taken_free x mx = (lowest-free c.spans c.links n count x mx).1

  taken-distinct : Distinct (lowest_free n c count)
  unfolding lowest_free
  taken-distinct = lowest-distinct c.spans c.links n count

  pub taken-length : length (lowest_free n c count) ≡ count
  unfolding lowest_free
  taken-length = lowest-length c.spans c.links n count enough-free

  laid-replaces : Replaces n m c (laid_list n c u) u.list (lowest_free n c count)
  unfolding laid_list
  laid-replaces =
      let head-new : get_or (set c.heads u.list (head_of (lowest_free n c count))) u.list 0
      ≡ head_of (lowest_free n c count) =
      get_or-set_same c.heads u.list (head_of (lowest_free n c count)) 0 (omega (arith, room.in_heads)) in
      let run = filled-chain (lowest_free n c count) c.spans c.links n (suc u.list) u.ends
      taken-distinct taken-counted room.in_spans room.in_links in
      record {
        chain = subst (λ (k : ℕ). RecordChain (filled_links c.links (suc u.list) (lowest_free n c count)) n
            (suc u.list) k (lowest_free n c count)) (sym head-new) run;
        head = λ i ne. get_or-set_other c.heads u.list i (head_of (lowest_free n c count)) 0 ne;
        cells = λ x _ out. filled-other (lowest_free n c count) c.spans c.links (suc u.list) u.ends x out;
        freed = λ x x<n mx _. absurd (Memᴰ.not-nil (subst (Memᴰ x) empty mx));
        apart = λ i i<m ne x mx mq.
            let busy : used_at c.spans c.links x ≡ true =
            owned-used c.spans c.links x i (chain-owner c.links n (suc i) (s.chains i i<m) x mx).1 in
            let idle : used_at c.spans c.links x ≡ false = taken_free x mq in
            let z : ◌≡◌ {A = ℕ} 0 1 = cc in
            omega arith;
      }

  pub laid-list : Replaced n m total c (laid_list n c u) u.list (lowest_free n c count)
  laid-list = replaced n m total c (laid_list n c u) u.list (lowest_free n c count) s j<m laid-replaces

  pub laid-sound : ChainsSound n m (total + count) (laid_list n c u)
  laid-sound = laid-list.is_sound (total + count) (omega (arith, taken-length, ap length empty))

  pub laid-held : length u.ends % 2 ≡ 0 → store_list n (laid_list n c u) u.list ≡ u.ends
  unfolding laid_list
  laid-held whole =
      let size : length u.ends ≡ 2 * length (lowest_free n c count) = omega (arith, taken-length, div-add-mod' (length u.ends) 2) in
      ap (ends_at (filled_spans c.spans (lowest_free n c count) u.ends)) laid-list.here
      ∙ filled-ends (lowest_free n c count) c.spans c.links n (suc u.list) u.ends
      taken-distinct taken-counted room.in_spans room.in_links size

  pub laid_kept : CellsPastKept n m c (laid_list n c u)
  unfolding laid_list
  laid_kept =
      let w = filled_within n (lowest_free n c count) c.spans c.links (suc u.list) u.ends taken-counted in
      record {
        spans_size = w.spans_size;
        links_size = w.links_size;
        heads_size = length-set c.heads u.list (head_of (lowest_free n c count));
        spans_past = w.spans_past;
        links_past = w.links_past;
        heads_past = drop-set-lt m c.heads u.list (head_of (lowest_free n c count)) j<m;
      }

-- ---- in the terms of `lay_list`
module _ (n : ℕ) (spans : List Float) (links heads : List ℕ) (j : ℕ) (pairs : List Float) where
  pub laid_none : (from : ℕ) → length pairs / 2 ≡ 0 → FreeCursor n spans links from
      → LayListPost n (cells spans links heads) (update j pairs) from (cells spans links (set heads j 0))
  unfolding laid_list lowest_free filled_spans filled_links
  laid_none from e k = record { left = sym same; onward = k }
    where
      same : laid_list n (cells spans links heads) (update j pairs) ≡ cells spans links (set heads j 0)
      same = ap (λ (t : ℕ). cells (filled_spans spans (take t (free_from spans links 0 n)) pairs)
          (filled_links links (suc j) (take t (free_from spans links 0 n)))
          (set heads j (head_of (take t (free_from spans links 0 n))))) e

  pub laid-some : (head cursor : ℕ) (spans' : List Float) (links' : List ℕ)
      → FillListPost n spans links (j + 1) pairs (length pairs / 2) head cursor spans' links'
      → LayListPost n (cells spans links heads) (update j pairs) cursor (cells spans' links' (set heads j head))
  unfolding laid_list lowest_free
  laid-some head cursor spans' links' f = record { left = same; onward = f.onward }
    where
      same : cells spans' links' (set heads j head) ≡ laid_list n (cells spans links heads) (update j pairs)
      same =
          let ps : List ℕ = take (length pairs / 2) (free_from spans links 0 n) in
          ap (λ (l : List Float). cells l links' (set heads j head)) f.spans_left
          ∙ ap (λ (l : List ℕ). cells (filled_spans spans ps pairs) l (set heads j head))
          (f.links_left ∙ ap (λ (o : ℕ). filled_links links o ps) (add-one j))
          ∙ ap (λ (h : ℕ). cells (filled_spans spans ps pairs) (filled_links links (suc j) ps) (set heads j h)) f.at

-- a part of the pairs as a call lends it
pub part-is : (pairs : List Float) (at n : ℕ) → take (at + 2 * n - at) (drop at pairs) ≡ pairs_from pairs at n
part-is pairs at n = ap (λ (k : ℕ). take k (drop at pairs)) (back at (2 * n))
  where
    back : (a b : ℕ) → a + b - a ≡ b
    back a b = omega arith
