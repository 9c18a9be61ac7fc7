-- The lent store. A pool of n records, numbered from 1, holds m lists. Record i + 1 stands at place i: its ends lo
-- and hi are cells 2i and 2i + 1 of the spans, its next and owner cells 2i and 2i + 1 of the links. List j has the
-- head at cell j of the heads, and owner j + 1: ray r's possible list is 2r, its certain list 2r + 1.
use Rattle.std.specs.Prelude.{◌≡◌, Bool, true, false, not, cond, ◌&&◌, ℕ, zero, suc, ◌+◌, ◌*◌, ◌<◌, eqb, pos, negsuc, Float}
use Rattle.std.specs.Prelude.{length, get_or, set, drop}
use mathlib.Core.List.{List, [], ◌∷◌, ◌++◌, Memᴰ}
use Rattle.std.specs.Float.{nan, inf, fin}
use Rattle.doubles.specs.Constants.{plus_zero}

-- the lent cells: lo and hi of each record; next and owner of each record; the head of each list
pub record Cells : Type 0 where
  pub spans : List Float
  pub links : List ℕ
  pub heads : List ℕ

abbrev pub cells : List Float → List ℕ → List ℕ → Cells
cells spans links heads = record { spans = spans; links = links; heads = heads }

-- ---- the cells of the record at place i
abbrev pub lo_at : List Float → ℕ → Float
lo_at spans i = get_or spans (2 * i) nan

abbrev pub hi_at : List Float → ℕ → Float
hi_at spans i = get_or spans (2 * i + 1) nan

abbrev pub next_at : List ℕ → ℕ → ℕ
next_at links i = get_or links (2 * i) 0

abbrev pub owner_at : List ℕ → ℕ → ℕ
owner_at links i = get_or links (2 * i + 1) 0

-- plus zero, which a free record's ends are
abbrev pub is_plus_zero : Float → Bool
is_plus_zero nan = false
is_plus_zero (inf s) = false
is_plus_zero (fin s (suc m) e) = false
is_plus_zero (fin s zero (negsuc e)) = false
is_plus_zero (fin s zero (pos (suc e))) = false
is_plus_zero (fin s zero (pos zero)) = not s

-- a record is free where all its cells are zero, and in use otherwise
unfoldable pub used_at : List Float → List ℕ → ℕ → Bool
used_at spans links i =
    not (is_plus_zero (lo_at spans i) && (is_plus_zero (hi_at spans i) && (eqb (next_at links i) 0 && eqb (owner_at links i) 0)))

-- ---- chains
-- The places that are come to from record number k, one after the other: at most `fuel` of them.
unfoldable pub places : List ℕ → ℕ → ℕ → List ℕ
places links zero k = []
places links (suc fuel) zero = []
places links (suc fuel) (suc i) = i ∷ places links fuel (next_at links i)

-- From record number k a chain runs over the places ps, of counted records of the owner o, to a zero.
pub data RecordChain (links : List ℕ) (n o : ℕ) : ℕ → List ℕ → Type 0 where
  ends : RecordChain links n o zero []
  more : {i : ℕ} {ps : List ℕ} → i < n → owner_at links i ≡ o → RecordChain links n o (next_at links i) ps
      → RecordChain links n o (suc i) (i ∷ ps)

-- the places of list j, in order. No record comes twice in a chain, so n are enough
abbrev pub places_of : ℕ → List ℕ → List ℕ → ℕ → List ℕ
places_of n links heads j = places links n (get_or heads j 0)

-- the places of the lists from j on, r of them
unfoldable pub chained : ℕ → List ℕ → List ℕ → ℕ → ℕ → List ℕ
chained n links heads j zero = []
chained n links heads j (suc r) = places_of n links heads j ++ chained n links heads (suc j) r

-- ---- a sound store, but for the validity of its rays
pub record ChainsSound (n m total : ℕ) (c : Cells) : Type 0 where
  pub chains : (j : ℕ) → j < m → RecordChain c.links n (suc j) (get_or c.heads j 0) (places_of n c.links c.heads j)
  pub others : (i : ℕ) → i < n → used_at c.spans c.links i ≡ true → Memᴰ i (chained n c.links c.heads 0 m)
  pub counts : total ≡ length (chained n c.links c.heads 0 m)

-- ---- what a store holds
-- the ends of the records at the places, as a flat list
unfoldable pub ends_at : List Float → List ℕ → List Float
ends_at spans [] = []
ends_at spans (i ∷ ps) = lo_at spans i ∷ hi_at spans i ∷ ends_at spans ps

-- the list whose first record is number k, as a flat list; of an empty list k is zero
abbrev pub list_from : ℕ → List Float → List ℕ → ℕ → List Float
list_from n spans links k = ends_at spans (places links n k)

-- list j of a store: what commit, volume and the model of a run speak of
abbrev pub store_list : ℕ → Cells → ℕ → List Float
store_list n c j = list_from n c.spans c.links (get_or c.heads j 0)

-- ---- freeing records
-- the cells of the spans and of the links with the record at place i free
abbrev pub free_span : List Float → ℕ → List Float
free_span spans i = set (set spans (2 * i) plus_zero) (2 * i + 1) plus_zero

abbrev pub free_link : List ℕ → ℕ → List ℕ
free_link links i = set (set links (2 * i) 0) (2 * i + 1) 0

-- and with the records at all the places free
unfoldable pub freed_spans : List Float → List ℕ → List Float
freed_spans spans [] = spans
freed_spans spans (i ∷ ps) = freed_spans (free_span spans i) ps

unfoldable pub freed_links : List ℕ → List ℕ → List ℕ
freed_links links [] = links
freed_links links (i ∷ ps) = freed_links (free_link links i) ps

-- ---- filling
-- the free places from c on, r places looked at, in order
unfoldable pub free_from : List Float → List ℕ → ℕ → ℕ → List ℕ
free_from spans links c zero = []
free_from spans links c (suc r) = cond (used_at spans links c) (free_from spans links (suc c) r) (c ∷ free_from spans links (suc c) r)

-- the number of the record at the first of the places, and zero where there is none
abbrev pub head_of : List ℕ → ℕ
head_of [] = 0
head_of (i ∷ ps) = suc i

-- the cells with the record at place i written
abbrev pub put_span : List Float → ℕ → Float → Float → List Float
put_span spans i lo hi = set (set spans (2 * i) lo) (2 * i + 1) hi

abbrev pub put_link : List ℕ → ℕ → ℕ → ℕ → List ℕ
put_link links i next o = set (set links (2 * i) next) (2 * i + 1) o

-- the links with the records at the places made a chain of the owner o
unfoldable pub filled_links : List ℕ → ℕ → List ℕ → List ℕ
filled_links links o [] = links
filled_links links o (i ∷ ps) = filled_links (put_link links i (head_of ps) o) o ps

-- and the spans with the flat list of pairs in them
unfoldable pub filled_spans : List Float → List ℕ → List Float → List Float
filled_spans spans [] pairs = spans
filled_spans spans (i ∷ ps) pairs = filled_spans (put_span spans i (get_or pairs 0 nan) (get_or pairs 1 nan)) ps (drop 2 pairs)
