-- What a commit does to a store: the lists of all changed rays are freed, then laid again in order, each from the lowest free record.
use Rattle.std.specs.Prelude.{◌≡◌, List, [], ◌∷◌, ℕ, suc, ◌+◌, ◌*◌, ◌/◌, length, take, drop, set, Float}
use Rattle.store.specs.Store.{places_of, freed_spans, freed_links, free_from, filled_spans, filled_links, head_of, Cells}

-- a list and the ends that it is to hold
pub record Update : Type 0 where
  pub list : ℕ
  pub ends : List Float

abbrev pub update : ℕ → List Float → Update
update list ends = record { list = list; ends = ends }

-- so many pairs of a flat list, from cell `at` on
abbrev pub pairs_from : List Float → ℕ → ℕ → List Float
pairs_from pairs at n = take (2 * n) (drop at pairs)

-- the store with the records of list j free and its head zero
unfoldable pub freed_list : ℕ → Cells → ℕ → Cells
unfolding freed_spans freed_links
freed_list n c j = record {
  spans = freed_spans c.spans (places_of n c.links c.heads j);
  links = freed_links c.links (places_of n c.links c.heads j);
  heads = set c.heads j 0;
}

unfoldable pub freed_all : ℕ → Cells → List Update → Cells
unfolding freed_list
freed_all n c [] = c
freed_all n c (u ∷ us) = freed_all n (freed_list n c u.list) us

-- the places that a list of so many pairs takes: the lowest free ones
unfoldable pub lowest_free : ℕ → Cells → ℕ → List ℕ
unfolding free_from
lowest_free n c k = take k (free_from c.spans c.links 0 n)

-- the store with one list laid from the lowest free record
unfoldable pub laid_list : ℕ → Cells → Update → Cells
unfolding lowest_free filled_spans filled_links
laid_list n c u = record {
  spans = filled_spans c.spans (lowest_free n c (length u.ends / 2)) u.ends;
  links = filled_links c.links (suc u.list) (lowest_free n c (length u.ends / 2));
  heads = set c.heads u.list (head_of (lowest_free n c (length u.ends / 2)));
}

unfoldable pub laid_all : ℕ → Cells → List Update → Cells
unfolding laid_list
laid_all n c [] = c
laid_all n c (u ∷ us) = laid_all n (laid_list n c u) us

-- freed first, all of them, then laid in order
unfoldable pub applied : ℕ → Cells → List Update → Cells
unfolding freed_all laid_all
applied n c us = laid_all n (freed_all n c us) us

-- ---- what the updates count, and what they leave alone
-- how many records the lists to be updated have, and how many the updates take
unfoldable pub pairs_freed : ℕ → Cells → List Update → ℕ
pairs_freed n c [] = 0
pairs_freed n c (u ∷ us) = length (places_of n c.links c.heads u.list) + pairs_freed n c us

unfoldable pub pairs_laid : List Update → ℕ
pairs_laid [] = 0
pairs_laid (u ∷ us) = length u.ends / 2 + pairs_laid us

-- the sizes, and the cells past n records and m heads, are as before
pub record CellsPastKept (n m : ℕ) (c d : Cells) : Type 0 where
  pub spans_size : length d.spans ≡ length c.spans
  pub links_size : length d.links ≡ length c.links
  pub heads_size : length d.heads ≡ length c.heads
  pub spans_past : drop (2 * n) d.spans ≡ drop (2 * n) c.spans
  pub links_past : drop (2 * n) d.links ≡ drop (2 * n) c.links
  pub heads_past : drop m d.heads ≡ drop m c.heads
