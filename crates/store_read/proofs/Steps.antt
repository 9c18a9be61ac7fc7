-- One record of a chain that is read: its pair, and the list from the next record on.
use mathlib.Core.Path.{◌≡◌, refl, ap}
use mathlib.Core.List.{List, [], ◌∷◌}
use Prim.Native.Nat.{ℕ, suc, ◌+◌, ◌-◌, ◌*◌, ◌≤◌, ◌<◌}
use native.Mathlib.Omega.{arith}
use lib.Ieee.{Float}
use lib.ListN.{length, get_or}
use Rattle.store.specs.Store.{lo_at, hi_at, next_at, places, ends_at, ChainsSound, list_from, Cells}
use Rattle.store.proofs.Chains.{ChainStep, chain-step, less-step, places-zero}
use Rattle.store_read.specs.Reading.{Linked, Readable}

module _ {n : ℕ} {links : List ℕ} {k : ℕ} (r : Linked n links k) (ne : k ≡ 0 → ⊥) where
  pub link-step : ChainStep links n r.owner k
  link-step = chain-step links n r.owner k r.chain ne

  pub link-next : Linked n links (next_at links (k - 1))
  link-next = record { in_links = r.in_links; owner = r.owner; chain = link-step.next }

pub record Step (n : ℕ) (spans : List Float) (links : List ℕ) (k : ℕ) : Type 0 where
  pub counted : k - 1 < n
  pub read : list_from n spans links k ≡ lo_at spans (k - 1) ∷ hi_at spans (k - 1) ∷ list_from n spans links (next_at links (k - 1))
  pub next : Readable n spans links (next_at links (k - 1))
  pub less : length (places links n (next_at links (k - 1))) < length (places links n k)

pub step : {n : ℕ} {spans : List Float} {links : List ℕ} {k : ℕ} → Readable n spans links k → (k ≡ 0 → ⊥) → Step n spans links k
unfolding ends_at
step {n} {spans} {links} {k} r ne =
    let s = link-step r.linked ne in
    record {
      counted = s.counted;
      read = ap (ends_at spans) s.read;
      next = record { in_spans = r.in_spans; linked = link-next r.linked ne };
      less = less-step links n r.linked.owner k r.linked.chain ne;
    }

-- the record's cells are there
pub record-there : {n : ℕ} {spans : List Float} {links : List ℕ} {k : ℕ} → Readable n spans links k → (k ≡ 0 → ⊥)
    → (2 * (k - 1) + 1 < length spans) × (2 * (k - 1) < length links)
record-there r ne = let h = (link-step r.linked ne).counted in
    (omega (arith, h, r.in_spans), omega (arith, h, r.linked.in_links))

pub no-ends : (n : ℕ) (spans : List Float) (links : List ℕ) (k : ℕ) → k ≡ 0 → list_from n spans links k ≡ []
unfolding ends_at
no-ends n spans links k e = ap (ends_at spans) (places-zero links n k e)

pub ends-length : (spans : List Float) (ps : List ℕ) → length (ends_at spans ps) ≡ 2 * length ps
unfolding ends_at
ends-length spans [] = refl
ends-length spans (i ∷ ps) = omega (arith, ends-length spans ps)

-- each list of a sound store can be read
pub readable : {n m total : ℕ} {c : Cells} → ChainsSound n m total c → 2 * n ≤ length c.spans
    → 2 * n ≤ length c.links → (j : ℕ) → j < m → Readable n c.spans c.links (get_or c.heads j 0)
readable s hs hl j h = record { in_spans = hs; linked = record { in_links = hl; owner = suc j; chain = s.chains j h } }
