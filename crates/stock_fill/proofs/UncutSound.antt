-- The laws of the uncut store.
--     uncut-at      each record of it
--     uncut-lists   each list is the full pair along its ray
--     uncut-sound   it is sound
--     uncut-kept    the cells that do not count are as before
use mathlib.Core.Path.{◌≡◌, refl, sym, ap, ◌∙◌, subst}
use mathlib.Core.Bool.{Bool, true, false}
use mathlib.Core.List.{List, [], ◌∷◌, ◌++◌, Memᴰ}
use Prim.Native.Nat.{ℕ, zero, suc, ◌+◌, ◌*◌, ◌/◌, ◌≤◌, ◌<◌}
use native.Mathlib.Decide.{ℕ_discrete}
use native.Mathlib.Numerals.{add-one}
use native.Mathlib.Omega.{arith}
use lib.Dec.{ltb}
use lib.Ieee.{Float, lt, le}
use lib.ListN.{length, get_or, drop}
use lib.Seq.{get_or-set_other, get_or-set_same, drop-set-lt}
use borrow.Author.Tests.{ltb-true, ltb-false}
use Rattle.logic.proofs.Bools.{both, clash}
use Rattle.doubles.proofs.Order.{lt-number, le_refl, lt→le}
use Rattle.spans.specs.Spans.{rising, sound}
use Rattle.grid.specs.Rays.{ray_count, ray_axis, bounds_of}
use Rattle.grid.specs.declared.DexelStockSpec.{DexelStockSpec}
use Rattle.grid.specs.declared.DexelGrid.{DexelGrid}
use Rattle.store.specs.Store.{lo_at, hi_at, owner_at, used_at, RecordChain, ends, more, places_of, chained, ends_at, ChainsSound, Cells}
use Rattle.store.specs.Store.{store_list}
use Rattle.store.specs.Updates.{CellsPastKept}
use Rattle.store.proofs.Records.{Written, written_same, put_other, put-here, Within, within_none, within-then, within-put, free-used}
use Rattle.store.proofs.Chains.{chain-places}
use Rattle.store.proofs.Replacing.{mem-to}
use Rattle.spans.specs.Rays.{bounded, ValidRay}
use Rattle.stock.specs.Stock.{SoundStock, ray_list, Possible, Certain}
use Rattle.stock_fill.specs.Uncut.{record_at, uncut_spans, uncut_links, uncut_heads, uncut}
use Rattle.stock_fill.specs.declared.UncutRecord.{UncutRecord}
use Rattle.stock_fill.proofs.Uncut.{rec, record-listed, record-free, spans-length, links-length, heads-length}
use Rattle.grid.specs.Facts.{GridFacts}
use Rattle.stock.specs.Steps.{StockRoom}

-- ---- the ray of one full pair
full-valid : (lo hi : Float) → lt lo hi ≡ true → ValidRay lo hi (lo ∷ hi ∷ []) (lo ∷ hi ∷ [])
full-valid lo hi h = record {
  possible_sound = rises;
  certain_sound = rises;
  possible_bounded = bound;
  certain_bounded = bound;
  inside = λ p e. e;
}
  where
    rises : sound (lo ∷ hi ∷ []) ≡ true
    rises = unfold sound rising in both (lt lo hi) true h refl

    bound : bounded lo hi (lo ∷ hi ∷ []) ≡ true
    bound = let n = lt-number lo hi h in
        unfold bounded in
        both (le lo lo) _ (le_refl lo n.0)
        (both (le lo hi) _ (lt→le lo hi h)
        (both (le lo hi) _ (lt→le lo hi h) (both (le hi hi) true (le_refl hi n.1) refl)))

-- ---- each cell
module _ (spec : DexelStockSpec) (g : DexelGrid) (spans : List Float) (links : List ℕ) where
  pub uncut-at : (k i : ℕ) → i < k → 2 * k ≤ length spans → 2 * k ≤ length links
      → Written (uncut_spans spec g k spans) (uncut_links spec g k links) i (record_at spec g i).lo
      (record_at spec g i).hi 0 (record_at spec g i).owner
  unfolding uncut_spans uncut_links
  uncut-at zero i h hs hl = absurd (omega arith)
  uncut-at (suc k) i h hs hl = at (ℕ_discrete i k) (λ (l : i < k). uncut-at k i l (omega arith) (omega arith))
    where
      at : Dec (i ≡ k) → (i < k → Written (uncut_spans spec g k spans) (uncut_links spec g k links) i
          (record_at spec g i).lo (record_at spec g i).hi 0 (record_at spec g i).owner)
          → Written (uncut_spans spec g (suc k) spans) (uncut_links spec g (suc k) links) i (record_at spec g i).lo
          (record_at spec g i).hi 0 (record_at spec g i).owner
      at (yes e) below =
          subst (λ (x : ℕ). Written (uncut_spans spec g (suc k) spans) (uncut_links spec g (suc k) links) x
          (record_at spec g x).lo (record_at spec g x).hi 0 (record_at spec g x).owner) (sym e)
          (put-here (uncut_spans spec g k spans) (uncut_links spec g k links) k (record_at spec g k).lo
          (record_at spec g k).hi 0 (record_at spec g k).owner
          (omega (arith, spans-length spec g k spans)) (omega (arith, links-length spec g k links)))
      at (no ne) below =
          written_same (put_other (uncut_spans spec g k spans) (uncut_links spec g k links) k (record_at spec g k).lo
          (record_at spec g k).hi 0 (record_at spec g k).owner i ne)
          (below (let l : (i ≡ k → ⊥) = ne in omega arith))

  pub uncut-within : (k n : ℕ) → k ≤ n → Within n spans (uncut_spans spec g k spans) links (uncut_links spec g k links)
  unfolding uncut_spans uncut_links
  uncut-within zero n h = within_none n spans links
  uncut-within (suc k) n h =
      within-then (uncut-within k n (omega arith))
      (within-put n (uncut_spans spec g k spans) (uncut_links spec g k links) k (record_at spec g k).lo
      (record_at spec g k).hi 0 (record_at spec g k).owner (omega arith))

pub head_at : (heads : List ℕ) (k j : ℕ) → j < k → k ≤ length heads → get_or (uncut_heads k heads) j 0 ≡ suc j
unfolding uncut_heads
head_at heads zero j h fits = absurd (omega arith)
head_at heads (suc k) j h fits = at (ℕ_discrete j k) (λ (l : j < k). head_at heads k j l (omega arith))
  where
    at : Dec (j ≡ k) → (j < k → get_or (uncut_heads k heads) j 0 ≡ suc j) → get_or (uncut_heads (suc k) heads) j 0 ≡ suc j
    at (yes e) below =
        subst (λ (x : ℕ). get_or (uncut_heads (suc k) heads) x 0 ≡ suc x) (sym e)
        (get_or-set_same (uncut_heads k heads) k (k + 1) 0 (omega (arith, heads-length k heads)) ∙ add-one k)
    at (no ne) below = get_or-set_other (uncut_heads k heads) k j (k + 1) 0 ne ∙ below (let l : (j ≡ k → ⊥) = ne in omega arith)

heads_past : (heads : List ℕ) (k m : ℕ) → k ≤ m → drop m (uncut_heads k heads) ≡ drop m heads
unfolding uncut_heads
heads_past heads zero m h = refl
heads_past heads (suc k) m h = drop-set-lt m (uncut_heads k heads) k (k + 1) (omega arith) ∙ heads_past heads k m (omega arith)

-- ---- chains of one record each
one_each : (n : ℕ) (links heads : List ℕ) (r a : ℕ)
    → ((i : ℕ) → a ≤ i → i < a + r → places_of n links heads i ≡ i ∷ []) → length (chained n links heads a r) ≡ r
unfolding chained
one_each n links heads zero a all = refl
one_each n links heads (suc r) a all =
    let rest : length (chained n links heads (suc a) r) ≡ r =
    one_each n links heads r (suc a) (λ i lo hi. all i (omega arith) (omega arith)) in
    ap (λ (p : List ℕ). length (p ++ chained n links heads (suc a) r)) (all a (omega arith) (omega arith)) ∙ ap suc rest

pair_of : (spans : List Float) (ps : List ℕ) (i : ℕ) → ps ≡ i ∷ [] → ends_at spans ps ≡ lo_at spans i ∷ hi_at spans i ∷ []
unfolding ends_at
pair_of spans ps i e = ap (ends_at spans) e

module _ (spec : DexelStockSpec) (g : DexelGrid) (before : Cells) (facts : GridFacts spec g)
    (room : StockRoom spec g before) where
  at : (i : ℕ) → i < spec.max_intervals
      → Written (uncut spec g before).spans (uncut spec g before).links i (record_at spec g i).lo
      (record_at spec g i).hi 0 (record_at spec g i).owner
  at i h = uncut-at spec g before.spans before.links spec.max_intervals i h room.in_spans room.in_links

  listed : (i : ℕ) → i < 2 * ray_count g → record_at spec g i ≡ rec (bounds_of spec g (i / 2)).lo (bounds_of spec g (i / 2)).hi (i + 1)
  listed i h = sym (record-listed spec g i (bounds_of spec g (i / 2)) h refl)

  owner-is : (j : ℕ) → j < 2 * ray_count g → owner_at (uncut spec g before).links j ≡ suc j
  owner-is j h = (at j (omega (arith, facts.budget))).owner ∙ ap (λ (r : UncutRecord). r.owner) (listed j h) ∙ add-one j

  chain-one : (j : ℕ) → j < 2 * ray_count g
      → RecordChain (uncut spec g before).links spec.max_intervals (suc j)
      (get_or (uncut spec g before).heads j 0) (j ∷ [])
  chain-one j h =
      subst (λ (k : ℕ). RecordChain (uncut spec g before).links spec.max_intervals (suc j) k (j ∷ []))
      (sym (head_at before.heads (2 * ray_count g) j h room.in_heads))
      (more (omega (arith, facts.budget)) (owner-is j h)
      (subst (λ (k : ℕ). RecordChain (uncut spec g before).links spec.max_intervals (suc j) k [])
      (sym (at j (omega (arith, facts.budget))).next) ends))

  pub place_is : (j : ℕ) → j < 2 * ray_count g
      → places_of spec.max_intervals (uncut spec g before).links (uncut spec g before).heads j ≡ j ∷ []
  place_is j h = sym (chain-places (uncut spec g before).links spec.max_intervals (suc j)
      (get_or (uncut spec g before).heads j 0) (j ∷ []) (chain-one j h))

  pub uncut-list : (j : ℕ) → j < 2 * ray_count g → store_list spec.max_intervals (uncut spec g before) j
      ≡ (bounds_of spec g (j / 2)).lo ∷ (bounds_of spec g (j / 2)).hi ∷ []
  uncut-list j h =
      let w = at j (omega (arith, facts.budget)) in
      pair_of (uncut spec g before).spans
      (places_of spec.max_intervals (uncut spec g before).links (uncut spec g before).heads j) j (place_is j h)
      ∙ ap (λ (x : Float). x ∷ hi_at (uncut spec g before).spans j ∷ []) (w.lo ∙ ap (λ (r : UncutRecord). r.lo) (listed j h))
      ∙ ap (λ (x : Float). (bounds_of spec g (j / 2)).lo ∷ x ∷ []) (w.hi ∙ ap (λ (r : UncutRecord). r.hi) (listed j h))

  -- each ray's lists are the full pair from the box's lower to its upper bound
  pub uncut-lists : (ray : ℕ) → ray < ray_count g
      → (ray_list spec (uncut spec g before) ray Possible ≡ (bounds_of spec g ray).lo ∷ (bounds_of spec g ray).hi ∷ [])
      × (ray_list spec (uncut spec g before) ray Certain ≡ (bounds_of spec g ray).lo ∷ (bounds_of spec g ray).hi ∷ [])
  uncut-lists ray h =
      let p : 2 * ray / 2 ≡ ray = omega arith in
      let c : (2 * ray + 1) / 2 ≡ ray = omega arith in (
        uncut-list (2 * ray) (omega arith) ∙ ap (λ (r : ℕ). (bounds_of spec g r).lo ∷ (bounds_of spec g r).hi ∷ []) p,
        uncut-list (2 * ray + 1) (omega arith) ∙ ap (λ (r : ℕ). (bounds_of spec g r).lo ∷ (bounds_of spec g r).hi ∷ []) c,
      )

  in_use : (i : ℕ) → i < spec.max_intervals → used_at (uncut spec g before).spans (uncut spec g before).links i
      ≡ true → i < 2 * ray_count g
  in_use i h u = go (ltb i (2 * ray_count g)) refl
    where
      go : (b : Bool) → ltb i (2 * ray_count g) ≡ b → i < 2 * ray_count g
      go true e = ltb-true i (2 * ray_count g) e
      go false e =
          absurd (clash (used_at (uncut spec g before).spans (uncut spec g before).links i) u
          (free-used (subst (λ (r : UncutRecord). Written (uncut spec g before).spans (uncut spec g before).links i
          r.lo r.hi 0 r.owner) (sym (record-free spec g i (ltb-false i (2 * ray_count g) e))) (at i h))))

  store : ChainsSound spec.max_intervals (2 * ray_count g) (2 * ray_count g) (uncut spec g before)
  store = record {
    chains = λ j h. subst (RecordChain (uncut spec g before).links spec.max_intervals (suc j)
        (get_or (uncut spec g before).heads j 0)) (sym (place_is j h)) (chain-one j h);
    others = λ i h u. let l : i < 2 * ray_count g = in_use i h u in
        mem-to spec.max_intervals (uncut spec g before).links (uncut spec g before).heads (2 * ray_count g)
        0 i i (omega arith) (omega arith) (subst (Memᴰ i) (sym (place_is i l)) (Memᴰ.head refl));
    counts = sym (one_each spec.max_intervals (uncut spec g before).links (uncut spec g before).heads
        (2 * ray_count g) 0 (λ i lo hi. place_is i (omega arith)));
  }

  in-box : (ray : ℕ) → lt (bounds_of spec g ray).lo (bounds_of spec g ray).hi ≡ true
  unfolding bounds_of
  in-box ray = facts.box (ray_axis g ray)

  pub uncut-sound : SoundStock spec g (record { cells = uncut spec g before; generation = 0; intervals = 2 * ray_count g })
  uncut-sound = record {
    store = store;
    valid = λ ray h. let l = uncut-lists ray h in
        subst (λ (c : List Float). ValidRay (bounds_of spec g ray).lo (bounds_of spec g ray).hi
        (ray_list spec (uncut spec g before) ray Possible) c) (sym l.1)
        (subst (λ (p : List Float). ValidRay (bounds_of spec g ray).lo (bounds_of spec g ray).hi p
        ((bounds_of spec g ray).lo ∷ (bounds_of spec g ray).hi ∷ [])) (sym l.0)
        (full-valid (bounds_of spec g ray).lo (bounds_of spec g ray).hi (in-box ray)));
  }

  pub uncut-kept : CellsPastKept spec.max_intervals (2 * ray_count g) before (uncut spec g before)
  uncut-kept = let w = uncut-within spec g before.spans before.links spec.max_intervals spec.max_intervals (omega arith) in
      record {
        spans_size = w.spans_size;
        links_size = w.links_size;
        heads_size = heads-length (2 * ray_count g) before.heads;
        spans_past = w.spans_past;
        links_past = w.links_past;
        heads_past = heads_past before.heads (2 * ray_count g) (2 * ray_count g) (omega arith);
      }
