-- Copying the pairs of a chain, one place after the other.
use mathlib.Core.Path.{◌≡◌, refl, sym, ap, ◌∙◌, subst}
use mathlib.Core.List.{List, [], ◌∷◌}
use Prim.Native.Nat.{ℕ, suc, ◌+◌, ◌-◌, ◌≤◌, ◌<◌}
use native.Mathlib.Omega.{arith}
use lib.ListN.{length, get_or, set, length-set}
use lib.Seq.{get_or-set_other, sets, sets-eq}
use lib.Ieee.{Float, nan}
use Rattle.log_numbers.specs.Numbers.{number_at}
use Rattle.log_numbers.proofs.Cells.{number_same}
use Rattle.grid.specs.Rays.{ray_count}
use Rattle.grid.specs.declared.DexelGrid.{DexelGrid}
use Rattle.log_model.specs.declared.Entry.{Entry}
use Rattle.log_model.specs.Logs.{entry_at, entries, entry_count, HitKind, hit_lo, hit_hi, hits_on_ray}
use Rattle.log_entries.specs.Named.{named_from, pairs_at}
use Rattle.log_entries.proofs.Places.{pairs-at}
use Rattle.store_read.specs.Reading.{ReadListPost}
use Rattle.log_group.specs.Groups.{PlaceChain, ends, more, Grouped}
use Rattle.log_group.proofs.Chains.{chain-kept}

-- two chains from the same number have the same places
pub chain-one : {w : List Float} {rays from to k : ℕ} {is js : List ℕ} → PlaceChain w rays from to k is
    → PlaceChain w rays from to k js → is ≡ js
chain-one ends ends = refl
chain-one (more {i = i} a b c) (more d e f) = ap (◌∷◌ i) (chain-one c f)

-- the places of the entries that the ray's first cell leads to
abbrev pub RayChain : (rays : ℕ) (log w : List Float) (ray : ℕ) → List ℕ → Type 0
RayChain rays log w ray is = PlaceChain w rays 0 (entry_count log) (number_at w ray) is

-- the cells from t on are still to get the pairs of the places from the number k on, of those that the ray's chain had first
pub record Gathering (rays : ℕ) (log : List Float) (kind : HitKind) (ray at : ℕ) (before w : List Float) (t k : ℕ) : Type 0 where
  pub places : List ℕ
  pub left : List ℕ
  pub first : RayChain rays log before ray places
  pub chain : PlaceChain w rays 0 (entry_count log) k left
  pub size : length w ≡ length before
  pub past : rays + entry_count log ≤ t
  pub room : at + length (pairs_at log places kind) ≤ length before
  pub count : t + length (pairs_at log left kind) ≡ at + length (pairs_at log places kind)
  pub cells : sets before at (pairs_at log places kind) ≡ sets w t (pairs_at log left kind)

module _ (rays : ℕ) (log : List Float) (kind : HitKind) (ray at : ℕ) (before : List Float) where
  pub gathering-start : (places : List ℕ) → RayChain rays log before ray places
      → at + length (pairs_at log places kind) ≤ length before
      → rays + entry_count log ≤ at → Gathering rays log kind ray at before before at (number_at before ray)
  gathering-start places c room h =
      record {
        places = places;
        left = places;
        first = c;
        chain = c;
        size = refl;
        past = h;
        room = room;
        count = refl;
        cells = refl;
      }

  -- the cells after the pair at place i came to cell t
  abbrev pub turned : List Float → ℕ → ℕ → List Float
  turned w t i = set (set w t (hit_lo kind (entry_at log i))) (t + 1) (hit_hi kind (entry_at log i))

  -- what there is to know of a turn
  pub record Turn (w : List Float) (t k : ℕ) : Type 0 where
    pub some : 0 < k
    pub below : k - 1 < entry_count log
    pub room : t + 2 ≤ length before
    pub again : Gathering rays log kind ray at before (turned w t (k - 1)) (t + 2) (number_at (turned w t (k - 1)) (rays + (k - 1)))

  step-cells : (w : List Float) (t i : ℕ) (is : List ℕ)
      → sets w t (pairs_at log (i ∷ is) kind) ≡ sets (turned w t i) (t + 2) (pairs_at log is kind)
  unfolding pairs_at
  step-cells w t i is = rw (next t, two t)
    where
      next : (t : ℕ) → t + 1 ≡ suc t
      next t = omega arith

      two : (t : ℕ) → t + 2 ≡ suc (suc t)
      two t = omega arith

  step_count : (i : ℕ) (is : List ℕ) → length (pairs_at log (i ∷ is) kind) ≡ 2 + length (pairs_at log is kind)
  unfolding pairs_at
  step_count i is = omega arith

  module _ (w : List Float) (t : ℕ) where
    kept : (i q : ℕ) → rays + entry_count log ≤ t → q < entry_count log → get_or (turned w t i) (rays + q) nan ≡ get_or w (rays + q) nan
    kept i q past e =
        let lo = hit_lo kind (entry_at log i) in
        get_or-set_other (set w t lo) (t + 1) (rays + q) (hit_hi kind (entry_at log i)) nan (λ (h : rays + q ≡ t + 1). omega arith)
        ∙ get_or-set_other w t (rays + q) lo nan (λ (h : rays + q ≡ t). omega arith)

    same_size : (i : ℕ) → length (turned w t i) ≡ length w
    same_size i =
        let lo = hit_lo kind (entry_at log i) in
        length-set (set w t lo) (t + 1) (hit_hi kind (entry_at log i)) ∙ length-set w t lo

    -- the rest of the chain, when the pair at place i is copied
    rest : {k : ℕ} (s : Gathering rays log kind ray at before w t k) (i : ℕ) (is : List ℕ) → i < entry_count log
        → PlaceChain w rays 0 (entry_count log) (number_at w (rays + i)) is
        → s.left ≡ i ∷ is → Gathering rays log kind ray at before (turned w t i) (t + 2) (number_at (turned w t i) (rays + i))
    rest s i is b c e = record {
      places = s.places;
      left = is;
      first = s.first;
      chain = subst (λ (n : ℕ). PlaceChain (turned w t i) rays 0 (entry_count log) n is)
          (sym (number_same (turned w t i) w (rays + i) (kept i i s.past b)))
          (chain-kept (omega arith) (λ q d f. number_same (turned w t i) w (rays + q) (kept i q s.past f)) c);
      size = same_size i ∙ s.size;
      past = omega (arith, s.past);
      room = s.room;
      count = omega (arith, s.count, ap (λ (l : List ℕ). length (pairs_at log l kind)) e, step_count i is);
      cells = s.cells ∙ ap (λ (l : List ℕ). sets w t (pairs_at log l kind)) e ∙ step-cells w t i is;
    }

    pub turn : (k : ℕ) → (k ≡ 0 → ⊥) → Gathering rays log kind ray at before w t k → Turn w t k
    turn k some s = go s.left refl some s.chain
      where
        one : (i : ℕ) → suc i - 1 ≡ i
        one i = omega arith

        go : {n : ℕ} (left : List ℕ) → s.left ≡ left → (n ≡ 0 → ⊥) → PlaceChain w rays 0 (entry_count log) n left → Turn w t n
        go left e none ends = absurd (none refl)
        go left e none (more {i = i} {is = is} a b c) = record {
          some = omega arith;
          below = omega arith;
          room = omega (arith, s.room, s.count, ap (λ (l : List ℕ). length (pairs_at log l kind)) e, step_count i is);
          again = subst (λ (n : ℕ). Gathering rays log kind ray at before (turned w t n) (t + 2)
              (number_at (turned w t n) (rays + n))) (sym (one i)) (rest s i is b c e);
        }

  pub gathering-done : (w : List Float) (t k : ℕ) → k ≡ 0 → (s : Gathering rays log kind ray at before w t k)
      → ReadListPost (pairs_at log s.places kind) before at w t
  unfolding pairs_at
  gathering-done w t k none s =
      let empty : s.left ≡ [] = last s.chain none in
      record {
        past = omega (arith, s.count, ap (λ (l : List ℕ). length (pairs_at log l kind)) empty);
        cells = sym (s.cells ∙ ap (λ (l : List ℕ). sets w t (pairs_at log l kind)) empty)
            ∙ sets-eq (pairs_at log s.places kind) before at s.room;
      }
    where
      last : {k : ℕ} {left : List ℕ} → PlaceChain w rays 0 (entry_count log) k left → k ≡ 0 → left ≡ []
      last ends e = refl
      last (more a b c) e = absurd (omega arith)

-- a turn, in the terms of the code
pub again : (rays : ℕ) (log : List Float) (kind : HitKind) (ray at : ℕ) (before w : List Float) (t k : ℕ) (x : Entry)
    (v : List Float) (n : ℕ) → x ≡ entry_at log (k - 1)
    → v ≡ set (set w t (hit_lo kind x)) (t + 1) (hit_hi kind x) → n ≡ number_at v (rays + (k - 1))
    → Gathering rays log kind ray at before (turned rays log kind ray at before w t (k - 1)) (t + 2)
    (number_at (turned rays log kind ray at before w t (k - 1)) (rays + (k - 1)))
    → Gathering rays log kind ray at before v (t + 2) n
again rays log kind ray at before w t k x v n read cells num s =
    let e : v ≡ turned rays log kind ray at before w t (k - 1) =
    cells ∙ ap (λ (y : Entry). set (set w t (hit_lo kind y)) (t + 1) (hit_hi kind y)) read in
    subst (λ (m : ℕ). Gathering rays log kind ray at before v (t + 2) m) (sym num)
    (subst (λ (x : List Float). Gathering rays log kind ray at before x (t + 2) (number_at x (rays + (k - 1)))) (sym e) s)

-- ---- the chain of a ray of a grouped log
module _ (g : DexelGrid) (log before : List Float) (grouped : Grouped g log before) (ray : ℕ) (h : ray < ray_count g)
    (rays : ℕ) (same : rays ≡ ray_count g) (kind : HitKind) (at : ℕ) where
  places : List ℕ
  places = named_from g log ray 0 (entry_count log)

  hits : pairs_at log places kind ≡ hits_on_ray g (entries log) ray kind
  unfolding places
  hits = pairs-at g log grouped.named (ray, h) kind

  chain : RayChain rays log before ray places
  unfolding places
  chain = subst (λ (n : ℕ). RayChain n log before ray places) (sym same) (grouped.chains ray h)

  pub gathers : at + length (hits_on_ray g (entries log) ray kind) ≤ length before → ray_count g + entry_count log ≤ at
      → (k : ℕ) → k ≡ number_at before ray
      → Gathering rays log kind ray at before before at k
  gathers room past k e =
      subst (λ (n : ℕ). Gathering rays log kind ray at before before at n) (sym e)
      (gathering-start rays log kind ray at before places chain
      (subst (λ (l : List Float). at + length l ≤ length before) (sym hits) room) (omega arith))

  pub gathered : (w : List Float) (t k : ℕ) → k ≡ 0 → Gathering rays log kind ray at before w t k
      → ReadListPost (hits_on_ray g (entries log) ray kind) before at w t
  gathered w t k none s =
      subst (λ (l : List Float). ReadListPost l before at w t) (ap (λ (l : List ℕ). pairs_at log l kind) (chain-one s.first chain) ∙ hits)
      (gathering-done rays log kind ray at before w t k none s)

-- a ray whose first cell is zero has no hits
pub none_named : (g : DexelGrid) (log w : List Float) → Grouped g log w → (ray : ℕ) → ray < ray_count g
    → number_at w ray ≡ 0 → (kind : HitKind) → hits_on_ray g (entries log) ray kind ≡ []
unfolding pairs_at
none_named g log w s ray h e kind =
    sym (pairs-at g log s.named (ray, h) kind)
    ∙ ap (λ (l : List ℕ). pairs_at log l kind) (last (s.chains ray h) e)
  where
    last : {k : ℕ} {is : List ℕ} → PlaceChain w (ray_count g) 0 (entry_count log) k is → k ≡ 0 → is ≡ []
    last ends n = refl
    last (more a b c) n = absurd (omega arith)
