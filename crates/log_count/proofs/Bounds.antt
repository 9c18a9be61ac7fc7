-- The totals of a log commit as sums over the rays by number, and what they are at most.
use mathlib.Core.Path.{◌≡◌, refl, sym, ap, ap₂, ◌∙◌, subst}
use mathlib.Core.Bool.{Bool, true, false, cond, ◌||◌}
use mathlib.Core.List.{List, [], ◌∷◌, ◌++◌}
use mathlib.Core.Logic.{◌⊎◌, inl, inr}
use Prim.Native.Nat.{ℕ, zero, suc, ◌+◌, ◌*◌, ◌/◌, ◌^◌, ◌≤◌, ◌<◌}
use native.Mathlib.Omega.{arith}
use borrow.Author.Tests.{eq-eqb, ne_eqb}
use lib.Dec.{eqb}
use lib.ListN.{length, length-append}
use lib.Ieee.{Float}
use Rattle.logic.proofs.Bools.{and-true}
use Rattle.grid.specs.Rays.{ray_count}
use Rattle.grid.specs.declared.DexelStockSpec.{DexelStockSpec}
use Rattle.grid.specs.declared.DexelGrid.{DexelGrid}
use Rattle.spans.specs.Spans.{holds, sound}
use Rattle.store.specs.Store.{places_of, Cells}
use Rattle.store.proofs.FreePlaces.{free-records}
use Rattle.stock.specs.Stock.{Stock, SoundStock, Possible, Certain, ray_list, ray_lists}
use Rattle.store_read.proofs.Steps.{ends-length}
use Rattle.log_model.specs.Logs.{entry_at, entry_count, entries, entry_ray, HitKind, outer, inner, hits_on_ray}
use Rattle.log_model.specs.Model.{pair_total}
use Rattle.log_model.specs.Counts.{is_hit_by, starts_left, hits_on_list, is_ray_changed, changed_ray_count, pairs_after}
use Rattle.log_model.proofs.View.{lent-laws}
use Rattle.log_model.proofs.Starts.{pairs-left}
use Rattle.log_entries.specs.Named.{named_from, pairs_at}
use Rattle.log_entries.proofs.Places.{AllFrom, all_first, all_rest, each_below, pairs_of_lem}
use Rattle.log_count.specs.Totals.{Countable, sum_below, pairs_of, left_of, is_changed_ray}
use Rattle.log_count.proofs.Sums.{sum_over_lem, sum-le, sum-at, sum_one, sum-plus, sum-times, sum-none}
use Rattle.log_count.proofs.Starts.{starts-le}

-- no more rays are counted than there are
pub at-most-all : (f : ℕ → Bool) (n : ℕ) → sum_below (λ ray. cond (f ray) 1 0) n ≤ n
unfolding sum_below
at-most-all f zero = omega arith
at-most-all f (suc n) = go (f n) (at-most-all f n)
  where
    go : (b : Bool) → sum_below (λ ray. cond (f ray) 1 0) n ≤ n → sum_below (λ ray. cond (f ray) 1 0) n + cond b 1 0 ≤ suc n
    go true h = omega arith
    go false h = omega arith

-- ---- how many entries a ray has

places-length : (log : List Float) (ps : List ℕ) (w : HitKind) → length (pairs_at log ps w) ≡ 2 * length ps
unfolding pairs_at
places-length log [] w = refl
places-length log (i ∷ ps) w = omega (arith, places-length log ps w)

-- each entry names one ray, so that the rays share them out
shared-out : (g : DexelGrid) (log : List Float) (i k : ℕ) → AllFrom (λ j. entry_ray g (entry_at log j) < ray_count g) i k
    → sum_below (λ ray. length (named_from g log ray i k)) (ray_count g) ≡ k
unfolding named_from
shared-out g log i zero f = sum-none (ray_count g)
shared-out g log i (suc k) f = more (sum_one old new (ray_count g) ray (all_first i k f) others) at
    (shared-out g log (suc i) k (all_rest i k f))
  where
    ray : ℕ
    ray = entry_ray g (entry_at log i)

    old : ℕ → ℕ
    old r = length (named_from g log r (suc i) k)

    new : ℕ → ℕ
    new r = length (cond (eqb (entry_ray g (entry_at log i)) r) (i ∷ named_from g log r (suc i) k) (named_from g log r (suc i) k))

    others : (r : ℕ) → (r ≡ ray → ⊥) → new r ≡ old r
    others r n = ap (λ (b : Bool). length (cond b (i ∷ named_from g log r (suc i) k) (named_from g log r (suc i) k)))
        (ne_eqb ray r (λ e. n (sym e)))

    at : new ray ≡ suc (old ray)
    at = ap (λ (b : Bool). length (cond b (i ∷ named_from g log ray (suc i) k) (named_from g log ray (suc i) k))) (eq-eqb ray ray refl)

    more : {a b x y : ℕ} → a + x ≡ b + y → y ≡ suc x → b ≡ k → a ≡ suc k
    more p q r = omega arith

-- ---- nothing is taken

no-hits : (l : List Float) → is_hit_by l [] ≡ false
unfolding is_hit_by
no-hits l = refl

none-taken : (l : List Float) → sound l ≡ true → starts_left l [] ≡ length l / 2
none-taken l s = sym (pairs-left l [] l s (record { is_sound = s; points = λ p. sym (unfold holds in and-true (holds l p)) }))

module _ {spec : DexelStockSpec} {g : DexelGrid} {c : Cells} {intervals : ℕ} {log : List Float}
    (ok : Countable spec g c intervals log) where
  stock : Stock
  stock = record { cells = c; generation = 0; intervals = intervals }

  is_stock : SoundStock spec g stock
  unfolding stock
  is_stock = ok.is_sound

  -- the interval total is the sum of the pairs of all rays
  pub total-is : intervals ≡ sum_below (pairs_of spec c) (ray_count g)
  unfolding stock pair_total pairs_of
  total-is = (lent-laws spec g).all_pairs stock is_stock
      ∙ sum_over_lem g (λ r. length (ray_list spec c r.0 Possible) / 2 + length (ray_list spec c r.0 Certain) / 2)
      (pairs_of spec c) (λ r. refl)

  pub total-fits : intervals ≤ spec.max_intervals
  total-fits = omega (
    arith,
    free-records spec.max_intervals (2 * ray_count g) intervals c.spans c.links c.heads
        ok.is_sound.store,
  )

  -- the counts of the causes 9 and 10 as sums by number
  pub changed-is : changed_ray_count g (ray_lists spec g c) (entries log)
      ≡ sum_below (λ ray. cond (is_changed_ray spec g c log ray) 1 0) (ray_count g)
  unfolding changed_ray_count is_ray_changed is_changed_ray hits_on_list
  changed-is = sum_over_lem g (λ r. cond (is_ray_changed g (ray_lists spec g c) (entries log) r) 1 0)
      (λ ray. cond (is_changed_ray spec g c log ray) 1 0)
      (λ r. refl)

  pub left_is : pairs_after g (ray_lists spec g c) (entries log) ≡ sum_below (left_of spec g c log) (ray_count g)
  unfolding pairs_after left_of hits_on_list
  left_is = sum_over_lem g
      (λ r. starts_left (ray_lists spec g c r Possible) (hits_on_list g (entries log) r Possible)
      + starts_left (ray_lists spec g c r Certain) (hits_on_list g (entries log) r Certain))
      (left_of spec g c log)
      (λ r. refl)

  pub few_rays : ray_count g ≤ 2 ^ 53
  few_rays = omega (arith, ok.facts.rays, ok.facts.ceiling)

  -- ---- what one ray can come to

  unfoldable pub entries_of : ℕ → ℕ
  entries_of ray = length (named_from g log ray 0 (entry_count log))

  hits-of : (ray : ℕ) (w : HitKind) → length (hits_on_ray g (entries log) ray w) ≡ 2 * entries_of ray
  unfolding entries_of
  hits-of ray w = ap length (sym (pairs_of_lem g log ok.named ray w)) ∙ places-length log (named_from g log ray 0 (entry_count log)) w

  pub all-entries : sum_below entries_of (ray_count g) ≡ entry_count log
  unfolding entries_of
  all-entries = shared-out g log 0 (entry_count log) (λ j _ h. each_below g log ok.named j (omega arith))

  -- three pairs more for each entry: one on possible, two on certain
  pub left_le : (ray : ℕ) → left_of spec g c log ray ≤ pairs_of spec c ray + 3 * entries_of ray
  unfolding left_of pairs_of
  left_le ray =
      let i = hits_on_ray g (entries log) ray inner in
      let o = hits_on_ray g (entries log) ray outer in
      let a = starts-le (ray_list spec c ray Possible) i in
      let b = starts-le (ray_list spec c ray Certain) (o ++ i) in
      let d = length-append o i in
      let x = hits-of ray inner in
      let y = hits-of ray outer in
      let p = ends-length c.spans (places_of spec.max_intervals c.links c.heads (2 * ray)) in
      let q = ends-length c.spans (places_of spec.max_intervals c.links c.heads (2 * ray + 1)) in
      omega arith

  -- a ray that no entry names stays
  module _ (ray : ℕ) (h : ray < ray_count g) (u : named_from g log ray 0 (entry_count log) ≡ []) where
    no_pairs : (w : HitKind) → hits_on_ray g (entries log) ray w ≡ []
    no_pairs w = sym (pairs_of_lem g log ok.named ray w) ∙ ap (λ (l : List ℕ). pairs_at log l w) u ∙ unfold pairs_at in refl

    pub unchanged : is_changed_ray spec g c log ray ≡ false
    unfolding is_changed_ray
    unchanged = ap₂ (λ (o i : List Float). is_hit_by (ray_list spec c ray Possible) i
        || is_hit_by (ray_list spec c ray Certain) (o ++ i)) (no_pairs outer)
        (no_pairs inner)
        ∙ ap₂ ◌||◌ (no-hits (ray_list spec c ray Possible)) (no-hits (ray_list spec c ray Certain))

    pub untouched : left_of spec g c log ray ≡ pairs_of spec c ray
    unfolding left_of pairs_of
    untouched =
        ap₂ (λ (o i : List Float). starts_left (ray_list spec c ray Possible) i + starts_left (ray_list spec c ray Certain) (o ++ i))
        (no_pairs outer) (no_pairs inner)
        ∙ ap₂ ◌+◌ (none-taken (ray_list spec c ray Possible) (ok.is_sound.valid ray h).possible_sound)
        (none-taken (ray_list spec c ray Certain) (ok.is_sound.valid ray h).certain_sound)

  -- a ray that changes has an entry
  changed-le : (ray : ℕ) → ray < ray_count g → cond (is_changed_ray spec g c log ray) 1 0 ≤ entries_of ray
  unfolding entries_of
  changed-le ray h = go (named_from g log ray 0 (entry_count log)) refl (is_changed_ray spec g c log ray) refl
    where
      one : (b : Bool) (k : ℕ) → cond b 1 0 ≤ suc k
      one true k = omega arith
      one false k = omega arith

      go : (l : List ℕ) → named_from g log ray 0 (entry_count log) ≡ l → (b : Bool)
          → is_changed_ray spec g c log ray ≡ b → cond b 1 0 ≤ length l
      go [] u b e = subst (λ (x : Bool). cond x 1 0 ≤ 0) (sym (unchanged ray h u) ∙ e) (omega arith)
      go (i ∷ l) u b e = one b (length l)

  -- ---- THE LAWS of the cheap test

  pub rays-le : changed_ray_count g (ray_lists spec g c) (entries log) ≤ entry_count log
  rays-le = omega (
    arith,
    changed-is,
    all-entries,
    sum-le (λ ray. cond (is_changed_ray spec g c log ray) 1 0) entries_of (ray_count g) changed-le,
  )

  -- no log changes more rays than it has entries, or than there are
  pub rays-allowed : {a : ℕ} → (entry_count log ≤ a) ⊎ (ray_count g ≤ a) → changed_ray_count g (ray_lists spec g c) (entries log) ≤ a
  rays-allowed (inl h) = omega (arith, rays-le)
  rays-allowed (inr h) = omega (arith, changed-is, at-most-all (is_changed_ray spec g c log) (ray_count g))

  pub thrice : sum_below (λ ray. pairs_of spec c ray + 3 * entries_of ray) (ray_count g) ≡ intervals + 3 * entry_count log
  thrice = sum-plus (pairs_of spec c) (λ ray. 3 * entries_of ray) (ray_count g)
      ∙ ap₂ ◌+◌ (sym total-is) (sum-times 3 entries_of (ray_count g) ∙ ap (λ (k : ℕ). 3 * k) all-entries)

  pub pairs-le : pairs_after g (ray_lists spec g c) (entries log) ≤ intervals + 3 * entry_count log
  pairs-le = omega (
    arith,
    left_is,
    thrice,
    sum-le (left_of spec g c log) (λ ray. pairs_of spec c ray + 3 * entries_of ray) (ray_count g)
        (λ ray _. left_le ray),
  )

  -- a ray's pairs fit, before and after
  pub pairs-fit : (ray : ℕ) → ray < ray_count g → pairs_of spec c ray ≤ spec.max_intervals
  pairs-fit ray h = omega (arith, total-is, total-fits, sum-at (pairs_of spec c) (ray_count g) ray h)

  pub left-fits : (ray : ℕ) → ray < ray_count g → left_of spec g c log ray ≤ spec.max_intervals + 3 * entry_count log
  left-fits ray h = omega (arith, left_le ray, pairs-fit ray h, all-entries, sum-at entries_of (ray_count g) ray h)
