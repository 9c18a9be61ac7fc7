-- The totals with the rays below one counted: where they start, how they pass rays with no entry, and where they end.
use mathlib.Core.Path.{◌≡◌, refl, sym, ap, ◌∙◌}
use mathlib.Core.Bool.{Bool, false, cond}
use mathlib.Core.List.{List, [], ◌∷◌}
use Prim.Native.Nat.{ℕ, zero, suc, ◌≤◌, ◌<◌}
use native.Mathlib.Omega.{arith}
use native.Mathlib.Decide.{dec_lt}
use borrow.Author.Tests.{ne_eqb}
use lib.Dec.{eqb}
use lib.Ieee.{Float}
use Rattle.grid.specs.Rays.{ray_count}
use Rattle.grid.specs.declared.DexelStockSpec.{DexelStockSpec}
use Rattle.grid.specs.declared.DexelGrid.{DexelGrid}
use Rattle.log_model.specs.Logs.{entry_at, entry_count, entries, entry_ray}
use Rattle.log_model.specs.Counts.{changed_ray_count, pairs_after}
use Rattle.log_entries.specs.Named.{named_from}
use Rattle.log_entries.proofs.Places.{AllFrom, all_first, all_rest}
use Rattle.log_count.specs.Totals.{Countable, Prefixed, sum_below, is_changed_ray}
use Rattle.log_count.specs.declared.RayTotals.{RayTotals}
use Rattle.log_count.proofs.Sums.{sum-prefix}
use Rattle.log_count.proofs.Bounds.{total-is, changed-is, left_is, unchanged, untouched}
use Rattle.stock.specs.Stock.{ray_lists}
use Rattle.store.specs.Store.{Cells}

-- no place has an entry on the ray
none_from : (g : DexelGrid) (log : List Float) (ray i k : ℕ) → AllFrom (λ j. eqb (entry_ray g (entry_at log j)) ray ≡ false) i k
    → named_from g log ray i k ≡ []
unfolding named_from
none_from g log ray i zero f = refl
none_from g log ray i (suc k) f =
    ap (λ (b : Bool). cond b (i ∷ named_from g log ray (suc i) k) (named_from g log ray (suc i) k)) (all_first i k f)
    ∙ none_from g log ray (suc i) k (all_rest i k f)

-- no entry is on one of the rays from r to just below e
abbrev pub NoEntry : DexelGrid → List Float → (r e : ℕ) → Type 0
NoEntry g log r e = (i : ℕ) → i < entry_count log → r ≤ entry_ray g (entry_at log i) → entry_ray g (entry_at log i) < e → ⊥

module _ {spec : DexelStockSpec} {g : DexelGrid} {c : Cells} {intervals : ℕ} {log : List Float}
    (ok : Countable spec g c intervals log) where
  -- ---- rays with no entry

  pass-one : (t : RayTotals) (ray : ℕ) → ray < ray_count g → NoEntry g log ray (suc ray) → Prefixed spec g c log ray t
      → Prefixed spec g c log (suc ray) t
  unfolding sum_below
  pass-one t ray h none p =
      let other : (j : ℕ) → j < entry_count log → entry_ray g (entry_at log j) ≡ ray → ⊥ =
      λ j l e. none j l (omega (arith, e)) (omega (arith, e)) in
      let u : named_from g log ray 0 (entry_count log) ≡ [] =
      none_from g log ray 0 (entry_count log) (λ j _ l. ne_eqb (entry_ray g (entry_at log j)) ray (other j (omega (arith, l)))) in
      let x : ◌≡◌ {A = ℕ} (cond (is_changed_ray spec g c log ray) 1 0) 0 =
      ap (λ (b : Bool). cond b 1 0) (unchanged ok ray h u) in
      record {
        changed = omega (arith, p.changed);
        pairs = omega (arith, p.pairs, untouched ok ray h u);
      }

  -- THE LAW: the totals stay over rays with no entry
  pub pass-rays : (t : RayTotals) (r e : ℕ) → r ≤ e → e ≤ ray_count g → NoEntry g log r e → Prefixed spec g c log r t
      → Prefixed spec g c log e t
  pass-rays t r zero h l none p = let q : r ≡ 0 = omega arith in rw q at p
  pass-rays t r (suc e) h l none p = elim (dec_lt r (suc e)) [
    | yes k ↦
        pass-one t e (omega arith) (λ i a b d. none i a (omega (arith, b)) d)
        (pass-rays t r e (omega arith) (omega arith) (λ i a b d. none i a b (omega (arith, d))) p)
    | no k ↦ let q : r ≡ suc e = omega arith in rw q at p
  ]

  -- ---- the start and the end

  pub start : (t : RayTotals) → t.changed ≡ 0 → t.pairs ≡ intervals → Prefixed spec g c log 0 t
  unfolding sum_below
  start t a b = record { changed = a; pairs = omega (arith, total-is ok) }

  pub changed-so-far : (t : RayTotals) (ray : ℕ) → ray ≤ ray_count g → Prefixed spec g c log ray t
      → t.changed ≤ changed_ray_count g (ray_lists spec g c) (entries log)
  changed-so-far t ray h p =
      let f : ℕ → ℕ = λ r. cond (is_changed_ray spec g c log r) 1 0 in
      omega (arith, sum-prefix f (ray_count g) ray h, p.changed, changed-is ok)

  pub all-counted : (t : RayTotals) (ray : ℕ) → ray ≤ ray_count g → ray_count g ≤ ray → Prefixed spec g c log ray t
      → (t.changed ≡ changed_ray_count g (ray_lists spec g c) (entries log)) × (t.pairs ≡ pairs_after g (ray_lists spec g c) (entries log))
  all-counted t ray x y q =
      let e : ray ≡ ray_count g = omega arith in
      let p : Prefixed spec g c log (ray_count g) t = rw e at q in
      (p.changed ∙ sym (changed-is ok), omega (arith, p.pairs, left_is ok))
