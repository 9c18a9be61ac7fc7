-- A batch of rays by its keys, which ascend: the keys of one ray stand together, and no entry is on a ray between them.
use mathlib.Core.Path.{◌≡◌, sym, ap, ◌∙◌}
use mathlib.Core.List.{List}
use Prim.Native.Nat.{ℕ, zero, suc, ◌+◌, ◌-◌, ◌/◌, ◌%◌, ◌^◌, ◌≤◌, ◌<◌}
use native.Mathlib.Omega.{arith}
use native.Mathlib.Decide.{dec_lt}
use lib.ListN.{length, get_or, take, drop, length-drop}
use lib.Seq.{length-take-le, get_or-take, get_or-drop}
use lib.Ieee.{Float}
use Rattle.grid.specs.declared.DexelStockSpec.{DexelStockSpec}
use Rattle.grid.specs.declared.DexelGrid.{DexelGrid}
use Rattle.log_model.specs.Logs.{entry_at, entry_count, entry_ray}
use Rattle.log_keys.specs.Keys.{entry_of_key}
use Rattle.log_gather.proofs.Entries.{same_shape}
use Rattle.log_batches.specs.Batches.{batch_key_of}
use Rattle.log_count.specs.Steps.{CountPre, KeysOf}
use Rattle.log_count.specs.Totals.{Prefixed}
use Rattle.log_count.specs.declared.RayTotals.{RayTotals}
use Rattle.log_budget.specs.Steps.{BatchKeys, RunEnd}
use Rattle.log_count.proofs.Bounds.{few_rays}
use Rattle.log_budget.proofs.Division.{quotient, remainder, quotient_le}
use Rattle.log_budget.proofs.Passing.{NoEntry, pass-rays}
use Rattle.store.specs.Store.{Cells}

-- the ray of the key at a place
abbrev pub ray_at : List Float → (first : ℕ) → List ℕ → (t : ℕ) → ℕ
ray_at log first keys t = first + get_or keys t 0 / entry_count log

-- The first i keys are counted: their rays, and only theirs, lie below `upto`, and so do all rays that are counted.
pub record CountedBelow (spec : DexelStockSpec) (g : DexelGrid) (c : Cells) (log : List Float) (first width : ℕ) (keys : List ℕ) (m i : ℕ)
    (t : RayTotals) : Type 0 where
  pub upto : ℕ
  pub least : first ≤ upto
  pub most : upto ≤ first + width
  pub passed : (s : ℕ) → s < i → ray_at log first keys s < upto
  pub ahead : (s : ℕ) → i ≤ s → s < m → upto ≤ ray_at log first keys s
  pub prefixed : Prefixed spec g c log upto t

module _ {spec : DexelStockSpec} {g : DexelGrid} {c : Cells} {log : List Float} {first width : ℕ} {keys : List ℕ}
    {m : ℕ} {before : RayTotals}
    {buffer : List Float} (a : CountPre spec g c log first before buffer) (b : BatchKeys g log first width keys m) where
  -- a key in terms of its entry
  key-parts : (t i : ℕ) → i < entry_count log → first ≤ entry_ray g (entry_at log i)
      → get_or keys t 0 ≡ batch_key_of first (entry_ray g (entry_at log i)) (entry_count log) i
      → (ray_at log first keys t ≡ entry_ray g (entry_at log i)) × (get_or keys t 0 % entry_count log ≡ i)
  key-parts t i h l e =
      let d = entry_ray g (entry_at log i) - first in
      let q : get_or keys t 0 / entry_count log ≡ d = ap (λ (k : ℕ). k / entry_count log) e ∙ quotient d (entry_count log) i h in
      (omega arith, ap (λ (k : ℕ). k % entry_count log) e ∙ remainder d (entry_count log) i h)

  -- each key is one of an entry on its ray, which the batch has
  key-ray : (t : ℕ) → t < m → (entry_ray g (entry_of_key log (get_or keys t 0)) ≡ ray_at log first keys t)
      × (ray_at log first keys t < first + width)
  unfolding entry_of_key
  key-ray t h =
      let (i, l, (x, y), e) = b.batched.each t h in
      let (r, p) = key-parts t i l x e in
      (ap (λ (k : ℕ). entry_ray g (entry_at log k)) p ∙ sym r, omega arith)

  pub ray-fits : (t : ℕ) → t < m → ray_at log first keys t < 2 ^ 53
  ray-fits t h = omega (arith, (key-ray t h).1, b.inside, few_rays a.counting.countable)

  -- each entry on such a ray has one
  entry_key : (i : ℕ) → i < entry_count log → first ≤ entry_ray g (entry_at log i) → entry_ray g (entry_at log i) < first + width
      → (t : ℕ) × (t < m) × (ray_at log first keys t ≡ entry_ray g (entry_at log i)) × (get_or keys t 0 % entry_count log ≡ i)
  entry_key i h x y =
      let (t, l, e) = b.batched.all i h (x, y) in
      let (r, p) = key-parts t i h x e in
      (t, l, r, p)

  ascending : (i t : ℕ) → i ≤ t → t < m → get_or keys i 0 ≤ get_or keys t 0
  ascending i zero l h = let e : i ≡ 0 = omega arith in rw e (omega arith)
  ascending i (suc t) l h = elim (dec_lt i (suc t)) [
    | yes k ↦
        let e : suc t - 1 ≡ t = omega arith in
        let last : get_or keys t 0 ≤ get_or keys (suc t) 0 = rw e at (b.ascending (suc t) (omega arith) h) in
        omega (arith, last, ascending i t (omega arith) (omega arith))
    | no k ↦ let e : i ≡ suc t = omega arith in rw e (omega arith)
  ]

  rays-ascend : (i t : ℕ) → i ≤ t → t < m → ray_at log first keys i ≤ ray_at log first keys t
  rays-ascend i t l h = omega (arith, quotient_le (entry_count log) (get_or keys i 0) (get_or keys t 0) a.some (ascending i t l h))

  pub reached-start : CountedBelow spec g c log first width keys m 0 before
  reached-start = record {
    upto = first;
    least = omega arith;
    most = omega arith;
    passed = λ s h. absurd (omega arith);
    ahead = λ s _ _. omega arith;
    prefixed = a.prefixed;
  }

  -- ---- one turn: the keys from i to just before j are those of one ray

  module _ {i : ℕ} {t : RayTotals} (s : CountedBelow spec g c log first width keys m i t) (fit : i < m) where
    -- no entry lies between what is counted and the next key's ray
    before-ray : Prefixed spec g c log (ray_at log first keys i) t
    before-ray =
        pass-rays a.counting.countable t s.upto (ray_at log first keys i)
        (s.ahead i (omega arith) fit) (omega (arith, (key-ray i fit).1, b.inside)) none s.prefixed
      where
        none : NoEntry g log s.upto (ray_at log first keys i)
        none e h x y =
            let (k, l, r, _) = entry_key e h (omega (arith, s.least)) (omega (arith, y, (key-ray i fit).1)) in
            elim (dec_lt k i) [
              | yes p ↦ omega (arith, s.passed k p, r, x)
              | no p ↦ omega (arith, rays-ascend i k (omega arith) l, r, y)
            ]

    pub ray-asked : (cells : List Float) → length cells ≡ length buffer → CountPre spec g c log (ray_at log first keys i) t cells
    ray-asked cells size = record {
      counting = a.counting;
      some = a.some;
      inside = omega (arith, (key-ray i fit).1, b.inside);
      prefixed = before-ray;
      shaped = same_shape buffer cells size a.shaped;
    }

    module _ {j : ℕ} (e : RunEnd keys m i (entry_count log) j) where
      later : (k : ℕ) → j ≤ k → k < m → ray_at log first keys i + 1 ≤ ray_at log first keys k
      later k l h =
          let f : j < m = omega arith in
          omega (arith, rays-ascend i j (omega (arith, e.past)) f, e.other f, rays-ascend j k l h)

      pub reached-turn : {r : RayTotals} → Prefixed spec g c log (ray_at log first keys i + 1) r
          → CountedBelow spec g c log first width keys m j r
      reached-turn p = record {
        upto = ray_at log first keys i + 1;
        least = omega arith;
        most = omega (arith, (key-ray i fit).1);
        passed = λ k h. elim (dec_lt k i) [
          | yes p ↦ omega (arith, s.passed k p, s.ahead i (omega arith) fit)
          | no p ↦ omega (arith, e.same k (omega arith) h)
        ];
        ahead = later;
        prefixed = p;
      }

      -- THE LAW: their keys are those of the ray's entries
      pub keys-of-ray : KeysOf g log (ray_at log first keys i) (take (j - i) (drop i keys))
      keys-of-ray = record {
        each = λ k h.
            let l : i + k < j = omega (arith, h, size) in
            rw (at k l) ((key-ray (i + k) (omega (arith, e.most))).0 ∙ ap (λ (q : ℕ). first + q) (e.same (i + k) (omega arith) l));
        all = λ q h r.
            let (k, l, x, y) = entry_key q h (omega (arith, r)) (omega (arith, r, (key-ray i fit).1)) in
            let low : k < i → ⊥ = λ p. omega (arith, s.passed k p, s.ahead i (omega arith) fit, x, r) in
            let high : j ≤ k → ⊥ = λ p. omega (arith, later k p l, x, r) in
            let back : i + (k - i) ≡ k = omega arith in
            let same = at (k - i) (omega arith) ∙ ap (λ (v : ℕ). get_or keys v 0) back in
            (k - i, omega (arith, size), ap (λ (v : ℕ). v % entry_count log) same ∙ y);
      }
        where
          size : length (take (j - i) (drop i keys)) ≡ j - i
          size = length-take-le (j - i) (drop i keys) (omega (arith, e.most, b.room, length-drop i keys))

          at : (k : ℕ) → i + k < j → get_or (take (j - i) (drop i keys)) k 0 ≡ get_or keys (i + k) 0
          at k l = get_or-take (j - i) (drop i keys) k 0 (omega arith) ∙ get_or-drop i keys k 0

  -- ---- the end

  pub reached-end : {i : ℕ} {t : RayTotals} → m ≤ i → CountedBelow spec g c log first width keys m i t
      → Prefixed spec g c log (first + width) t
  reached-end {i} {t} l s =
      pass-rays a.counting.countable t s.upto (first + width)
      s.most b.inside none s.prefixed
    where
      none : NoEntry g log s.upto (first + width)
      none e h x y =
          let (k, f, r, _) = entry_key e h (omega (arith, s.least)) y in
          omega (arith, s.passed k (omega arith), r, x)
