-- What the steps of counting batch by batch ask and promise.
use Rattle.std.specs.Prelude.{◌≡◌, List, ℕ, ◌+◌, ◌*◌, ◌/◌, ◌^◌, ◌≤◌, ◌<◌, length, get_or, Float, Option, IfSome}
use Rattle.grid.specs.Rays.{ray_count}
use Rattle.grid.specs.declared.DexelStockSpec.{DexelStockSpec}
use Rattle.grid.specs.declared.DexelGrid.{DexelGrid}
use Rattle.log_model.specs.Logs.{entry_at, entry_count, entry_ray}
use Rattle.log_batches.specs.Batches.{Batched, KeysAscend}
use Rattle.log_count.specs.Totals.{Prefixed}
use Rattle.log_batches.specs.declared.Batch.{Batch}
use Rattle.log_budget.specs.declared.CountNextAnswer.{CountNextAnswer}
use Rattle.store.specs.Store.{Cells}

-- the first m keys are those of a batch of rays, and ascend
pub record BatchKeys (g : DexelGrid) (log : List Float) (first width : ℕ) (keys : List ℕ) (m : ℕ) : Type 0 where
  pub room : m ≤ length keys
  pub inside : first + width ≤ ray_count g
  pub batched : Batched (λ i. entry_ray g (entry_at log i)) (entry_count log) first (entry_count log) width keys m
  pub ascending : KeysAscend keys m

-- the keys of one ray, which begin at place i, end before place r
pub record RunEnd (keys : List ℕ) (m i n r : ℕ) : Type 0 where
  pub past : i < r
  pub most : r ≤ m
  pub same : (t : ℕ) → i ≤ t → t < r → get_or keys t 0 / n ≡ get_or keys i 0 / n
  pub other : r < m → get_or keys r 0 / n ≡ get_or keys i 0 / n → ⊥

-- what is asked of a batch: rays that are there, keys that fit the machine's numbers, and a place for keys
pub record NextBatchPre (g : DexelGrid) (log : List Float) (first width : ℕ) (keys : List ℕ) : Type 0 where
  pub some : 0 < width
  pub inside : first + width ≤ ray_count g
  pub fits : width * entry_count log < 2 ^ 64
  pub keys_some : 0 < length keys
  pub keys_few : length keys ≤ 2 ^ 16

-- the batch that is gathered: rays that are there, and their keys
pub record NextBatchPost (g : DexelGrid) (log : List Float) (first : ℕ) (before after : List ℕ) (r : Option Batch) : Type 0 where
  pub size : length after ≡ length before
  pub batch : IfSome r (λ w. (0 < w.width) × BatchKeys g log first w.width after w.count)

-- at least one ray more is counted
pub record CountNextPost (spec : DexelStockSpec) (g : DexelGrid) (c : Cells) (log : List Float) (first : ℕ)
    (keys_before keys_after : List ℕ)
    (before after : List Float) (r : CountNextAnswer) : Type 0 where
  pub keys_size : length keys_after ≡ length keys_before
  pub size : length after ≡ length before
  pub onward : first < r.next
  pub most : r.next ≤ ray_count g
  pub prefixed : Prefixed spec g c log r.next r.totals
