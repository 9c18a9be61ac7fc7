-- The entries of a batch of rays as keys: the ray, counted from the batch's first one, times the number of entries, and the place.
use Rattle.std.specs.Prelude.{◌≡◌, ℕ, ◌+◌, ◌-◌, ◌*◌, ◌^◌, ◌<◌, ◌≤◌, List, length, slice_index, Float, Option, IfSome}
use Rattle.grid.specs.declared.DexelGrid.{DexelGrid}
use Rattle.log_model.specs.Logs.{entry_at, entry_count, entry_ray}
use Rattle.log_keys.specs.KeysKept.{KeysBefore}
use Rattle.log_batches.specs.declared.Batch.{Batch}

-- the key of the entry at place i of n, which is on the ray, in a batch from the ray `first` on
abbrev pub batch_key_of : (first ray n i : ℕ) → ℕ
batch_key_of first ray n i = (ray - first) * n + i

-- The first m keys are those of the entries before place `passed` whose ray is one of the `width` rays from `first` on. `rays` gives the
-- ray of each of the n entries.
abbrev pub Batched : (rays : ℕ → ℕ) (n first passed width : ℕ) (keys : List ℕ) (m : ℕ) → Type 0
Batched rays n first passed width keys m =
    KeysBefore (λ i. batch_key_of first (rays i) n i) (λ i. (first ≤ rays i) × (rays i < first + width)) passed keys m

-- a batch whose keys fit the machine's numbers and the buffer
pub record AddPre (n : ℕ) (keys : List ℕ) (w : Batch) : Type 0 where
  pub some : 0 < w.width
  pub most : w.width ≤ 2 ^ 53
  pub fits : w.width * n < 2 ^ 64
  pub room : w.count ≤ length keys

-- a batch of at most `width` rays: its keys fit the buffer, and the claim on them holds
pub record BatchHeld (width : ℕ) (keys : List ℕ) (w : Batch) (claim : Type 0) : Type 0 where
  pub some : 0 < w.width
  pub most : w.width ≤ width
  pub room : w.count ≤ length keys
  pub batched : claim

-- the answer is such a batch, or none
pub record BatchPost (width : ℕ) (before after : List ℕ) (r : Option Batch) (claim : Batch → Type 0) : Type 0 where
  pub size : length after ≡ length before
  pub batch : IfSome r (λ w. BatchHeld width after w (claim w))

-- what is gathered stays gathered as far as the batch goes now
pub record StaysBatched (n : ℕ) (before : List ℕ) (w : Batch) (after : List ℕ) (r : Batch) : Type 0 where
  pub stays : (rays : ℕ → ℕ) (first passed : ℕ) → passed ≤ n → Batched rays n first passed w.width before w.count
      → Batched rays n first passed r.width after r.count

-- so it does, and the batch has room for a key more
abbrev pub BatchRoomPost : (n : ℕ) (before : List ℕ) (w : Batch) (after : List ℕ) (r : Option Batch) → Type 0
BatchRoomPost n before w after r =
    BatchPost w.width before after r (λ t. (t.count < length after) × StaysBatched n before w after t)

-- the entry at place i is gathered too
abbrev pub AddPost : (first ray n i : ℕ) (before : List ℕ) (w : Batch) (after : List ℕ) (r : Option Batch) → Type 0
AddPost first ray n i before w after r = BatchPost w.width before after r
    (λ t. (rays : ℕ → ℕ) → rays i ≡ ray → Batched rays n first i w.width before w.count
    → Batched rays n first (i + 1) t.width after t.count)

-- the entries of a batch of rays before place `passed` are gathered
abbrev pub RaysGathered : (g : DexelGrid) (log : List Float) (first width : ℕ) (before : List ℕ) (passed : ℕ) (after : List ℕ)
    (r : Option Batch) → Type 0
RaysGathered g log first width before passed after r = BatchPost width before after r
    (λ t. Batched (λ i. entry_ray g (entry_at log i)) (entry_count log) first passed t.width after t.count)

-- all are
abbrev pub GatherRaysPost : (g : DexelGrid) (log : List Float) (first width : ℕ) (before after : List ℕ) (r : Option Batch) → Type 0
GatherRaysPost g log first width before after r = RaysGathered g log first width before (entry_count log) after r

-- the first m keys are the same, in some order and however often
pub record SameKeys (m : ℕ) (before after : List ℕ) : Type 0 where
  pub size : length after ≡ length before
  pub each : (t : ℕ) → t < m → (s : ℕ) × (s < m) × (slice_index after t ≡ slice_index before s)
  pub all : (s : ℕ) → s < m → (t : ℕ) × (t < m) × (slice_index after t ≡ slice_index before s)

-- none of the first m keys is below the one in front of it
abbrev pub KeysAscend : List ℕ → ℕ → Type 0
KeysAscend keys m = (i : ℕ) → 0 < i → i < m → slice_index keys (i - 1) ≤ slice_index keys i
