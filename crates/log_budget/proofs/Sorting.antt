-- The next batch, sorted: sorting the keys of a batch leaves them those of the batch.
use mathlib.Core.Path.{◌∙◌}
use Rattle.std.specs.Prelude.{Some}
use mathlib.Core.List.{List}
use Prim.Native.Nat.{ℕ, ◌+◌, ◌≤◌}
use native.Mathlib.Omega.{arith}
use lib.Ieee.{Float}
use Rattle.grid.specs.Rays.{ray_count}
use Rattle.grid.specs.declared.DexelGrid.{DexelGrid}
use Rattle.log_keys.specs.KeysKept.{KeysBefore}
use Rattle.log_batches.specs.Batches.{GatherRaysPost, SameKeys, KeysAscend}
use Rattle.log_batches.specs.declared.Batch.{Batch}
use Rattle.log_budget.specs.Steps.{NextBatchPost}

keys-sorted : {key : ℕ → ℕ} {wanted : ℕ → Type 0} {passed : ℕ} {before after : List ℕ} {m : ℕ} → SameKeys m before after
    → KeysBefore key wanted passed before m → KeysBefore key wanted passed after m
keys-sorted s b = record {
  each = λ t h. let (q, l, e) = s.each t h in let (i, x, w, k) = b.each q l in (i, x, w, e ∙ k);
  all = λ i x w. let (q, l, k) = b.all i x w in let (t, h, e) = s.all q l in (t, h, e ∙ k);
}

module _ {g : DexelGrid} {log : List Float} {first width : ℕ} {before between after : List ℕ} {r : Batch}
    (inside : first + width ≤ ray_count g) (h : GatherRaysPost g log first width before between (Some r)) where
  -- THE LAW: keys that are gathered and sorted
  pub sorted-batch : SameKeys r.count between after → KeysAscend after r.count → NextBatchPost g log first before after (Some r)
  sorted-batch s ascend = record {
    size = s.size ∙ h.size;
    batch = (
      h.batch.some,
      record {
        room = omega (arith, h.batch.room, s.size);
        inside = omega (arith, h.batch.most);
        batched = keys-sorted s h.batch.batched;
        ascending = ascend;
      },
    );
  }
