-- Batches that lose their last rays, and batches with one entry more.
use Rattle.std.proofs.Common.{◌≡◌, ℕ, ◌+◌, ◌-◌, ◌*◌, ◌%◌, ◌^◌, ◌<◌, ◌≤◌, ltb, List, set, refl, ◌∙◌, mul-le-mul_right}
use Rattle.std.proofs.Common.{lt_of_mul-lt-mul_right, arith, length-set, ltb-true, lt-ltb}
use Rattle.std.specs.Prelude.{Option, None, Some}
use Rattle.log_keys.specs.KeysKept.{KeysKept}
use Rattle.log_keys.proofs.Wanting.{keys-passed, keys-added, keys-fewer}
use Rattle.log_batches.specs.Batches.{batch_key_of, Batched, AddPre, BatchPost, StaysBatched, BatchRoomPost, AddPost}
use Rattle.log_batches.specs.declared.Batch.{Batch}

-- the key of an entry is below the width times the number of entries exactly where its ray is within the width
key_below : (d w n i : ℕ) → i < n → d < w → d * n + i < w * n
key_below d w n i l h = let more : (d + 1) * n ≤ w * n = mul-le-mul_right n (omega arith) in omega arith

key-within : (d w n i : ℕ) → d * n + i < w * n → d < w
key-within d w n i h = lt_of_mul-lt-mul_right n (omega arith)

-- THE LAW of narrowing: the keys below the new width times n are those of the narrower batch
narrowed : {rays : ℕ → ℕ} {n first passed v w : ℕ} {before after : List ℕ} {m r : ℕ} → passed ≤ n → w ≤ v
    → KeysKept (λ key. ltb key (w * n)) before m after r
    → Batched rays n first passed v before m → Batched rays n first passed w after r
narrowed {rays} {n} {first} {w = w} past less kept =
    keys-fewer kept
    (λ i p (from, to) y. (from, omega (arith, key-within (rays i - first) w n i (ltb-true _ (w * n) y))))
    (λ i p (from, to).
    ((from, omega arith), lt-ltb _ _ (key_below (rays i - first) w n i (omega arith) (omega arith))))

-- ---- a batch on its way to be narrow enough

abbrev pub Narrowing : (n : ℕ) (before : List ℕ) (w : Batch) (after : List ℕ) (t : Batch) → Type 0
Narrowing n before w after t = BatchPost w.width before after (Some t) (λ r. StaysBatched n before w after r)

module _ {n : ℕ} {before : List ℕ} {w : Batch} {now : List ℕ} {t : Batch} (s : Narrowing n before w now t) where
  pub narrowing-turn : {v : ℕ} {after : List ℕ} {r : ℕ} → 0 < v → v ≤ t.width → KeysKept (λ key. ltb key (v * n)) now t.count after r
      → Narrowing n before w after (record { width = v; count = r })
  narrowing-turn some less kept = record {
    size = kept.size ∙ s.size;
    batch = record {
      some = some;
      most = omega (arith, s.batch.most);
      room = omega (arith, kept.most, kept.size, s.batch.room);
      batched = record { stays = λ rays first passed l b. narrowed l less kept (s.batch.batched.stays rays first passed l b) };
    };
  }

-- ---- one entry more

module _ {first ray n i : ℕ} where
  -- it is on none of the batch's rays
  pub adds_none : {keys : List ℕ} {w : Batch} → AddPre n keys w → (first ≤ ray → ray < first + w.width → ⊥)
      → AddPost first ray n i keys w keys (Some w)
  adds_none h other = record {
    size = refl;
    batch = record {
      some = h.some;
      most = omega arith;
      room = h.room;
      batched = λ rays e b. keys-passed b (λ (f, l). other (rw e at f) (rw e at l));
    };
  }

  module _ {before : List ℕ} {w : Batch} {after : List ℕ} {t : Batch} (s : BatchRoomPost n before w after (Some t)) (inside : i < n) where
    -- it was on one, and the batch lost that ray
    pub adds-lost : (first ≤ ray → ray < first + t.width → ⊥) → AddPost first ray n i before w after (Some t)
    adds-lost other = record {
      size = s.size;
      batch = record {
        some = s.batch.some;
        most = s.batch.most;
        room = s.batch.room;
        batched = λ rays e b.
            keys-passed (s.batch.batched.1.stays rays first i (omega arith) b) (λ (x, l). other (rw e at x) (rw e at l));
      };
    }

    -- THE LAW: its key stands behind the others
    pub adds_one : first ≤ ray → ray < first + t.width
        → AddPost first ray n i before w (set after t.count (batch_key_of first ray n i))
        (Some (record { width = t.width; count = t.count + 1 }))
    adds_one from to =
        let (free, kept) = s.batch.batched in
        let same = length-set after t.count (batch_key_of first ray n i) in
        record {
          size = same ∙ s.size;
          batch = record {
            some = s.batch.some;
            most = s.batch.most;
            room = omega (arith, free, same);
            batched = λ rays e b. rw (← e) (keys-added (kept.stays rays first i (omega arith) b) (rw e (from, to)) free);
          };
        }

-- how far a ray is past the first, as the machine tells: below the width it is the difference, and a ray that is at
-- least the width past it, or below the first, is none of the batch
module _ {first ray d : ℕ} (e : (d + first) % 2 ^ 64 ≡ ray) (small : d < 2 ^ 64) (low : first < 2 ^ 64) where
  pub past-none : {w : ℕ} → w ≤ d → first ≤ ray → ray < first + w → ⊥
  past-none h f l = omega arith

  module _ {w : ℕ} (within : d < w) (fits : first + w ≤ 2 ^ 64) where
    pub past-from : first ≤ ray
    past-from = omega arith

    pub past_is : d ≡ ray - first
    past_is = omega arith

-- ---- the claim on a batch

module _ {width : ℕ} {before after : List ℕ} {claim : Batch → Type 0} where
  -- what the claim implies holds too
  pub claim-implies : {more : Batch → Type 0} → ((w : Batch) → claim w → more w) → (r : Option Batch) → BatchPost width before after r claim
      → BatchPost width before after r more
  claim-implies f None s = record { size = s.size; batch = s.batch }
  claim-implies f (Some w) s = record {
    size = s.size;
    batch = record { some = s.batch.some; most = s.batch.most; room = s.batch.room; batched = f w s.batch.batched };
  }

  -- whether there is a batch or none
  pub claim-unfilled : {w : Batch} → BatchPost width before after (Some w) claim → BatchPost width before after None claim
  claim-unfilled s = record { size = s.size; batch = tt }
