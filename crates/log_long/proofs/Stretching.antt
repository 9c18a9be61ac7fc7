-- Keys of the entries of one stretch: what is gathered stays so when the stretch ends earlier, and when an entry is passed.
use Rattle.std.proofs.Common.{◌≡◌, ℕ, ◌+◌, ◌<◌, true, false, not, List, length, get_or, set, ◌∙◌, inl, inr, arith, length-set}
use Rattle.std.proofs.Common.{get_or-set_other, get_or-set_same}
use native.Mathlib.Decide.{dec_lt}
use lib.Ieee.{Float, lt}
use Rattle.logic.proofs.Bools.{not-true, not-false, clash}
use Rattle.doubles.proofs.Order.{lt_irrefl, lt_trans}
use Rattle.log_model.specs.Logs.{entry_at, entry_count}
use Rattle.log_keys.specs.Keys.{top}
use Rattle.log_keys.specs.KeysKept.{KeysKept}
use Rattle.log_keys.proofs.Wanting.{keys-passed, keys-added, keys-fewer}
use Rattle.log_long.specs.declared.HeldKeys.{HeldKeys}
use Rattle.log_long.specs.Long.{least_past, InLog, LongEnds, LongKeys, LongRoomPost, AddKeyPost}

-- ---- the stretch ends earlier

-- the first hit of the entry of one of the first m keys begins at u
abbrev pub BeginsAt : (b : Float) (log : List Float) (keys : List ℕ) (m : ℕ) → Float → Type 0
BeginsAt b log keys m u = (q : ℕ) × (q < m) × (u ≡ least_past b (entry_at log (get_or keys q 0)))

-- the keys below u are kept, where the entry of one of them begins
module _ (b : Float) (log : List Float) (before after : List ℕ) (w : HeldKeys) (k : ℕ) (u : Float)
    (kept : KeysKept (λ key. lt (least_past b (entry_at log key)) u) before w.count after k)
    (begins : BeginsAt b log before w.count u) where
  kept-long_keys : (rays : ℕ → ℕ) (ray passed : ℕ) → LongKeys rays log ray b passed before w
      → LongKeys rays log ray b passed after record { count = k; end = u }
  kept-long_keys rays ray passed s =
      let (q, a, f) = begins in
      let (i, p, (on, l), e) = s.held.each q a in
      let at : u ≡ least_past b (entry_at log i) = rw e at f in
      let earlier : lt u w.end ≡ true = rw at l in
      record {
        held = keys-fewer kept (λ _ _ (on, _) d. (on, d)) (λ i _ (on, d). ((on, lt_trans _ u w.end d earlier), d)) s.held;
        ends = inr (elim s.ends [ inl t ↦ rw (← t) earlier | inr (t, _) ↦ lt_trans u w.end top earlier t ], (i, p, on, at));
      }

  -- THE LAW: there is room for a key more
  pub kept-roomy : InLog log before w.count → LongRoomPost b log before w after record { count = k; end = u }
  kept-roomy s = record {
    size = kept.size;
    in_log = record {
      room = omega (arith, kept.size, kept.most, s.room);
      places = λ t h. let (q, a, e, d) = kept.each t h in rw e (s.places q a);
    };
    room = let (q, a, e) = begins in omega (arith, kept.fewer q a (rw (← e) (lt_irrefl u)), kept.size, s.room);
    long_keys = kept-long_keys;
  }

-- ---- an entry is passed

module _ {rays : ℕ → ℕ} {log : List Float} {ray : ℕ} {b : Float} {i : ℕ} {keys : List ℕ} {w : HeldKeys}
    (s : LongKeys rays log ray b i keys w) where
  ends_more : LongEnds rays log ray b i w.end → LongEnds rays log ray b (i + 1) w.end
  ends_more (inl e) = inl e
  ends_more (inr (l, (j, h, r, e))) = inr (l, (j, omega arith, r, e))

  -- it is not on the ray, or none of its hits begins in the stretch
  pub long_keys-passed : (rays i ≡ ray → lt (least_past b (entry_at log i)) w.end ≡ false) → LongKeys rays log ray b (i + 1) keys w
  long_keys-passed out = record { held = keys-passed s.held (λ (on, l). clash _ l (out on)); ends = ends_more s.ends }

  -- its key is added
  long_keys-added : w.count < length keys → rays i ≡ ray → lt (least_past b (entry_at log i)) w.end ≡ true
      → LongKeys rays log ray b (i + 1) (set keys w.count i) record { count = w.count + 1; end = w.end }
  long_keys-added fit on below = record { held = keys-added s.held (on, below) fit; ends = ends_more s.ends }

in_log-added : {log : List Float} {keys : List ℕ} {count : ℕ} (i : ℕ) → InLog log keys count → count < length keys
    → i < entry_count log → InLog log (set keys count i) (count + 1)
in_log-added {keys = keys} {count = count} i s fit inside = record {
  room = omega (arith, length-set keys count i);
  places = λ t h. elim (dec_lt t count) [
    | yes a ↦ rw (get_or-set_other keys count t i 0 (λ x. omega (arith, x))) (s.places t a)
    | no a ↦
        let last : t ≡ count = omega arith in
        rw (last, get_or-set_same keys count i 0 fit) inside
  ];
}

-- the entry at place i, whose first hit past b begins at k, is gathered too
module _ {b : Float} {i : ℕ} {log : List Float} {before after : List ℕ} {w t : HeldKeys} (k : Float)
    (is : k ≡ least_past b (entry_at log i)) where
  -- not in the stretch
  pub entry-out : length after ≡ length before → InLog log after t.count
      → ((rays : ℕ → ℕ) (ray passed : ℕ) → LongKeys rays log ray b passed before w → LongKeys rays log ray b passed after t)
      → not (lt k t.end) ≡ true → AddKeyPost b i log before w after t
  entry-out size places keeps out = record {
    size = size;
    in_log = places;
    long_keys = λ rays ray on l. long_keys-passed (keeps rays ray i l) (λ _. rw (← is) (not-true (lt k t.end) out));
  }

  pub entry-added : LongRoomPost b log before w after t → i < entry_count log → not (lt k t.end) ≡ false
      → AddKeyPost b i log before w (set after t.count i) record { count = t.count + 1; end = t.end }
  entry-added made inside below = record {
    size = length-set after t.count i ∙ made.size;
    in_log = in_log-added i made.in_log made.room inside;
    long_keys = λ rays ray on l.
        long_keys-added (made.long_keys rays ray i l) made.room on (rw (← is) (not-false (lt k t.end) below));
  }
