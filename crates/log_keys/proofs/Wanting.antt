-- The keys of the entries that are wanted: when one entry more is looked at, and when fewer of them are wanted.
use mathlib.Core.Path.{◌≡◌, ◌∙◌}
use mathlib.Core.Bool.{Bool, true}
use mathlib.Core.List.{List}
use Prim.Native.Nat.{ℕ, ◌+◌, ◌<◌}
use native.Mathlib.Omega.{arith}
use native.Mathlib.Decide.{dec_lt}
use lib.ListN.{length, get_or, set}
use lib.Seq.{get_or-set_same, get_or-set_other}
use Rattle.log_keys.specs.KeysKept.{KeysKept, KeysBefore}

module _ {key : ℕ → ℕ} {wanted : ℕ → Type 0} where
  pub keys_none : (keys : List ℕ) → KeysBefore key wanted 0 keys 0
  keys_none keys = record { each = λ t h. absurd (omega arith); all = λ i h w. absurd (omega arith) }

  module _ {i : ℕ} {keys : List ℕ} {m : ℕ} (s : KeysBefore key wanted i keys m) where
    -- the entry at place i is not wanted
    pub keys-passed : (wanted i → ⊥) → KeysBefore key wanted (i + 1) keys m
    keys-passed other = record {
      each = λ t h. let (j, a, w, e) = s.each t h in (j, omega arith, w, e);
      all = λ j h w. elim (dec_lt j i) [
        | yes a ↦ s.all j a w
        | no a ↦ let last : j ≡ i = omega arith in absurd (other (rw last at w))
      ];
    }

    -- it is, and its key stands behind the others
    pub keys-added : wanted i → m < length keys → KeysBefore key wanted (i + 1) (set keys m (key i)) (m + 1)
    keys-added on room = record {
      each = λ t h. elim (dec_lt t m) [
        | yes a ↦ let (j, p, w, e) = s.each t a in (j, omega arith, w, old t a ∙ e)
        | no a ↦ let last : t ≡ m = omega arith in (i, omega arith, on, rw last new)
      ];
      all = λ j h w. elim (dec_lt j i) [
        | yes a ↦ let (t, p, e) = s.all j a w in (t, omega arith, old t p ∙ e)
        | no a ↦ let last : j ≡ i = omega arith in (m, omega arith, rw last new)
      ];
    }
      where
        new : get_or (set keys m (key i)) m 0 ≡ key i
        new = get_or-set_same keys m (key i) 0 room

        old : (t : ℕ) → t < m → get_or (set keys m (key i)) t 0 ≡ get_or keys t 0
        old t h = get_or-set_other keys m t (key i) 0 (λ e. omega arith)

  -- those that pass a test are kept
  pub keys-fewer : {fewer : ℕ → Type 0} {passed : ℕ} {test : ℕ → Bool} {before after : List ℕ} {m r : ℕ} → KeysKept test before m after r
      → ((i : ℕ) → i < passed → wanted i → test (key i) ≡ true → fewer i)
      → ((i : ℕ) → i < passed → fewer i → wanted i × (test (key i) ≡ true))
      → KeysBefore key wanted passed before m → KeysBefore key fewer passed after r
  keys-fewer kept to from s = record {
    each = λ t h.
        let (q, a, e, d) = kept.each t h in
        let (i, p, w, k) = s.each q a in
        (i, p, to i p w (rw (e ∙ k) at d), e ∙ k);
    all = λ i p f.
        let (w, d) = from i p f in
        let (q, a, k) = s.all i p w in
        let (t, b, e) = kept.all q a (rw k d) in
        (t, b, e ∙ k);
  }
