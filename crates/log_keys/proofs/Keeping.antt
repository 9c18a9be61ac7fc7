-- The loop that moves the keys that pass a test to the front.
use mathlib.Core.Path.{◌≡◌, sym, ap, ◌∙◌}
use mathlib.Core.Bool.{Bool, true, false, true≢false}
use mathlib.Core.List.{List}
use Prim.Native.Nat.{ℕ, ◌+◌, ◌<◌}
use native.Mathlib.Omega.{arith}
use native.Mathlib.Decide.{dec_lt}
use lib.ListN.{length, get_or, set, length-set}
use lib.Seq.{get_or-set_same, get_or-set_other}
use Rattle.log_keys.specs.KeysKept.{KeepPost, KeysKept}

-- one key more is looked at
module _ (test : ℕ → Bool) (before now : List ℕ) (i k : ℕ) (s : KeysKept test before i now k) (fit : i < length before) where
  here : get_or now i 0 ≡ get_or before i 0
  here = s.rest i (omega arith)

  -- it passes
  passes : test (get_or before i 0) ≡ true → KeysKept test before (i + 1) (set now k (get_or now i 0)) (k + 1)
  passes e = record {
    size = length-set now k (get_or now i 0) ∙ s.size;
    most = omega (arith, s.most);
    each = λ t h. elim (dec_lt t k) [
      | yes l ↦
          let (q, a, b, d) = s.each t l in
          let kept : get_or (set now k (get_or now i 0)) t 0 ≡ get_or now t 0 =
          get_or-set_other now k t (get_or now i 0) 0 (λ x. omega (arith, x)) in
          (q, omega (arith, a), kept ∙ b, ap test kept ∙ d)
      | no l ↦
          let last : t ≡ k = omega arith in
          let moved : get_or (set now k (get_or now i 0)) t 0 ≡ get_or before i 0 =
          ap (λ (x : ℕ). get_or (set now k (get_or now i 0)) x 0) last ∙ same ∙ here in
          (i, omega arith, moved, ap test moved ∙ e)
    ];
    all = λ q h p. elim (dec_lt q i) [
      | yes l ↦
          let (t, a, b) = s.all q l p in
          (t, omega (arith, a), get_or-set_other now k t (get_or now i 0) 0 (λ x. omega (arith, x, a)) ∙ b)
      | no l ↦ let last : i ≡ q = omega arith in (k, omega arith, same ∙ here ∙ ap (λ (x : ℕ). get_or before x 0) last)
    ];
    fewer = λ q h p. elim (dec_lt q i) [
      | yes l ↦ omega (arith, s.fewer q l p)
      | no l ↦ let last : i ≡ q = omega arith in absurd (true≢false (sym e ∙ ap (λ (x : ℕ). test (get_or before x 0)) last ∙ p))
    ];
    rest = λ q h. get_or-set_other now k q (get_or now i 0) 0 (λ x. omega (arith, x, h, s.most)) ∙ s.rest q (omega (arith, h));
  }
    where
      same : get_or (set now k (get_or now i 0)) k 0 ≡ get_or now i 0
      same = get_or-set_same now k (get_or now i 0) 0 (omega (arith, s.most, s.size, fit))

  -- it does not
  fails : test (get_or before i 0) ≡ false → KeysKept test before (i + 1) now k
  fails e = record {
    size = s.size;
    most = omega (arith, s.most);
    each = λ t h. let (q, a, b, d) = s.each t h in (q, omega (arith, a), b, d);
    all = λ q h p. elim (dec_lt q i) [
      | yes l ↦ s.all q l p
      | no l ↦ let last : q ≡ i = omega arith in absurd (true≢false (sym p ∙ ap (λ (x : ℕ). test (get_or before x 0)) last ∙ e))
    ];
    fewer = λ q h p. omega (arith, s.most);
    rest = λ q h. s.rest q (omega (arith, h));
  }

  -- THE LAW: `keep` moves it where it passes
  pub kept-turn : (kept : Bool) (after : List ℕ) (r : ℕ) → kept ≡ test (get_or now i 0) → KeepPost k i kept now after r
      → KeysKept test before (i + 1) after r
  kept-turn true after r e m = rw m.keys (rw m.next (passes (sym (e ∙ ap test here))))
  kept-turn false after r e m = rw m.keys (rw m.next (fails (sym (e ∙ ap test here))))
