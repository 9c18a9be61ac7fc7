-- How far the hits of one kind reach that begin at or before b, when one entry more is passed.
use Rattle.std.proofs.Common.{◌≡◌, ℕ, ◌+◌, Bool, true, false, cond, ◌⊎◌, List, refl, inl, inr, ⊎_elim, true≢false, arith}
use mathlib.Core.Bool.{false≢true}
use native.Mathlib.Decide.{dec_lt}
use lib.Ieee.{Float, lt, le, neg}
use Rattle.doubles.specs.Doubles.{Number}
use Rattle.logic.proofs.Bools.{and_right, clash}
use Rattle.doubles.proofs.Order.{lt-number, not-lt→le, lt_trans, lt-le-trans}
use Rattle.spans.specs.Spans.{within}
use Rattle.log_model.specs.Logs.{entry_at, HitKind, hit_lo, hit_hi}
use Rattle.log_keys.specs.Keys.{top}
use Rattle.log_keys.proofs.Infinity.{bottom-number, none_below}
use Rattle.log_keys.proofs.Past.{begun-within}
use Rattle.log_long.specs.Long.{further_of, FrontReach}

-- ---- one hit

-- `next` is how far the hits reach with the hit [lo, hi] more
record Further (front b lo hi next : Float) : Type 0 where
  number : Number next
  keeps : (x : Float) → lt x front ≡ true → lt x next ≡ true
  reaches : lt lo hi ≡ true → lt b lo ≡ false → (x : Float) → lt x hi ≡ true → lt x next ≡ true
  only : (x : Float) → within b next x ≡ true → (within b front x ≡ true) ⊎ (within lo hi x ≡ true)

chosen : (P : Float → Type 0) (p q r : Bool) (x y : Float) → (p ≡ true → q ≡ false → r ≡ true → P y)
    → ((p ≡ true → q ≡ false → r ≡ false) → P x) → P (cond p (cond q x (cond r y x)) x)
chosen P true true r x y grows stays = stays (λ e f. absurd (true≢false f))
chosen P true false true x y grows stays = grows refl refl refl
chosen P true false false x y grows stays = stays (λ e f. refl)
chosen P false q r x y grows stays = stays (λ e. absurd (false≢true e))

further-is : (front b lo hi : Float) → Number front → Further front b lo hi (further_of front b lo hi)
unfolding further_of
further-is front b lo hi n = chosen (Further front b lo hi) (lt lo hi) (lt b lo) (lt front hi) front hi
    (λ proper begun l. record {
      number = (lt-number front hi l).1;
      keeps = λ x h. lt_trans x front hi h l;
      reaches = λ p q x h. h;
      only = λ x h. inr (begun-within b lo hi x proper begun h);
    })
    (λ stays. record {
      number = n;
      keeps = λ x h. h;
      reaches = λ p q x h. lt-le-trans x hi front h (not-lt→le front hi n (lt-number x hi h).1 (stays p q));
      only = λ x h. inl h;
    })

-- ---- the entries of a log

module _ (rays : ℕ → ℕ) (log : List Float) (ray : ℕ) (b : Float) (w : HitKind) where
  pub reaches-start : FrontReach rays log ray b 0 w (neg top)
  reaches-start = record {
    number = bottom-number;
    all = λ i h. absurd (omega arith);
    only = λ x h. absurd (clash _ (and_right (le b x) (lt x (neg top)) h) (none_below x));
  }

  -- the entry at place i is not on the ray
  pub reaches-passed : (i : ℕ) (front : Float) → (rays i ≡ ray → ⊥) → FrontReach rays log ray b i w front
      → FrontReach rays log ray b (i + 1) w front
  reaches-passed i front off s = record {
    number = s.number;
    all = λ j h r. elim (dec_lt j i) [
      | yes a ↦ s.all j a r
      | no a ↦ let last : j ≡ i = omega arith in absurd (off (rw last at r))
    ];
    only = λ x h. let (j, a, r, e) = s.only x h in (j, omega arith, r, e);
  }

  -- it is
  pub reaches-added : (i : ℕ) (front : Float) → rays i ≡ ray → FrontReach rays log ray b i w front
      → FrontReach rays log ray b (i + 1) w (further_of front b (hit_lo w (entry_at log i)) (hit_hi w (entry_at log i)))
  reaches-added i front on s =
      let f = further-is front b (hit_lo w (entry_at log i)) (hit_hi w (entry_at log i)) s.number in
      record {
        number = f.number;
        all = λ j h r p q x l. elim (dec_lt j i) [
          | yes a ↦ f.keeps x (s.all j a r p q x l)
          | no a ↦ let last : j ≡ i = omega arith in f.reaches (rw last at p) (rw last at q) x (rw last at l)
        ];
        only = λ x h. ⊎_elim (λ o. let (j, a, r, e) = s.only x o in (j, omega arith, r, e)) (λ o. (i, omega arith, on, o)) (f.only x h);
      }
