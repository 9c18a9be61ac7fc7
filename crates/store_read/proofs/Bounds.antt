-- A list is sound exactly where each pair begins past the end of the one before and has lo < hi, and then its first
-- and last end tell its bounds.
use mathlib.Core.Path.{◌≡◌, refl, sym, ap, ◌∙◌, subst}
use mathlib.Core.Logic.{⊎_elim}
use mathlib.Core.Bool.{Bool, true, false, not, ◌&&◌}
use mathlib.Core.List.{List, [], ◌∷◌}
use Prim.Native.Nat.{ℕ, ◌-◌, ◌%◌}
use native.Mathlib.Omega.{arith}
use lib.Dec.{eqb}
use lib.Ieee.{Float, nan, binary64, is_nan, of_bits, lt, le}
use lib.ListN.{length}
use borrow.Author.Tests.{eq-eqb, eqb-true}
use Rattle.logic.proofs.Bools.{and_left, and_right, and-false, both, same_if, clash, by_cases}
use Rattle.doubles.specs.Doubles.{Number}
use Rattle.doubles.proofs.Order.{lt-number, lt→le, le_trans, le-nan, lt_not_le}
use Rattle.spans.specs.Spans.{rising, sound}
use Rattle.store.specs.Store.{lo_at, hi_at, next_at, list_from}
use Rattle.spans.specs.Rays.{ValidRay, bounded}
use Rattle.spans.proofs.Containment.{from-skip, from-stop, valid-ray, ray-valid}
use Rattle.store_read.proofs.Steps.{Step, no-ends}
use Rattle.spans.specs.Containment.{from, covers, contained, valid}
use Rattle.store_read.specs.Steps.{starts_in}

cons-some : {x : Float} {l : List Float} → x ∷ l ≡ [] → ⊥
cons-some {x} {l} e = let none : length (x ∷ l) ≡ 0 = ap length e in omega arith

-- ---- sound lists
-- the list comes after a pair that ends at x, or is any where x is a NaN
unfoldable pub after : Float → List Float → Bool
after x [] = true
after x (a ∷ []) = false
after x (a ∷ b ∷ l) = (not (le a x) && lt a b) && after b l

record AfterPair (x a b : Float) (l : List Float) : Type 0 where
  past : not (le a x) ≡ true
  pair : lt a b ≡ true
  rest : after b l ≡ true

after-pair : (x a b : Float) (l : List Float) → after x (a ∷ b ∷ l) ≡ true → AfterPair x a b l
unfolding after
after-pair x a b l h =
    let p = and_left (not (le a x) && lt a b) (after b l) h in
    record {
      past = and_left (not (le a x)) (lt a b) p;
      pair = and_right (not (le a x)) (lt a b) p;
      rest = and_right (not (le a x) && lt a b) (after b l) h;
    }

pair-after : (x a b : Float) (l : List Float) → not (le a x) ≡ true → lt a b ≡ true → after b l ≡ true → after x (a ∷ b ∷ l) ≡ true
unfolding after
pair-after x a b l p q r = both (not (le a x) && lt a b) (after b l) (both (not (le a x)) (lt a b) p q) r

-- after an end that is a number, not to begin there or below is to begin past it
past-lt : (x a b : Float) → Number x → lt a b ≡ true → not (le a x) ≡ true → lt x a ≡ true
past-lt x a b n h p = lt_not_le x a n (lt-number a b h).0 ∙ p

lt-past : (x a b : Float) → Number x → lt a b ≡ true → lt x a ≡ true → not (le a x) ≡ true
lt-past x a b n h p = sym (lt_not_le x a n (lt-number a b h).0) ∙ p

record Fits (x : Float) (l : List Float) : Type 0 where
  whole : length l % 2 ≡ 0
  rises : rising (x ∷ l) ≡ true

fits-of : (x : Float) (l : List Float) → Number x → after x l ≡ true → Fits x l
unfolding after rising
fits-of x [] n h = record { whole = refl; rises = refl }
fits-of x (a ∷ []) n h = absurd (clash false h refl)
fits-of x (a ∷ b ∷ l) n h =
    let p = after-pair x a b l h in
    let f = fits-of b l (lt-number a b p.pair).1 p.rest in
    record {
      whole = omega (arith, f.whole);
      rises = both (lt x a) _ (past-lt x a b n p.pair p.past) (both (lt a b) _ p.pair f.rises);
    }

fits-to : (x : Float) (l : List Float) → Number x → Fits x l → after x l ≡ true
unfolding after rising
fits-to x [] n f = refl
fits-to x (a ∷ []) n f = absurd (omega (arith, f.whole))
fits-to x (a ∷ b ∷ l) n f =
    let r = and_right (lt x a) (rising (a ∷ b ∷ l)) f.rises in
    let ab : lt a b ≡ true = and_left (lt a b) (rising (b ∷ l)) r in
    pair-after x a b l (lt-past x a b n ab (and_left (lt x a) (rising (a ∷ b ∷ l)) f.rises)) ab
    (fits-to b l (lt-number a b ab).1 (record { whole = omega (arith, f.whole); rises = and_right (lt a b) (rising (b ∷ l)) r }))

-- a list after a NaN is any sound list
pub sound-after : (x : Float) (l : List Float) → is_nan x ≡ true → sound l ≡ after x l
unfolding after sound rising
sound-after x [] n = refl
sound-after x (a ∷ []) n = refl
sound-after x (a ∷ b ∷ l) n = same_if _ _ to of
  where
    to : sound (a ∷ b ∷ l) ≡ true → after x (a ∷ b ∷ l) ≡ true
    to h =
        let w : length (a ∷ b ∷ l) % 2 ≡ 0 =
        eqb-true (length (a ∷ b ∷ l) % 2) 0 (and_left (eqb (length (a ∷ b ∷ l) % 2) 0) (rising (a ∷ b ∷ l)) h) in
        let r = and_right (eqb (length (a ∷ b ∷ l) % 2) 0) (rising (a ∷ b ∷ l)) h in
        let ab : lt a b ≡ true = and_left (lt a b) (rising (b ∷ l)) r in
        pair-after x a b l (ap not (le-nan a x n)) ab
        (fits-to b l (lt-number a b ab).1
        (record { whole = omega arith; rises = and_right (lt a b) (rising (b ∷ l)) r }))

    of : after x (a ∷ b ∷ l) ≡ true → sound (a ∷ b ∷ l) ≡ true
    of h =
        let p = after-pair x a b l h in
        let f = fits-of b l (lt-number a b p.pair).1 p.rest in
        let w : length (a ∷ b ∷ l) % 2 ≡ 0 = omega (arith, f.whole) in
        both (eqb (length (a ∷ b ∷ l) % 2) 0) _ (eq-eqb (length (a ∷ b ∷ l) % 2) 0 w) (both (lt a b) _ p.pair f.rises)

-- the last end of a list that comes after an end x
unfoldable pub last_end : Float → List Float → Float
last_end x [] = x
last_end x (a ∷ []) = x
last_end x (a ∷ b ∷ l) = last_end b l

module _ (low high : Float) where
  -- the bounds of the ends of a pair, and those of the pair
  two-bounded : (a b : Float) (l : List Float) → le low a ≡ true → lt a b ≡ true → le b high ≡ true
      → bounded low high l ≡ true → bounded low high (a ∷ b ∷ l) ≡ true
  unfolding bounded
  two-bounded a b l la ab bh rest =
      both (le low a) _ la (both (le a high) _ (le_trans a b high (lt→le a b ab) bh)
      (both (le low b) _ (le_trans low a b la (lt→le a b ab)) (both (le b high) _ bh rest)))

  two-bounds : (a b : Float) (l : List Float) → bounded low high (a ∷ b ∷ l) ≡ true
      → (le low a ≡ true) × (le b high ≡ true) × (bounded low high l ≡ true)
  unfolding bounded
  two-bounds a b l h =
      let of-b = and_right (le low b) _ (and_right (le a high) _ (and_right (le low a) _ h)) in
      (and_left (le low a) _ h, and_left (le b high) (bounded low high l) of-b, and_right (le b high) (bounded low high l) of-b)

  -- where the last end is within the bounds, all of a list that rises from within them is
  last-tells : (x : Float) (l : List Float) → Number x → le low x ≡ true → after x l ≡ true
      → le (last_end x l) high ≡ true → (bounded low high l ≡ true) × (le x high ≡ true)
  unfolding after bounded last_end
  last-tells x [] n lx h e = (refl, e)
  last-tells x (a ∷ []) n lx h e = absurd (clash false h refl)
  last-tells x (a ∷ b ∷ l) n lx h e =
      let p = after-pair x a b l h in
      let xa : le x a ≡ true = lt→le x a (past-lt x a b n p.pair p.past) in
      let la : le low a ≡ true = le_trans low x a lx xa in
      let ab : le a b ≡ true = lt→le a b p.pair in
      let rest = last-tells b l (lt-number a b p.pair).1 (le_trans low a b la ab) p.rest e in
      (two-bounded a b l la p.pair rest.1 rest.0, le_trans x a high xa (le_trans a b high ab rest.1))

  last_within : (x : Float) (l : List Float) → bounded low high l ≡ true → le x high ≡ true → after x l ≡ true
      → le (last_end x l) high ≡ true
  unfolding after last_end
  last_within x [] h e s = e
  last_within x (a ∷ []) h e s = absurd (clash false s refl)
  last_within x (a ∷ b ∷ l) h e s = let i = two-bounds a b l h in last_within b l i.2 i.1 (after-pair x a b l s).rest

  -- the bounds of a sound list by its two ends
  ends-tell : (x : Float) (l : List Float) → after x l ≡ true → starts_in low l ≡ true → (l ≡ [] → ⊥)
      → bounded low high l ≡ le (last_end x l) high
  unfolding last_end after
  ends-tell x [] h s ne = absurd (ne refl)
  ends-tell x (a ∷ []) h s ne = absurd (clash false h refl)
  ends-tell x (a ∷ b ∷ l) h s ne =
      let p = after-pair x a b l h in
      let lb : le low b ≡ true = le_trans low a b s (lt→le a b p.pair) in
      same_if (bounded low high (a ∷ b ∷ l)) (le (last_end b l) high)
      (λ q. let i = two-bounds a b l q in last_within b l i.2 i.1 p.rest)
      (λ q. let r = last-tells b l (lt-number a b p.pair).1 lb p.rest q in two-bounded a b l s p.pair r.1 r.0)

  -- a list that begins below low is not within the bounds
  pub starts-bad : (r : Bool) (l : List Float) → r ≡ starts_in low l → r ≡ false → (sound l && bounded low high l) ≡ false
  unfolding bounded
  starts-bad r [] e h = absurd (clash r e h)
  starts-bad r (a ∷ l) e h = and-false (sound (a ∷ l)) _ (ap (λ (t : Bool). t && (le a high && bounded low high l)) (sym e ∙ h))

  -- ---- lists within others
  from-bounded : (x : Float) (l : List Float) → bounded low high l ≡ true → bounded low high (from x l) ≡ true
  unfolding bounded from
  from-bounded x [] h = refl
  from-bounded x (a ∷ []) h = refl
  from-bounded x (a ∷ b ∷ l) h = ⊎_elim
      (λ (t : lt b x ≡ true). subst (λ (m : List Float). bounded low high m ≡ true) (sym (from-skip x a b l t))
      (from-bounded x l (two-bounds a b l h).2))
      (λ (t : lt b x ≡ false). subst (λ (m : List Float). bounded low high m ≡ true) (sym (from-stop x a b l t)) h)
      (by_cases (lt b x))

  covers-bounds : (l : List Float) (lo hi : Float) → bounded low high l ≡ true → covers l lo hi ≡ true
      → (le low lo ≡ true) × (le hi high ≡ true)
  covers-bounds [] lo hi h c = absurd (clash false c refl)
  covers-bounds (a ∷ []) lo hi h c = absurd (clash false c refl)
  covers-bounds (a ∷ b ∷ l) lo hi h c =
      let i = two-bounds a b l h in
      (le_trans low a lo i.0 (and_left (le a lo) (le hi b) c), le_trans hi b high (and_right (le a lo) (le hi b) c) i.1)

  -- what lies in a list within the bounds is within them
  pub contained-bounded : (x : Float) (outer inner : List Float) → bounded low high outer ≡ true
      → after x inner ≡ true → contained outer inner ≡ true → bounded low high inner ≡ true
  unfolding bounded after contained
  contained-bounded x outer [] h s c = refl
  contained-bounded x outer (lo ∷ []) h s c = absurd (clash false s refl)
  contained-bounded x outer (lo ∷ hi ∷ inner) h s c =
      let p = after-pair x lo hi inner s in
      let cut : bounded low high (from hi outer) ≡ true = from-bounded hi outer h in
      let i = covers-bounds (from hi outer) lo hi cut (and_left (covers (from hi outer) lo hi) (contained (from hi outer) inner) c) in
      two-bounded lo hi inner i.0 p.pair i.1
      (contained-bounded hi (from hi outer) inner cut p.rest
      (and_right (covers (from hi outer) lo hi) (contained (from hi outer) inner) c))

-- ---- the loops of `sound_between` and `sound_within`
module _ (n : ℕ) (spans : List Float) (links : List ℕ) where
  pub after_none : (x : Float) (k : ℕ) → k ≡ 0 → after x (list_from n spans links k) ≡ true
  unfolding after
  after_none x k e = ap (after x) (no-ends n spans links k e)

  after-step : (x : Float) (k : ℕ) → Step n spans links k
      → after x (list_from n spans links k)
      ≡ ((not (le (lo_at spans (k - 1)) x) && lt (lo_at spans (k - 1)) (hi_at spans (k - 1)))
      && after (hi_at spans (k - 1)) (list_from n spans links (next_at links (k - 1))))
  unfolding after
  after-step x k s = ap (after x) s.read

  pub after-bad : (x : Float) (k : ℕ) (r : Bool) → Step n spans links k
      → r ≡ (not (le (lo_at spans (k - 1)) x) && lt (lo_at spans (k - 1)) (hi_at spans (k - 1))) → r ≡ false
      → after x (list_from n spans links k) ≡ false
  after-bad x k r s e h = after-step x k s
      ∙ ap (λ (t : Bool). t && after (hi_at spans (k - 1)) (list_from n spans links (next_at links (k - 1))))
      (sym e ∙ h)

  pub after-good : (x : Float) (k : ℕ) (r : Bool) → Step n spans links k
      → r ≡ (not (le (lo_at spans (k - 1)) x) && lt (lo_at spans (k - 1)) (hi_at spans (k - 1))) → r ≡ true
      → after x (list_from n spans links k) ≡ after (hi_at spans (k - 1)) (list_from n spans links (next_at links (k - 1)))
  after-good x k r s e h = after-step x k s
      ∙ ap (λ (t : Bool). t && after (hi_at spans (k - 1)) (list_from n spans links (next_at links (k - 1))))
      (sym e ∙ h)

  pub last_step : (x : Float) (k : ℕ) → Step n spans links k
      → last_end x (list_from n spans links k) ≡ last_end (hi_at spans (k - 1)) (list_from n spans links (next_at links (k - 1)))
  unfolding last_end
  last_step x k s = ap (last_end x) s.read

  pub last_none : (x : Float) (k : ℕ) → k ≡ 0 → last_end x (list_from n spans links k) ≡ x
  unfolding last_end
  last_none x k e = ap (last_end x) (no-ends n spans links k e)

  -- ---- the end of `sound_between`
  pub none_between : (low high : Float) (k : ℕ) → k ≡ 0
      → (sound (list_from n spans links k) && bounded low high (list_from n spans links k)) ≡ true
  unfolding sound rising bounded
  none_between low high k e = ap (λ (l : List Float). sound l && bounded low high l) (no-ends n spans links k e)

  pub all-between : (low high x : Float) (k : ℕ) (r : Bool) (e : Float) → is_nan x ≡ true → Step n spans links k
      → r ≡ starts_in low (list_from n spans links k) → r ≡ true
      → after x (list_from n spans links k) ≡ true → last_end x (list_from n spans links k) ≡ e
      → (sound (list_from n spans links k) && bounded low high (list_from n spans links k)) ≡ le e high
  all-between low high x k r e nx s er h a z =
      ap (λ (t : Bool). t && bounded low high (list_from n spans links k)) (sound-after x (list_from n spans links k) nx ∙ a)
      ∙ ends-tell low high x (list_from n spans links k) a (sym er ∙ h)
      (λ none. cons-some (sym s.read ∙ none)) ∙ ap (λ (y : Float). le y high) z

-- ---- the answers of `starts_within`
module _ (n : ℕ) (spans : List Float) (links : List ℕ) (k : ℕ) (low : Float) where
  pub starts_none : k ≡ 0 → true ≡ starts_in low (list_from n spans links k)
  starts_none e = sym (ap (starts_in low) (no-ends n spans links k e))

  pub starts-some : Step n spans links k → le low (lo_at spans (k - 1)) ≡ starts_in low (list_from n spans links k)
  starts-some s = sym (ap (starts_in low) s.read)

-- ---- the answers of `sound_between` and `sound_within`
nan_is : is_nan nan ≡ true
unfolding is_nan
nan_is = refl

pub made-nan : is_nan (of_bits binary64 9221120237041090560) ≡ true
unfolding is_nan of_bits
made-nan = refl

-- ---- two tests at once
pub left-same : (a b c : Bool) → a ≡ b → (a && c) ≡ (b && c)
left-same a b c e = ap (λ (t : Bool). t && c) e

pub left-bad : (a b : Bool) → a ≡ false → (a && b) ≡ false
left-bad a b e = ap (λ (t : Bool). t && b) e

pub out-bad : (x : Float) (l m : List Float) → contained m l ≡ false → (after x l && contained m l) ≡ false
out-bad x l m e = and-false (after x l) (contained m l) e

pub both-same : (a b c d : Bool) → a ≡ b → c ≡ d → (a && c) ≡ (b && d)
both-same a b c d e f = ap (λ (t : Bool). t && c) e ∙ ap (λ (t : Bool). b && t) f

-- ---- the answers of `measure_ray`
module _ (low high : Float) (possible certain : List Float) where
  pub possible-bad : (sound possible && bounded low high possible) ≡ false → ValidRay low high possible certain → ⊥
  possible-bad h v = clash (sound possible && bounded low high possible) (both _ _ v.possible_sound v.possible_bounded) h

  pub certain-bad : (sound certain && contained possible certain) ≡ false → ValidRay low high possible certain → ⊥
  unfolding valid
  certain-bad h v = clash (sound certain && contained possible certain)
      (both (sound certain) _ v.certain_sound
      (and_right (bounded low high certain) _
      (and_right (bounded low high possible) _
      (and_right (sound certain) _ (and_right (sound possible) _ (ray-valid low high possible certain v)))))) h

  pub both-good : (sound possible && bounded low high possible) ≡ true → (sound certain && contained possible certain) ≡ true
      → ValidRay low high possible certain
  unfolding valid
  both-good bp all =
      let sc : sound certain ≡ true = and_left (sound certain) (contained possible certain) all in
      let cc : contained possible certain ≡ true = and_right (sound certain) (contained possible certain) all in
      let bp' : bounded low high possible ≡ true = and_right (sound possible) _ bp in
      valid-ray low high possible certain
      (both (sound possible) _ (and_left _ (bounded low high possible) bp)
      (both (sound certain) _ sc (both (bounded low high possible) _ bp'
      (both (bounded low high certain) _
      (contained-bounded low high nan possible certain bp' (sym (sound-after nan certain nan_is) ∙ sc) cc) cc))))
