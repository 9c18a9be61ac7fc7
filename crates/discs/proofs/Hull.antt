-- What the outer pair of one strip holds, that of its hull with another holds (`hull-left`, `hull-right`), whatever doubles the
-- other strip has. Assumes nothing.
use mathlib.Core.Path.{◌≡◌, refl, sym, subst}
use mathlib.Core.Logic.{◌⊎◌, inl, inr}
use Prim.Native.Nat.{ℕ}
use mathlib.Core.Bool.{Bool, true, false}
use lib.Dec.{T}
use lib.IntN.{ℤ}
use lib.Ieee.{Float, nan, inf, fin, binary64, add, sub, le, fits, is_nan}
use lib.Ieee.Fits.{add-fits, sub-fits}
use lib.Ieee.Scale.{finite}
use Rattle.doubles.specs.Doubles.{Number, larger_of, smaller_of}
use Rattle.doubles.proofs.Order.{le_refl}
use Rattle.doubles.proofs.Pick.{Extreme, first, second, ge, larger-extreme, smaller-extreme}
use Rattle.doubles.proofs.Pick.{larger-nan-left, larger-nan-right, smaller-nan-left, smaller-nan-right}
use Rattle.doubles_rounding.proofs.Monotone.{add-mono, sub-mono}
use Rattle.strips.specs.declared.Strip.{Strip}
use Rattle.strips.specs.declared.Strip.TheVariants.{Hit, Miss}
use Rattle.strips.specs.Strip.{hull}
use Rattle.strips.proofs.Ends.{DoubleEnds, hull-doubles}
use Rattle.discs.specs.Outer.{widened_by}
use Rattle.discs.specs.Disc.{EndBelow, EndAbove, HoldsClosed}
use Rattle.discs.proofs.Ends.{below-le, above-le}

-- an end that a point is compared with is a number
most-number : (s : ℕ) (a guard : Float) (x : ℤ) → EndBelow s (sub binary64 a guard) x → Number a
unfolding EndBelow sub is_nan
most-number s nan guard x h = absurd h
most-number s (inf t) guard x h = refl
most-number s (fin t m e) guard x h = refl

least-number : (s : ℕ) (a guard : Float) (x : ℤ) → EndAbove s (add binary64 a guard) x → Number a
unfolding EndAbove add is_nan
least-number s nan guard x h = absurd h
least-number s (inf t) guard x h = refl
least-number s (fin t m e) guard x h = refl

-- r is a, or comes after it by R
abbrev Beside : (Float → Float → Bool) → Float → Float → Type 0
Beside R r a = (r ≡ a) ⊎ (R a r ≡ true)

-- an extreme comes after both
extreme-left : (R : Float → Float → Bool) (a b r : Float) → R a a ≡ true → Extreme R a b r → R a r ≡ true
extreme-left R a b r h (first k) = h
extreme-left R a b r h (second k) = k

extreme-right : (R : Float → Float → Bool) (a b r : Float) → R b b ≡ true → Extreme R a b r → R b r ≡ true
extreme-right R a b r h (first k) = k
extreme-right R a b r h (second k) = h

-- r is one of a and b, and the other is passed over where it is a NaN
by-nan : (R : Float → Float → Bool) (r a b : Float) → (is_nan b ≡ true → r ≡ a) → (Number b → R a r ≡ true) → Beside R r a
by-nan R r a b f g = go (is_nan b) refl
  where
    go : (t : Bool) → is_nan b ≡ t → Beside R r a
    go true e = inl (f e)
    go false e = inr (g e)

module _ (s : ℕ) (x : ℤ) (guard : Float) (g_held : T (fits binary64 guard)) (g-finite : T (finite guard)) where
  lower : (r a : Float) → T (fits binary64 r) → T (fits binary64 a) → Beside ge r a
      → EndBelow s (sub binary64 a guard) x → EndBelow s (sub binary64 r guard) x
  lower r a fr fa (inl e) h = subst (λ (u : Float). EndBelow s (sub binary64 u guard) x) (sym e) h
  lower r a fr fa (inr e) h =
      below-le s x (sub binary64 r guard) (sub binary64 a guard) (sub-fits binary64 r guard) (sub-fits binary64 a guard)
      (sub-mono binary64 guard g_held g-finite r a fr fa e) h

  upper : (r a : Float) → T (fits binary64 r) → T (fits binary64 a) → Beside le r a
      → EndAbove s (add binary64 a guard) x → EndAbove s (add binary64 r guard) x
  upper r a fr fa (inl e) h = subst (λ (u : Float). EndAbove s (add binary64 u guard) x) (sym e) h
  upper r a fr fa (inr e) h =
      above-le s x (add binary64 a guard) (add binary64 r guard) (add-fits binary64 a guard) (add-fits binary64 r guard)
      (add-mono binary64 guard g_held g-finite a r fa fr e) h

  pub hull-left : (A B : Strip) → DoubleEnds A → DoubleEnds B → HoldsClosed s x (widened_by guard A)
      → HoldsClosed s x (widened_by guard (hull A B))
  unfolding HoldsClosed widened_by hull
  hull-left Miss B a b h = absurd h
  hull-left (Hit lo hi) Miss a b h = h
  hull-left (Hit lo hi) (Hit lo' hi') a b h =
      let c = hull-doubles (Hit lo hi) (Hit lo' hi') a b in
      let p = most-number s lo guard x h.0 in
      let q = least-number s hi guard x h.1 in (
        lower (smaller_of lo lo') lo c.0 a.0
            (by-nan ge (smaller_of lo lo') lo lo' (smaller-nan-right lo lo' p)
            (λ n. extreme-left ge lo lo' (smaller_of lo lo') (le_refl lo p) (smaller-extreme lo lo' p n))) h.0,
        upper (larger_of hi hi') hi c.1 a.1
            (by-nan le (larger_of hi hi') hi hi' (larger-nan-right hi hi' q)
            (λ n. extreme-left le hi hi' (larger_of hi hi') (le_refl hi q) (larger-extreme hi hi' q n))) h.1,
      )

  pub hull-right : (A B : Strip) → DoubleEnds A → DoubleEnds B → HoldsClosed s x (widened_by guard B)
      → HoldsClosed s x (widened_by guard (hull A B))
  unfolding HoldsClosed widened_by hull
  hull-right Miss B a b h = h
  hull-right (Hit lo hi) Miss a b h = absurd h
  hull-right (Hit lo hi) (Hit lo' hi') a b h =
      let c = hull-doubles (Hit lo hi) (Hit lo' hi') a b in
      let p = most-number s lo' guard x h.0 in
      let q = least-number s hi' guard x h.1 in (
        lower (smaller_of lo lo') lo' c.0 b.0
            (by-nan ge (smaller_of lo lo') lo' lo (smaller-nan-left lo lo')
            (λ n. extreme-right ge lo lo' (smaller_of lo lo') (le_refl lo' p) (smaller-extreme lo lo' n p))) h.0,
        upper (larger_of hi hi') hi' c.1 b.1
            (by-nan le (larger_of hi hi') hi' hi (larger-nan-left hi hi')
            (λ n. extreme-right le hi hi' (larger_of hi hi') (le_refl hi' q) (larger-extreme hi hi' n q))) h.1,
      )
