-- Hits taken from a list stretch by stretch of numbers.
use Rattle.std.specs.Prelude.{◌≡◌, Bool, true, not, ◌&&◌, List, ℕ, length, Float}
use Rattle.std.specs.Float.Ieee.{lt, le}
use Rattle.spans.specs.Spans.{holds, sound}
use Rattle.store_read.specs.Reading.{Readable}
use Rattle.log_keys.specs.Keys.{Stretch}
use Rattle.log_left.specs.ListLeft.{ListWalked}
use Rattle.log_left.specs.declared.Rest.{Rest}

-- of the points f those that `must` be are taken from the list l, and perhaps others, but none that is not of f; no hit began past `last`
pub record Gone (n : ℕ) (spans : List Float) (links : List ℕ) (l : List Float) (f must : Float → Bool) (last : Float)
    (r : Rest) : Type 0 where
  pub gone : Float → Bool
  pub walked : ListWalked n spans links l (λ p. holds l p && not (gone p)) last r
  pub only : (p : Float) → gone p ≡ true → f p ≡ true
  pub all : (p : Float) → must p ≡ true → f p ≡ true → gone p ≡ true

-- those below b must be
abbrev pub Taken : (n : ℕ) (spans : List Float) (links : List ℕ) (l : List Float) (f : Float → Bool) (b : Float) (r : Rest) → Type 0
Taken n spans links l f b r = Gone n spans links l f (λ p. lt p b) b r

-- a stretch is taken
pub record TakeHeldPost (n : ℕ) (spans : List Float) (links : List ℕ) (b end front : Float) (held : List Float) (r t : Rest) : Type 0 where
  pub readable : Readable n spans links t.at
  pub taken : (l : List Float) (f : Float → Bool) → sound held ≡ true → ((x : Float) → holds held x ≡ true → lt b x ≡ true)
      → le b end ≡ true → Stretch b end front held f → Taken n spans links l f b r → Taken n spans links l f end t

-- the hits are taken
pub record TakeHitsPost (n : ℕ) (spans : List Float) (links : List ℕ) (b u front : Float) (hits before after : List Float) (r t : Rest)
    : Type 0 where
  pub size : length after ≡ length before
  pub readable : Readable n spans links t.at
  pub taken : (l : List Float) (f : Float → Bool) → le b u ≡ true → Stretch b u front hits f → Taken n spans links l f b r
      → Taken n spans links l f u t
