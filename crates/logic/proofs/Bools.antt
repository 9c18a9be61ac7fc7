-- Laws of Bool that several crates use: what a test made of tests says of each.
use mathlib.Core.Path.{◌≡◌, refl, sym, ◌∙◌, subst}
use mathlib.Core.Logic.{◌⊎◌, inl, inr}
use mathlib.Core.Bool.{Bool, true, false, not, ◌&&◌, ◌||◌, true≢false, false≢true}
use lib.Dec.{T}

pub or_cases : (a b : Bool) → (a || b) ≡ true → (a ≡ true) ⊎ (b ≡ true)
or_cases true b h = inl refl
or_cases false b h = inr h

pub or_left : (a b : Bool) → a ≡ true → (a || b) ≡ true
or_left true b h = refl
or_left false b h = absurd (false≢true h)

pub or_right : (a b : Bool) → b ≡ true → (a || b) ≡ true
or_right true b h = refl
or_right false b h = h

pub or-neither : (a b : Bool) → (a || b) ≡ false → (a ≡ false) × (b ≡ false)
or-neither true b h = absurd (true≢false h)
or-neither false b h = (refl, h)

pub and_left : (a b : Bool) → (a && b) ≡ true → a ≡ true
and_left true b h = refl
and_left false b h = absurd (false≢true h)

pub and_right : (a b : Bool) → (a && b) ≡ true → b ≡ true
and_right true b h = h
and_right false b h = absurd (false≢true h)

pub and_cases : (a b : Bool) → (a && b) ≡ false → (a ≡ false) ⊎ (b ≡ false)
and_cases true b h = inr h
and_cases false b h = inl refl

pub both : (a b : Bool) → a ≡ true → b ≡ true → (a && b) ≡ true
both true b h k = k
both false b h k = absurd (false≢true h)

pub and-true : (a : Bool) → (a && true) ≡ a
and-true true = refl
and-true false = refl

pub and-false : (a b : Bool) → b ≡ false → (a && b) ≡ false
and-false true b h = h
and-false false b h = refl

-- less b, then less c
pub and-not-or : (a b c : Bool) → ((a && not b) && not c) ≡ (a && not (b || c))
and-not-or true true c = refl
and-not-or true false c = refl
and-not-or false b c = refl

pub not-true : (a : Bool) → not a ≡ true → a ≡ false
not-true true h = absurd (false≢true h)
not-true false h = refl

pub not-false : (a : Bool) → not a ≡ false → a ≡ true
not-false true h = refl
not-false false h = absurd (true≢false h)

-- a test x that r tells, where a branch found r false, or true
pub found-not : (r x : Bool) → r ≡ x → not r ≡ true → x ≡ false
found-not r x e h = sym e ∙ not-true r h

pub found : (r x : Bool) → r ≡ x → not r ≡ false → x ≡ true
found r x e h = sym e ∙ not-false r h

pub clash : (a : Bool) → a ≡ true → a ≡ false → ⊥
clash a h k = true≢false (sym h ∙ k)

pub by_cases : (a : Bool) → (a ≡ true) ⊎ (a ≡ false)
by_cases true = inl refl
by_cases false = inr refl

-- a test that passed, as a proposition
pub of-true : {a : Bool} → a ≡ true → T a
of-true h = subst T (sym h) tt

pub of-false : {a : Bool} → a ≡ false → T (not a)
of-false h = subst (λ (b : Bool). T (not b)) (sym h) tt

-- two tests that imply each other are one
pub same_if : (a b : Bool) → (a ≡ true → b ≡ true) → (b ≡ true → a ≡ true) → a ≡ b
same_if true b f g = sym (f refl)
same_if false true f g = g refl
same_if false false f g = refl
