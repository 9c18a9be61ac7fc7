-- The laws of `NormalOf`: it depends on the pairs only as a set of pairs, and pairs may be normalised in parts.
use mathlib.Core.Path.{◌≡◌, refl, sym, ◌∙◌, ap, ap₂, subst}
use mathlib.Core.Logic.{◌⊎◌, inl, inr}
use mathlib.Core.Bool.{Bool, true, false, ◌||◌, or_comm, true≢false, false≢true}
use mathlib.Core.List.Memᴰ
use mathlib.Core.List.{List, [], ◌∷◌, ◌++◌, append_assoc, append-nil, Memᴰ}
use Prim.Native.Nat.{◌%◌, ◌≤◌}
use native.Mathlib.Omega.{arith}
use lib.ListN.{length}
use lib.Ieee.{Float, lt, eq}
use Rattle.spans.specs.Spans.{All, within, holds, rising, sound, equal, retained, ListOf, NormalOf, pair_if}
use Rattle.logic.proofs.Bools.{and_left, and_right, by_cases, clash}
use Rattle.doubles.proofs.Order.{lt_irrefl, lt-eq-right}
use Rattle.spans.proofs.Ends.{Over, Above, not-not, odd_n, all_map, rising-above, rising-tail}
use Rattle.spans.proofs.Sets.{odd_n-mod, same_set, sound-rising, sound-even, sound-mod}
use Rattle.spans.proofs.Points.{or-false, retained-holds, holds-append}

-- ---- each end of a list is in it, and what holds of each end holds of one that is in it
pub all_in : (l : List Float) → All (λ e. Memᴰ e l) l
all_in [] = tt
all_in (x ∷ l) = (Memᴰ.head refl, all_map (λ e. Memᴰ e l) (λ e. Memᴰ e (x ∷ l)) (λ e h. Memᴰ.tail h) l (all_in l))

pub all_of : (P : Float → Type 0) (l : List Float) → All P l → (e : Float) → Memᴰ e l → P e
all_of P [] h e x'' = elim x'' [ ]
all_of P (x ∷ l) h e (Memᴰ.head q) = subst P (sym q) h.0
all_of P (x ∷ l) h e (Memᴰ.tail m) = all_of P l h.1 e m

-- ---- the pairs that are not dropped
pub retained-cons : (lo hi : Float) (l : List Float) → retained (lo ∷ hi ∷ l) ≡ pair_if lo hi ++ retained l
unfolding retained
retained-cons lo hi l = elim (by_cases (lt lo hi)) [ inl t ↦ rw t refl | inr t ↦ rw t refl ]

pub retained-append : (a b : List Float) → length a % 2 ≡ 0 → retained (a ++ b) ≡ retained a ++ retained b
unfolding retained
retained-append [] b e = refl
retained-append (x ∷ []) b e = absurd (omega arith)
retained-append (x ∷ y ∷ a) b e =
    retained-cons x y (a ++ b) ∙ ap (◌++◌ (pair_if x y)) (retained-append a b (omega arith))
    ∙ sym (append_assoc (pair_if x y) (retained a) (retained b))
    ∙ ap (λ (l : List Float). l ++ retained b) (sym (retained-cons x y a))

retained-twice : (l : List Float) → retained (retained l) ≡ retained l
unfolding retained
retained-twice [] = refl
retained-twice (x ∷ []) = refl
retained-twice (x ∷ y ∷ l) = elim (by_cases (lt x y)) [
  | inl t ↦ rw (t, t) (ap (λ (m : List Float). x ∷ y ∷ m) (retained-twice l))
  | inr t ↦ rw t (retained-twice l)
]

-- no pair of a sound list is dropped
retained-rising : (l : List Float) → rising l ≡ true → odd_n (length l) ≡ false → retained l ≡ l
unfolding retained
retained-rising [] r e = refl
retained-rising (x ∷ []) r e = absurd (true≢false e)
retained-rising (x ∷ y ∷ l) r e =
    rw (rising-above x (y ∷ l) r).0
    (ap (λ (m : List Float). x ∷ y ∷ m)
    (retained-rising l (rising-tail y l (rising-tail x (y ∷ l) r)) (sym (not-not (odd_n (length l))) ∙ e)))

pub retained-sound : (l : List Float) → sound l ≡ true → retained l ≡ l
retained-sound l s = retained-rising l (sound-rising l s) (sound-even l s)

pub retained-even : (l : List Float) → length (retained l) % 2 ≡ 0
unfolding retained
retained-even [] = refl
retained-even (x ∷ []) = refl
retained-even (x ∷ y ∷ l) = elim (by_cases (lt x y)) [
  | inl t ↦ rw t (omega (arith, retained-even l))
  | inr t ↦ rw t (retained-even l)
]

pub retained-most : (l : List Float) → length (retained l) ≤ length l
unfolding retained
retained-most [] = omega arith
retained-most (x ∷ []) = omega arith
retained-most (x ∷ y ∷ l) = elim (by_cases (lt x y)) [
  | inl t ↦ rw t (omega (arith, retained-most l))
  | inr t ↦ rw t (omega (arith, retained-most l))
]

-- ---- other pairs with the same points, among which each end is found again
pub normal-same : (a b l : List Float) → ((p : Float) → holds a p ≡ holds b p)
    → ((e : Float) → Memᴰ e (retained a) → Memᴰ e (retained b)) → NormalOf a l → NormalOf b l
normal-same a b l points ends n = record {
  list = record { is_sound = n.list.is_sound; points = λ p. n.list.points p ∙ points p };
  drawn = all_map (λ e. Memᴰ e (retained a)) (λ e. Memᴰ e (retained b)) ends l n.drawn;
}

-- pairs and further ones
module _ (a b : List Float) (even : length a % 2 ≡ 0) where
  holds-both : (p : Float) → holds (a ++ b) p ≡ (holds a p || holds b p)
  holds-both p = holds-append a b p (odd_n-mod (length a) even)

  end-left : (e : Float) → Memᴰ e (retained a) → Memᴰ e (retained (a ++ b))
  end-left e h = rw (retained-append a b even) (Memᴰ.append_left (retained b) h)

  end-right : (e : Float) → Memᴰ e (retained b) → Memᴰ e (retained (a ++ b))
  end-right e h = rw (retained-append a b even) (Memᴰ.append_right (retained a) h)

  end-cases : (e : Float) → Memᴰ e (retained (a ++ b)) → Memᴰ e (retained a) ⊎ Memᴰ e (retained b)
  end-cases e h = Memᴰ.append_cases (retained a) (rw (retained-append a b even) at h)

pub normal-swap : (a b l : List Float) → length a % 2 ≡ 0 → length b % 2 ≡ 0 → NormalOf (a ++ b) l → NormalOf (b ++ a) l
normal-swap a b l ea eb = normal-same (a ++ b) (b ++ a) l
    (λ p. holds-both a b ea p ∙ or_comm (holds a p) (holds b p) ∙ sym (holds-both b a eb p))
    (λ e h. elim (end-cases a b ea e h) [ inl m ↦ end-right b a eb e m | inr m ↦ end-left b a eb e m ])

-- pairs that are dropped may be left out before
pub normal-retained : (a b l : List Float) → length a % 2 ≡ 0 → NormalOf (a ++ retained b) l → NormalOf (a ++ b) l
normal-retained a b l even = normal-same (a ++ retained b) (a ++ b) l
    (λ p. holds-both a (retained b) even p ∙ ap (◌||◌ (holds a p)) (retained-holds b p) ∙ sym (holds-both a b even p))
    (λ e h. elim (end-cases a (retained b) even e h) [
      | inl m ↦ end-left a b even e m
      | inr m ↦ end-right a b even e (rw (retained-twice b) at m)
    ])

-- pairs normalised with the list of those in front of them
pub normal-then : (a b l m : List Float) → length a % 2 ≡ 0 → NormalOf a l → NormalOf (l ++ b) m → NormalOf (a ++ b) m
normal-then a b l m even n = normal-same (l ++ b) (a ++ b) m
    (λ p. holds-both l b whole p ∙ ap (λ (x : Bool). x || holds b p) (n.list.points p) ∙ sym (holds-both a b even p))
    (λ e h. elim (end-cases l b whole e h) [
      | inl k ↦ end-left a b even e (all_of (λ e. Memᴰ e (retained a)) l n.drawn e (rw (retained-sound l n.list.is_sound) at k))
      | inr k ↦ end-right a b even e k
    ])
  where
    whole : length l % 2 ≡ 0
    whole = sound-mod l n.list.is_sound

-- no pairs
pub normal-none : NormalOf [] []
unfolding sound rising holds
normal-none = record { list = record { is_sound = refl; points = λ p. refl }; drawn = tt }

-- a sound list and one pair more: each end is one of the list's, or one of the pair's where it is not dropped
pub normal-pair : (l m : List Float) (lo hi : Float) → sound l ≡ true → ListOf (λ p. holds l p || within lo hi p) m
    → All (λ e. Memᴰ e (l ++ pair_if lo hi)) m → NormalOf (l ++ (lo ∷ hi ∷ [])) m
unfolding holds retained
normal-pair l m lo hi s is d = record {
  list = record {
    is_sound = is.is_sound;
    points = λ p. is.points p ∙ sym (holds-both l (lo ∷ hi ∷ []) (sound-mod l s) p ∙ ap (◌||◌ (holds l p)) (or-false (within lo hi p)));
  };
  drawn = rw kept d;
}
  where
    kept : retained (l ++ (lo ∷ hi ∷ [])) ≡ l ++ pair_if lo hi
    kept = retained-append l (lo ∷ hi ∷ []) (sound-mod l s)
        ∙ ap₂ ◌++◌ (retained-sound l s) (retained-cons lo hi [] ∙ append-nil (pair_if lo hi))

-- ---- a sound list is normalised to itself
-- an end above x of a list that starts with x stands past it
past_first : (x : Float) (s l : List Float) → Above x l → All (λ e. Memᴰ e (x ∷ s)) l → All (λ e. Memᴰ e s) l
past_first x s [] up d = tt
past_first x s (e ∷ l) up d = (go d.0, past_first x s l up.1 d.1)
  where
    go : Memᴰ e (x ∷ s) → Memᴰ e s
    go (Memᴰ.head q) = absurd (clash (lt x x) (subst (Over x) q up.0) (lt_irrefl x))
    go (Memᴰ.tail m) = m

-- rising lists that are equal as numbers are one list where each end of the one is an end of the other
rising-same : (s l : List Float) → rising s ≡ true → rising l ≡ true → equal l s ≡ true → All (λ e. Memᴰ e s) l → l ≡ s
unfolding equal
rising-same [] [] rs rl h d = refl
rising-same [] (e ∷ l) rs rl h d = absurd (false≢true h)
rising-same (x ∷ s) [] rs rl h d = absurd (false≢true h)
rising-same (x ∷ s) (e ∷ l) rs rl h d =
    let first : e ≡ x = go d.0 in
    ap₂ ◌∷◌ first (rising-same s l (rising-tail x s rs) (rising-tail e l rl) (and_right (eq e x) (equal l s) h)
    (past_first x s l (subst (λ (z : Float). Above z l) first (rising-above e l rl)) d.1))
  where
    go : Memᴰ e (x ∷ s) → e ≡ x
    go (Memᴰ.head q) = q
    go (Memᴰ.tail m) = absurd (clash (lt x x)
        (sym (lt-eq-right e x x (and_left (eq e x) (equal l s) h)) ∙ all_of (Over x) s (rising-above x s rs) e m) (lt_irrefl x))

pub normal-self : (s l : List Float) → sound s ≡ true → NormalOf s l → l ≡ s
normal-self s l ss n =
    rising-same s l (sound-rising s ss) (sound-rising l n.list.is_sound) (same_set l s n.list.is_sound ss (λ p k. n.list.points p))
    (rw (retained-sound s ss) at n.drawn)
