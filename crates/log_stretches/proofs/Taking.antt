-- A stretch is taken: first what reaches into it, then its pairs one by one. What is taken so far are points of f, and a test that grows
-- with each hit tells which of them have to be taken by then.
use mathlib.Core.Path.{◌≡◌, refl, sym, ◌∙◌}
use mathlib.Core.Logic.{inl, inr}
use mathlib.Core.Bool.{Bool, true, false, ◌||◌}
use mathlib.Core.List.{List}
use Prim.Native.Nat.{ℕ, ◌+◌, ◌%◌, ◌≤◌, ◌<◌}
use native.Mathlib.Omega.{arith}
use lib.ListN.{length, get_or, take}
use lib.Seq.{get_or-take, length-take-le}
use lib.Ieee.{Float, nan, lt, le}
use Rattle.logic.proofs.Bools.{or_cases, or_left, or_right, and_left, and_right, both, by_cases, clash, and-not-or}
use Rattle.doubles.proofs.Order.{le_refl, lt→le, lt-le-trans, le-number, lt-number, not-lt→le}
use Rattle.spans.specs.Spans.{within, holds, sound}
use Rattle.spans.proofs.Ends.{rising-at}
use Rattle.spans.proofs.Sets.{sound-rising, sound-mod}
use Rattle.spans.proofs.Points.{or-false, empty-pair, holds_more, front-only, in_pair, pair-rises, number_at}
use Rattle.store_read.specs.Reading.{Readable}
use Rattle.log_keys.specs.Keys.{Stretch}
use Rattle.log_gather.specs.Gathering.{WholePairs}
use Rattle.log_left.specs.Steps.{TakePost}
use Rattle.log_left.specs.declared.Rest.{Rest}
use Rattle.log_left.proofs.Walking.{walked_same, walked-later}
use Rattle.log_stretches.specs.Stretches.{Gone, Taken, TakeHeldPost}

-- what take_held is asked for, of the points f
pub record TakeHeldPre (b end front : Float) (held : List Float) (f : Float → Bool) : Type 0 where
  pub is_sound : sound held ≡ true
  pub above : (x : Float) → holds held x ≡ true → lt b x ≡ true
  pub up : le b end ≡ true
  pub stretch : Stretch b end front held f

-- below b, reaching into the stretch, or in one of its pairs
abbrev pub passed : (b front : Float) → List Float → Float → Bool
passed b front part p = lt p b || (within b front p || holds part p)

-- the first i ends of the stretch are taken
pub record Partly (n : ℕ) (spans : List Float) (links : List ℕ) (b end front : Float) (held l : List Float) (f : Float → Bool)
    (i : ℕ) (t : Rest) : Type 0 where
  pub last : Float
  pub taken : Gone n spans links l f (passed b front (take i held)) last t
  pub within_end : le last end ≡ true
  pub next : i < length held → le last (get_or held i nan) ≡ true

-- what reaches into the stretch is taken
pub record TakesFront (n : ℕ) (spans : List Float) (links : List ℕ) (b end front : Float) (held : List Float) (r t : Rest) : Type 0 where
  pub readable : Readable n spans links t.at
  pub first : (l : List Float) (f : Float → Bool) → TakeHeldPre b end front held f → Taken n spans links l f b r
      → Partly n spans links b end front held l f 0 t

-- the loop over the pairs of the stretch
pub record TakesSome (n : ℕ) (spans : List Float) (links : List ℕ) (b end front : Float) (held : List Float)
    (r : Rest) (i : ℕ) (t : Rest) : Type 0 where
  pub readable : Readable n spans links t.at
  pub whole : i % 2 ≡ 0
  pub most : i ≤ length held
  pub some : (l : List Float) (f : Float → Bool) → TakeHeldPre b end front held f → Partly n spans links b end front held l f 0 r
      → Partly n spans links b end front held l f i t

-- ---- what a stretch begins with
module _ {b end front : Float} {held : List Float} {f : Float → Bool} (due : TakeHeldPre b end front held f) where
  first_above : 0 < length held → le b (get_or held 0 nan) ≡ true
  first_above h =
      let s = due.is_sound in
      let two : 0 + 2 ≤ length held = omega (arith, h, sound-mod held s) in
      let lo = get_or held 0 nan in
      lt→le b lo (due.above lo (in_pair held 0 lo s (omega arith) two (le_refl lo (number_at held 0 s h)) (pair-rises held 0 s two)))

  starts : le b b ≡ true
  starts = le_refl b (le-number b end due.up).0

split : (a b x y : Bool) → (a || (b || (x || y))) ≡ true → ((a || (b || x)) || y) ≡ true
split true b x y h = refl
split false true x y h = refl
split false false x y h = h

module _ {n : ℕ} {spans : List Float} {links : List ℕ} where
  -- ---- one hit
  module _ {l : List Float} {f must : Float → Bool} where
    gone-take : (lo hi last : Float) (r t : Rest) → le last lo ≡ true → lt lo hi ≡ true
        → ((p : Float) → within lo hi p ≡ true → f p ≡ true)
        → TakePost n spans links lo hi r t → Gone n spans links l f must last r
        → Gone n spans links l f (λ p. must p || within lo hi p) lo t
    gone-take lo hi last r t later up mine k g = record {
      gone = λ p. g.gone p || within lo hi p;
      walked = walked_same (λ p. and-not-or (holds l p) (g.gone p) (within lo hi p)) (k.walked l _ last later up g.walked);
      only = λ p h. elim (or_cases (g.gone p) (within lo hi p) h) [
        | inl a ↦ g.only p a
        | inr a ↦ mine p a
      ];
      all = λ p h m. elim (or_cases (must p) (within lo hi p) h) [
        | inl a ↦ or_left (g.gone p) (within lo hi p) (g.all p a m)
        | inr a ↦ or_right (g.gone p) (within lo hi p) a
      ];
    }

    -- the same hits are gone past a later place, and wherever fewer points must be
    gone-weaker : (must' : Float → Bool) (last last' : Float) (r : Rest) → le last last' ≡ true
        → ((p : Float) → must' p ≡ true → f p ≡ true → must p ≡ true)
        → Gone n spans links l f must last r → Gone n spans links l f must' last' r
    gone-weaker must' last last' r later so g = record {
      gone = g.gone;
      walked = walked-later last last' later g.walked;
      only = g.only;
      all = λ p h m. g.all p (so p h m) m;
    }

  module _ (b end front : Float) (held : List Float) where
    -- ---- no pair is taken yet
    module _ {l : List Float} {f : Float → Bool} (due : TakeHeldPre b end front held f) where
      partly-start : (must : Float → Bool) (t : Rest) → ((p : Float) → (lt p b || within b front p) ≡ true → must p ≡ true)
          → Gone n spans links l f must b t → Partly n spans links b end front held l f 0 t
      unfolding holds
      partly-start must t so g = record {
        last = b;
        taken = gone-weaker (passed b front (take 0 held)) b b t (starts due) (λ p h m. so p (rw or-false at h)) g;
        within_end = due.up;
        next = first_above due;
      }

      start_none : (r : Rest) → lt b front ≡ false → Taken n spans links l f b r → Partly n spans links b end front held l f 0 r
      start_none r none k =
          partly-start (λ p. lt p b) r
          (λ p h. elim (or_cases (lt p b) (within b front p) h) [
            | inl a ↦ a
            | inr a ↦ absurd (clash (within b front p) a (empty-pair b front p none))
          ]) k

      start-front : (r t : Rest) → lt b front ≡ true → TakePost n spans links b front r t → Taken n spans links l f b r
          → Partly n spans links b end front held l f 0 t
      start-front r t up takes k =
          partly-start (λ p. lt p b || within b front p) t (λ p h. h)
          (gone-take b front b r t (starts due) up due.stretch.only_front takes k)

      -- ---- a pair more
      module _ (i : ℕ) (e : i % 2 ≡ 0) where
        partly_more : (t t' : Rest) → i + 2 ≤ length held → lt (get_or held i nan) end ≡ true
            → TakePost n spans links (get_or held i nan) (get_or held (i + 1) nan) t t'
            → Partly n spans links b end front held l f i t → Partly n spans links b end front held l f (i + 2) t'
        partly_more t t' fit below takes k = record {
          last = lo;
          taken = gone-weaker (passed b front (take (i + 2) held)) lo lo t' (le_refl lo (lt-number lo hi up).0) grown
              (gone-take lo hi k.last t t' (k.next (omega arith)) up
              (λ p h. due.stretch.only_pairs p
              (in_pair held i p due.is_sound e fit (and_left (le lo p) (lt p hi) h) (and_right (le lo p) (lt p hi) h)))
              takes k.taken);
          within_end = lt→le lo end below;
          next = λ h. lt→le lo (get_or held (i + 2) nan) (rising-at held i (i + 2) (sound-rising held due.is_sound) (omega arith) h);
        }
          where
            lo : Float
            lo = get_or held i nan

            hi : Float
            hi = get_or held (i + 1) nan

            up : lt lo hi ≡ true
            up = pair-rises held i due.is_sound fit

            grown : (p : Float) → passed b front (take (i + 2) held) p ≡ true → f p ≡ true
                → (passed b front (take i held) p || within lo hi p) ≡ true
            grown p h m = split (lt p b) (within b front p) (holds (take i held) p) (within lo hi p) (rw (holds_more held i p e fit) at h)

        -- ---- the rest begins past the end
        partly-all : (t : Rest) → i ≤ length held → (i < length held → lt (get_or held i nan) end ≡ false)
            → Partly n spans links b end front held l f i t → Taken n spans links l f end t
        partly-all t fit stop k = gone-weaker (λ p. lt p end) k.last end t k.within_end covered k.taken
          where
            in-front : (p : Float) → lt p end ≡ true → i < length held → lt p (get_or held i nan) ≡ true
            in-front p h j = lt-le-trans p end (get_or held i nan) h
                (not-lt→le (get_or held i nan) end (number_at held i due.is_sound j) (lt-number p end h).1 (stop j))

            covered : (p : Float) → lt p end ≡ true → f p ≡ true → passed b front (take i held) p ≡ true
            covered p h m = elim (by_cases (lt p b)) [
              | inl a ↦ or_left (lt p b) (within b front p || holds (take i held) p) a
              | inr a ↦
                  let from : le b p ≡ true = not-lt→le p b (lt-number p end h).0 (le-number b end due.up).0 a in
                  let inside = both (le b p) (lt p end) from h in
                  or_right (lt p b) (within b front p || holds (take i held) p) (elim (due.stretch.all p inside m) [
                    | inl w ↦ or_left (within b front p) (holds (take i held) p) (both (le b p) (lt p front) from w)
                    | inr w ↦ or_right (within b front p) (holds (take i held) p)
                        (sym (front-only held i p fit due.is_sound e (in-front p h)) ∙ w)
                  ])
            ]

  -- ---- THE LAWS of the loop
  module _ (b end front : Float) (held : List Float) (r : Rest) where
    pub none-reaches : lt b front ≡ false → Readable n spans links r.at → TakesFront n spans links b end front held r r
    none-reaches none k = record { readable = k; first = λ l f due taken. start_none b end front held due r none taken }

    pub some-reaches : (t : Rest) → lt b front ≡ true → TakePost n spans links b front r t → TakesFront n spans links b end front held r t
    some-reaches t up k = record { readable = k.readable; first = λ l f due taken. start-front b end front held due r t up k taken }

    pub no-pair : Readable n spans links r.at → TakesSome n spans links b end front held r 0 r
    no-pair k = record { readable = k; whole = omega arith; most = omega arith; some = λ l f due first. first }

  -- over the first m cells
  module _ (b end front : Float) (cells : List Float) (m : ℕ) (roomy : WholePairs cells m) (r : Rest) where
    pub pair-more : (i : ℕ) (t t' : Rest) → i < m → lt (get_or cells i nan) end ≡ true
        → TakePost n spans links (get_or cells i nan) (get_or cells (i + 1) nan) t t'
        → TakesSome n spans links b end front (take m cells) r i t → TakesSome n spans links b end front (take m cells) r (i + 2) t'
    pair-more i t t' h below takes k = record {
      readable = takes.readable;
      whole = omega (arith, k.whole);
      most = fit;
      some = λ l f due first. partly_more b end front (take m cells) due i k.whole t t' fit (rw (get_or-take m cells i nan h) below)
          (rw (get_or-take m cells i nan h, get_or-take m cells (i + 1) nan small) takes) (k.some l f due first);
    }
      where
        small : i + 1 < m
        small = omega (arith, h, k.whole, roomy.whole)

        fit : i + 2 ≤ length (take m cells)
        fit = omega (arith, h, k.whole, roomy.whole, length-take-le m cells roomy.room)

    pub no_more : (i : ℕ) (t₀ t : Rest) → (i < m → lt (get_or cells i nan) end ≡ false)
        → TakesFront n spans links b end front (take m cells) r t₀
        → TakesSome n spans links b end front (take m cells) t₀ i t → TakeHeldPost n spans links b end front (take m cells) r t
    no_more i t₀ t stop front-taken k = record {
      readable = k.readable;
      taken = λ l f s above up stretch taken.
          let due : TakeHeldPre b end front (take m cells) f = record { is_sound = s; above = above; up = up; stretch = stretch } in
          partly-all b end front (take m cells) due i k.whole t k.most
          (λ h.
          let small : i < m = omega (arith, h, length-take-le m cells roomy.room) in
          rw (get_or-take m cells i nan small) (stop small))
          (k.some l f due (front-taken.first l f due taken));
    }
