-- The hits are taken stretch by stretch: what is gathered for a stretch is what its taking asks for, and the next one
-- begins where it ends.
use mathlib.Core.Path.{◌≡◌, refl, sym, subst, ◌∙◌}
use mathlib.Core.Logic.{◌⊎◌, inl, inr}
use mathlib.Core.Bool.{Bool, true, false}
use mathlib.Core.List.{List}
use Prim.Native.Nat.{ℕ, ◌≤◌, ◌<◌}
use native.Mathlib.Omega.{arith}
use lib.ListN.{length, take}
use lib.Seq.{length-take-le}
use lib.Ieee.{Float, lt, le}
use Rattle.logic.proofs.Bools.{and_left, and_right, both, clash}
use Rattle.doubles.proofs.Order.{le_refl, le_trans, lt→le, lt-le-trans, le-number, lt_irrefl}
use Rattle.spans.specs.Spans.{within, holds, NormalOf}
use Rattle.spans.specs.Steps.{FilledFront}
use Rattle.spans.proofs.Sets.{sound-mod}
use Rattle.store_read.specs.Reading.{Readable}
use Rattle.log_keys.specs.Keys.{Stretch, pairs_past}
use Rattle.log_keys.proofs.Past.{past-holds, past-above, past-falls}
use Rattle.log_gather.specs.Gathering.{WholePairs, Gathers, GatherPost}
use Rattle.log_gather.specs.declared.HeldHits.{HeldHits}
use Rattle.log_left.specs.declared.Rest.{Rest}
use Rattle.log_stretches.specs.Stretches.{Taken, TakeHeldPost, TakeHitsPost}

-- the hits below `low` are taken, and from there on the same pairs and the same front tell what is left to take
pub record TakenBelow (n : ℕ) (spans : List Float) (links : List ℕ) (u front : Float) (hits l : List Float) (f : Float → Bool)
    (low : Float) (t : Rest) : Type 0 where
  pub up : le low u ≡ true
  pub stretch : Stretch low u front hits f
  pub taken : Taken n spans links l f low t

-- the loop over the stretches
pub record StretchLoop (n : ℕ) (spans : List Float) (links : List ℕ) (b u front : Float) (hits before : List Float) (r : Rest)
    (cells : List Float) (low : Float) (t : Rest) : Type 0 where
  pub size : length cells ≡ length before
  pub readable : Readable n spans links t.at
  pub reached : (l : List Float) (f : Float → Bool) → le b u ≡ true → Stretch b u front hits f → Taken n spans links l f b r
      → TakenBelow n spans links u front hits l f low t

-- ---- what is gathered for a stretch
module _ {low u front : Float} {hits cells : List Float} {h : HeldHits} (g : Gathers low u front hits cells h) where
  ends_above : le low u ≡ true → le low h.end ≡ true
  ends_above up = elim g.ends [
    | inl e ↦ subst (λ (x : Float). le low x ≡ true) (sym e) up
    | inr (a, k) ↦ lt→le low h.end (past-above low hits h.end k)
  ]

  ends-below : le low u ≡ true → le h.end u ≡ true
  ends-below up = elim g.ends [
    | inl e ↦ subst (λ (x : Float). le x u ≡ true) (sym e) (le_refl u (le-number low u up).1)
    | inr (a, k) ↦ lt→le h.end u a
  ]

  last-ends : lt h.end u ≡ false → h.end ≡ u
  last-ends last = elim g.ends [
    | inl e ↦ e
    | inr (a, k) ↦ absurd (clash (lt h.end u) a last)
  ]

  -- a stretch that is not the last leaves fewer pairs that begin past it
  pub pairs-fall : lt h.end u ≡ true → length (pairs_past h.end hits) < length (pairs_past low hits)
  pairs-fall more = elim g.ends [
    | inl e ↦ absurd (clash (lt h.end u) more (subst (λ (x : Float). lt x u ≡ false) (sym e) (lt_irrefl u)))
    | inr (a, k) ↦ past-falls low h.end (lt→le low h.end (past-above low hits h.end k)) hits k
  ]

  module _ {f : Float → Bool} (up : le low u ≡ true) (s : Stretch low u front hits f) where
    fronts-only : (x : Float) → within low h.front x ≡ true → f x ≡ true
    fronts-only x w = elim (g.fronts x w) [
      | inl a ↦ s.only_front x (both (le low x) (lt x front) (and_left (le low x) (lt x h.front) w) a)
      | inr a ↦ s.only_pairs x a
    ]

    -- the points between low and u
    fronts-all : (x : Float) → within low u x ≡ true → f x ≡ true → (lt x h.front ≡ true) ⊎ (holds hits x ≡ true)
    fronts-all x w m = elim (s.all x w m) [
      | inl a ↦ inl (g.higher x a)
      | inr a ↦ inr a
    ]

    -- the stretch that is taken
    stretch-here : (held : List Float) → NormalOf (take h.count cells) held → Stretch low h.end h.front held f
    stretch-here held k = record {
      only_front = fronts-only;
      only_pairs = λ x a. s.only_pairs x (past-holds low hits x (g.past x (sym (k.list.points x) ∙ a)));
      all = λ x w m.
          let from = and_left (le low x) (lt x h.end) w in
          let below = lt-le-trans x h.end u (and_right (le low x) (lt x h.end) w) (ends-below up) in
          elim (fronts-all x (both (le low x) (lt x u) from below) m) [
            | inl a ↦ inl a
            | inr a ↦ elim (g.all x w a) [
              | inl b ↦ inl b
              | inr b ↦ inr (k.list.points x ∙ b)
            ]
          ];
    }

    -- the next one
    stretch-next : Stretch h.end u front hits f
    stretch-next = record {
      only_front = λ x w. s.only_front x (both (le low x) (lt x front) (from x (and_left (le h.end x) (lt x front) w))
          (and_right (le h.end x) (lt x front) w));
      only_pairs = s.only_pairs;
      all = λ x w. s.all x (both (le low x) (lt x u) (from x (and_left (le h.end x) (lt x u) w))
          (and_right (le h.end x) (lt x u) w));
    }
      where
        from : (x : Float) → le h.end x ≡ true → le low x ≡ true
        from x a = le_trans low h.end x (ends_above up) a

-- the sound list that is made of it
pub roomy-front : {cells after : List Float} {k m : ℕ} → WholePairs cells k
    → FilledFront (NormalOf (take k cells)) cells k after m → WholePairs after m
roomy-front {after = after} {m = m} r w = record {
  room = fit;
  whole = omega (arith, length-take-le m after fit, sound-mod (take m after) w.list.list.is_sound);
}
  where
    fit : m ≤ length after
    fit = omega (arith, w.most, w.size, r.room)

-- ---- THE LAWS of the loop
module _ {n : ℕ} {spans : List Float} {links : List ℕ} {b u front : Float} {hits before : List Float} {r : Rest} where
  pub reaches-start : Readable n spans links r.at → StretchLoop n spans links b u front hits before r before b r
  reaches-start k = record { size = refl; readable = k; reached = λ l f up s taken. record { up = up; stretch = s; taken = taken } }

  pub reaches-on : {now cells after : List Float} {low : Float} {h : HeldHits} {m : ℕ} {t t' : Rest}
      → StretchLoop n spans links b u front hits before r now low t → GatherPost low u front hits now cells h
      → FilledFront (NormalOf (take h.count cells)) cells h.count after m
      → TakeHeldPost n spans links low h.end h.front (take m after) t t'
      → StretchLoop n spans links b u front hits before r after h.end t'
  reaches-on {after = after} {low = low} {m = m} at g w takes = record {
    size = w.size ∙ g.size ∙ at.size;
    readable = takes.readable;
    reached = λ l f up s taken.
        let a = at.reached l f up s taken in
        let k = g.gathers in
        record {
          up = ends-below k a.up;
          stretch = stretch-next k a.up a.stretch;
          taken = takes.taken l f w.list.list.is_sound (λ x i. past-above low hits x (k.past x (sym (w.list.list.points x) ∙ i)))
              (ends_above k a.up) (stretch-here k a.up a.stretch (take m after) w.list) a.taken;
        };
  }

  pub reaches_end : {cells after : List Float} {low : Float} {h : HeldHits} {t : Rest}
      → StretchLoop n spans links b u front hits before r after h.end t → Gathers low u front hits cells h → lt h.end u ≡ false
      → TakeHitsPost n spans links b u front hits before after r t
  reaches_end {t = t} at g last = record {
    size = at.size;
    readable = at.readable;
    taken = λ l f up s taken. subst (λ (x : Float). Taken n spans links l f x t) (last-ends g last) (at.reached l f up s taken).taken;
  }
