-- Fewer cells in use: the pairs joined, or of the joined pairs only the lower half. Then the stretch ends where the lowest pair that is
-- dropped begins, if not before.
use mathlib.Core.Path.{◌≡◌, sym, ◌∙◌, ap}
use mathlib.Core.Logic.{◌⊎◌, inl, inr}
use mathlib.Core.Bool.{true}
use mathlib.Core.List.{List}
use Prim.Native.Nat.{ℕ, ◌+◌, ◌*◌, ◌/◌, ◌%◌, ◌≤◌, ◌<◌}
use native.Mathlib.Omega.{arith}
use lib.ListN.{length, get_or, take}
use lib.Seq.{length-take-le, get_or-take, take-take}
use lib.Ieee.{Float, nan, lt, le}
use Rattle.spans.specs.Spans.{holds, NormalOf}
use Rattle.spans.specs.Steps.{FilledFront}
use Rattle.spans.proofs.Sets.{sound-mod}
use Rattle.spans.proofs.Points.{front-only, front-in, in_pair, pair-rises, number_at}
use Rattle.doubles.specs.Doubles.{Number}
use Rattle.logic.proofs.Bools.{and_left, and_right, both, by_cases}
use Rattle.doubles.proofs.Order.{lt-number, le_refl, lt_trans, lt-le-trans, not-lt→le}
use Rattle.spans.specs.Overlay.{lower_of}
use Rattle.log_keys.specs.Keys.{pairs_past}
use Rattle.log_gather.specs.declared.HeldHits.{HeldHits}
use Rattle.log_gather.specs.Gathering.{Shaped, WholePairs, Gathers, MakeRoomPost}

module _ (b u f : Float) (hits before after : List Float) (h : HeldHits) (m : ℕ) (n : NormalOf (take h.count before) (take m after))
    (g : Gathers b u f hits before h) where
  joined : WholePairs after m → Gathers b u f hits after (record { count = m; end = h.end; front = h.front })
  joined r = record {
    roomy = r;
    higher = g.higher;
    fronts = g.fronts;
    past = λ x k. g.past x (sym (n.list.points x) ∙ k);
    all = λ x w k. elim (g.all x w k) [
      | inl l ↦ inl l
      | inr l ↦ inr (n.list.points x ∙ l)
    ];
    ends = g.ends;
  }

  module _ (half : ℕ) (fit : m ≤ length after) (e : half % 2 ≡ 0) (less : half + 2 ≤ m) where
    size : length (take m after) ≡ m
    size = length-take-le m after fit

    -- the lo of the first pair that is dropped
    middle : get_or (take m after) half nan ≡ get_or after half nan
    middle = get_or-take m after half nan (omega arith)

    lower-half : take half (take m after) ≡ take half after
    lower-half = take-take half m after (omega arith)

    number : Number (get_or after half nan)
    number = rw middle at (number_at (take m after) half n.list.is_sound (omega (arith, size)))

    held : holds (take m after) (get_or after half nan) ≡ true
    held = in_pair (take m after) half (get_or after half nan) n.list.is_sound e (omega (arith, size))
        (rw middle (le_refl (get_or after half nan) number))
        (rw middle at (pair-rises (take m after) half n.list.is_sound (omega (arith, size))))

    below : (x : Float) → lt x (get_or after half nan) ≡ true → holds (take m after) x ≡ holds (take half after) x
    below x k = front-only (take m after) half x (omega (arith, size)) n.list.is_sound e (λ _. rw middle k)
        ∙ ap (λ (l : List Float). holds l x) lower-half

    ends_at : (z : Float) → ((x : Float) → lt x z ≡ true → (lt x h.end ≡ true) × (lt x (get_or after half nan) ≡ true))
        → (z ≡ u) ⊎ ((lt z u ≡ true) × (holds (pairs_past b hits) z ≡ true))
        → Gathers b u f hits after (record { count = half; end = z; front = h.front })
    ends_at z low ends = record {
      roomy = record { room = omega arith; whole = e };
      higher = g.higher;
      fronts = g.fronts;
      past = λ x k.
          g.past x
          (sym (n.list.points x) ∙ front-in (take m after) half x (omega (arith, size)) n.list.is_sound e (rw lower-half k));
      all = λ x w k.
          let (under, left) = low x (and_right (le b x) (lt x z) w) in
          elim (g.all x (both (le b x) (lt x h.end) (and_left (le b x) (lt x z) w) under) k) [
            | inl l ↦ inl l
            | inr l ↦ inr (sym (below x left) ∙ n.list.points x ∙ l)
          ];
      ends = ends;
    }

    halved : Gathers b u f hits after (record { count = half; end = lower_of h.end (get_or after half nan); front = h.front })
    halved = elim (by_cases (lt (get_or after half nan) h.end)) [
      | inl t ↦ rw t (ends_at (get_or after half nan) (λ x k. (lt_trans x (get_or after half nan) h.end k t, k))
          (inr (earlier t, g.past (get_or after half nan) (sym (n.list.points (get_or after half nan)) ∙ held))))
      | inr t ↦ rw t (ends_at h.end
          (λ x k. (
            k,
            lt-le-trans x h.end (get_or after half nan) k
                (not-lt→le (get_or after half nan) h.end number (lt-number x h.end k).1 t),
          )) g.ends)
    ]
      where
        earlier : lt (get_or after half nan) h.end ≡ true → lt (get_or after half nan) u ≡ true
        earlier t = elim g.ends [
          | inl s ↦ rw s at t
          | inr s ↦ lt_trans (get_or after half nan) h.end u t s.0
        ]

-- what that leaves of a buffer of quarters: three of them at most where the pairs are only joined
module _ (before after : List Float) (h : HeldHits) (m : ℕ) (shaped : Shaped before) (roomy : WholePairs before h.count)
    (filled : FilledFront (NormalOf (take h.count before)) before h.count after m) where
  abbrev half : ℕ
  half = length before / 4 * 2

  whole : m % 2 ≡ 0
  whole =
      let size = length-take-le m after (omega (arith, filled.most, filled.size, roomy.room)) in
      rw size at (sound-mod (take m after) filled.list.list.is_sound)

  pub loosens-joined : m ≤ half + half / 2 → MakeRoomPost before h after (record { count = m; end = h.end; front = h.front })
  loosens-joined few = record {
    size = filled.size;
    room = omega (arith, filled.size, shaped.quarters, shaped.least, whole);
    whole = whole;
    gathers = λ b u f hits g.
        joined b u f hits before after h m filled.list g
        (record { room = omega (arith, filled.most, filled.size, roomy.room); whole = whole });
  }

  pub loosens-halved : (z : Float) → half + half / 2 < m → z ≡ lower_of h.end (get_or after half nan)
      → MakeRoomPost before h after (record { count = half; end = z; front = h.front })
  loosens-halved z many low = record {
    size = filled.size;
    room = omega (arith, filled.size, shaped.quarters, shaped.least);
    whole = omega arith;
    gathers = λ b u f hits g. rw low
        (halved b u f hits before after h m filled.list g half (omega (arith, filled.most, filled.size, roomy.room)) (omega arith)
        (omega (arith, shaped.quarters, shaped.least, whole)));
  }
