-- One turn and the end of each loop that reads a possible list, and why the first upper end above x tells of the last.
use Rattle.std.proofs.Common.{◌≡◌, ℕ, ◌-◌, Bool, true, false, ◌&&◌, ◌||◌, List, [], ◌∷◌, sym, refl, ap, ◌∙◌}
use lib.Ieee.{Float, lt}
use Rattle.logic.proofs.Bools.{and_left, and_right}
use Rattle.doubles.proofs.Order.{lt_trans}
use Rattle.doubles.specs.Doubles.{larger_of, smaller_of}
use Rattle.spans.specs.Spans.{rising, sound}
use Rattle.spans.proofs.Sets.{sound-rising}
use Rattle.store.specs.Store.{lo_at, hi_at, next_at, ends_at, list_from}
use Rattle.store_read.specs.Reading.{Readable}
use Rattle.store_read.proofs.Steps.{Step, link-step, no-ends}
use Rattle.frame.specs.declared.Pair.{Pair}
use Rattle.sweep_model.specs.Meets.{last_of, spans_meet, overlaps_of}
use Rattle.sweep_ray.specs.Steps.{some_above}

above-cons : (lo hi x : Float) (l : List Float) → some_above (lo ∷ hi ∷ l) x ≡ (lt x hi || some_above l x)
unfolding some_above
above-cons lo hi x l = refl

above-nil : (x : Float) → some_above [] x ≡ false
unfolding some_above
above-nil x = refl

or-first : (a b : Bool) → a ≡ true → (a || b) ≡ true
or-first a b h = ap (λ (z : Bool). z || b) h

or-second : (a b : Bool) → a ≡ false → (a || b) ≡ b
or-second a b h = ap (λ (z : Bool). z || b) h

overlaps-cons : (lo hi : Float) (s : Pair) (l : List Float)
    → overlaps_of (lo ∷ hi ∷ l) s ≡ (lt (larger_of lo s.lo) (smaller_of hi s.hi) || (lt hi s.hi && overlaps_of l s))
unfolding overlaps_of
overlaps-cons lo hi s l = refl

overlaps-nil : (s : Pair) → overlaps_of [] s ≡ false
unfolding overlaps_of
overlaps-nil s = refl

and_first : (a b : Bool) → a ≡ false → (a && b) ≡ false
and_first a b h = ap (λ (z : Bool). z && b) h

and_second : (a b : Bool) → a ≡ true → (a && b) ≡ b
and_second a b h = ap (λ (z : Bool). z && b) h

module _ {n : ℕ} {spans : List Float} {links : List ℕ} {k : ℕ} (x : Float) where
  pub above-here : Step n spans links k → lt x (hi_at spans (k - 1)) ≡ true → some_above (list_from n spans links k) x ≡ true
  above-here s h = ap (λ (l : List Float). some_above l x) s.read ∙ above-cons _ _ x _ ∙ or-first _ _ h

  pub above-later : Step n spans links k → lt x (hi_at spans (k - 1)) ≡ false
      → some_above (list_from n spans links k) x ≡ some_above (list_from n spans links (next_at links (k - 1))) x
  above-later s h = ap (λ (l : List Float). some_above l x) s.read ∙ above-cons _ _ x _ ∙ or-second _ _ h

pub above-none : (n : ℕ) (spans : List Float) (links : List ℕ) (k : ℕ) (x : Float) → k ≡ 0
    → some_above (list_from n spans links k) x ≡ false
above-none n spans links k x e = ap (λ (l : List Float). some_above l x) (no-ends n spans links k e) ∙ above-nil x

module _ {n : ℕ} {spans : List Float} {links : List ℕ} {k : ℕ} (s : Pair) where
  pub overlaps-here : Step n spans links k
      → lt (larger_of (lo_at spans (k - 1)) s.lo) (smaller_of (hi_at spans (k - 1)) s.hi) ≡ true
      → overlaps_of (list_from n spans links k) s ≡ true
  overlaps-here t h = ap (λ (l : List Float). overlaps_of l s) t.read ∙ overlaps-cons _ _ s _ ∙ or-first _ _ h

  pub overlaps-no : Step n spans links k
      → lt (larger_of (lo_at spans (k - 1)) s.lo) (smaller_of (hi_at spans (k - 1)) s.hi) ≡ false
      → lt (hi_at spans (k - 1)) s.hi ≡ false → overlaps_of (list_from n spans links k) s ≡ false
  overlaps-no t h j = ap (λ (l : List Float). overlaps_of l s) t.read ∙ overlaps-cons _ _ s _ ∙ or-second _ _ h ∙ and_first _ _ j

  pub overlaps-later : Step n spans links k
      → lt (larger_of (lo_at spans (k - 1)) s.lo) (smaller_of (hi_at spans (k - 1)) s.hi) ≡ false
      → lt (hi_at spans (k - 1)) s.hi ≡ true
      → overlaps_of (list_from n spans links k) s ≡ overlaps_of (list_from n spans links (next_at links (k - 1))) s
  overlaps-later t h j = ap (λ (l : List Float). overlaps_of l s) t.read ∙ overlaps-cons _ _ s _ ∙ or-second _ _ h ∙ and_second _ _ j

pub overlaps-none : (n : ℕ) (spans : List Float) (links : List ℕ) (k : ℕ) (s : Pair) → k ≡ 0
    → overlaps_of (list_from n spans links k) s ≡ false
overlaps-none n spans links k s e = ap (λ (l : List Float). overlaps_of l s) (no-ends n spans links k e) ∙ overlaps-nil s

-- in a rising list the last end is above all that one of its ends is above
pub last-above : (x y : Float) (l : List Float) → rising (y ∷ l) ≡ true → lt x y ≡ true → lt x (last_of y l) ≡ true
unfolding last_of rising
last-above x y [] r h = h
last-above x y (z ∷ l) r h = last-above x z l (and_right (lt y z) (rising (z ∷ l)) r)
    (lt_trans x y z h (and_left (lt y z) (rising (z ∷ l)) r))

or-false : (a : Bool) → (a || false) ≡ a
or-false true = refl
or-false false = refl

absorbed : (a b : Bool) → (a ≡ true → b ≡ true) → (a || b) ≡ b
absorbed true b f = sym (f refl)
absorbed false b f = refl

module _ (spans : List Float) (x : Float) where
  ends_above : (i : ℕ) (ps : List ℕ) → rising (ends_at spans (i ∷ ps)) ≡ true
      → some_above (ends_at spans (i ∷ ps)) x ≡ lt x (last_of (lo_at spans i) (hi_at spans i ∷ ends_at spans ps))
  unfolding ends_at some_above last_of rising
  ends_above i [] r = or-false (lt x (hi_at spans i))
  ends_above i (j ∷ ps) r =
      let t = and_right (lt (lo_at spans i) (hi_at spans i)) _ r in
      ap (λ (b : Bool). lt x (hi_at spans i) || b) (ends_above j ps (and_right (lt (hi_at spans i) (lo_at spans j)) _ t))
      ∙ absorbed (lt x (hi_at spans i)) (lt x (last_of (hi_at spans j) (ends_at spans ps)))
      (last-above x (hi_at spans i) (lo_at spans j ∷ hi_at spans j ∷ ends_at spans ps) t)

meet-cons : (i : ℕ) (ps : List ℕ) (spans : List Float) (s : Pair)
    → spans_meet (ends_at spans (i ∷ ps)) s
    ≡ (lt (lo_at spans i) s.hi && lt s.lo (last_of (lo_at spans i) (hi_at spans i ∷ ends_at spans ps)))
unfolding ends_at spans_meet
meet-cons i ps spans s = refl

meet-nil : (s : Pair) → spans_meet [] s ≡ false
unfolding spans_meet
meet-nil s = refl

pub meet-empty : (n : ℕ) (spans : List Float) (links : List ℕ) (k : ℕ) (s : Pair) → k ≡ 0
    → spans_meet (list_from n spans links k) s ≡ false
meet-empty n spans links k s e = ap (λ (l : List Float). spans_meet l s) (no-ends n spans links k e) ∙ meet-nil s

module _ {n : ℕ} {spans : List Float} {links : List ℕ} {k : ℕ} (s : Pair) where
  pub meet-above : Readable n spans links k → (k ≡ 0 → ⊥) → lt (lo_at spans (k - 1)) s.hi ≡ false
      → spans_meet (list_from n spans links k) s ≡ false
  meet-above r ne h =
      let more = (link-step r.linked ne).read in
      ap (λ (ps : List ℕ). spans_meet (ends_at spans ps) s) more ∙ meet-cons (k - 1) _ spans s ∙ and_first _ _ h

  pub meet-some : Readable n spans links k → (k ≡ 0 → ⊥) → sound (list_from n spans links k) ≡ true
      → lt (lo_at spans (k - 1)) s.hi ≡ true
      → spans_meet (list_from n spans links k) s ≡ some_above (list_from n spans links k) s.lo
  meet-some r ne so h =
      let more = (link-step r.linked ne).read in
      let ri = ap (λ (ps : List ℕ). rising (ends_at spans ps)) (sym more) ∙ sound-rising _ so in
      ap (λ (ps : List ℕ). spans_meet (ends_at spans ps) s) more ∙ meet-cons (k - 1) _ spans s ∙ and_second _ _ h
      ∙ sym (ends_above spans s.lo (k - 1) _ ri) ∙ ap (λ (ps : List ℕ). some_above (ends_at spans ps) s.lo) (sym more)
