-- A list before any hit is taken from it, and when all are.
use mathlib.Core.Path.{◌≡◌, sym, ap, ◌∙◌}
use mathlib.Core.Bool.{Bool, true, false, not, ◌&&◌, false≢true}
use mathlib.Core.List.{List}
use mathlib.Core.Logic.{inr}
use Prim.Native.Nat.{ℕ}
use lib.Ieee.{Float, lt, le, neg}
use Rattle.logic.proofs.Bools.{and-true, and_right, same_if, clash}
use Rattle.spans.specs.Spans.{holds, sound, less}
use Rattle.log_keys.specs.Keys.{top, Stretch}
use Rattle.log_keys.proofs.Infinity.{none_below, bottom-top, held_below}
use Rattle.log_left.specs.ListLeft.{ListWalked}
use Rattle.log_left.specs.declared.Rest.{Rest}
use Rattle.log_left.specs.Steps.{StartPost}
use Rattle.log_left.proofs.Walking.{walked_same}
use Rattle.log_stretches.specs.Stretches.{Taken, TakeHitsPost}
use Rattle.store.specs.Store.{list_from}

module _ {n : ℕ} {spans : List Float} {links : List ℕ} where
  -- below minus infinity there is nothing to take
  pub taken_none : {head : ℕ} {r : Rest} (f : Float → Bool) → sound (list_from n spans links head) ≡ true → StartPost n spans links head r
      → Taken n spans links (list_from n spans links head) f (neg top) r
  taken_none {head} f s begun = record {
    gone = λ p. false;
    walked = walked_same (λ p. sym (and-true (holds (list_from n spans links head) p))) (begun.walked s (neg top));
    only = λ p h. absurd (false≢true h);
    all = λ p h k. absurd (clash (lt p (neg top)) h (none_below p));
  }

  -- below plus infinity all is taken
  pub taken-all : {l : List Float} {r : Rest} (hits : List Float) → Taken n spans links l (holds hits) top r
      → ListWalked n spans links l (less l hits) top r
  taken-all {l} hits t = walked_same (λ p. ap (λ (b : Bool). holds l p && not b)
      (same_if (t.gone p) (holds hits p) (t.only p) (λ h. t.all p (held_below hits p h) h))) t.walked

  -- all points lie between the infinities, where no hit reaches in from before, so that taking them from the start takes all
  pub all-walked : {head : ℕ} {given before after : List Float} {r t : Rest} (hits : List Float)
      → StartPost n spans links head r → TakeHitsPost n spans links (neg top) top (neg top) given before after r t
      → sound (list_from n spans links head) ≡ true → ((x : Float) → holds given x ≡ holds hits x)
      → ListWalked n spans links (list_from n spans links head) (less (list_from n spans links head) hits) top t
  all-walked {given = given} hits begun takes s e =
      taken-all hits (takes.taken _ (holds hits) bottom-top everywhere (taken_none (holds hits) s begun))
    where
      everywhere : Stretch (neg top) top (neg top) given (holds hits)
      everywhere = record {
        only_front = λ x h. absurd (clash _ (and_right (le (neg top) x) (lt x (neg top)) h) (none_below x));
        only_pairs = λ x h. sym (e x) ∙ h;
        all = λ x h k. inr (e x ∙ k);
      }
