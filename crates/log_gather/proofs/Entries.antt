-- The hits of one entry more, and so of one key more.
use mathlib.Core.Path.{◌≡◌, refl, ◌∙◌}
use mathlib.Core.Logic.{inl}
use mathlib.Core.Bool.{Bool, false≢true}
use mathlib.Core.List.{List}
use Prim.Native.Nat.{ℕ, ◌+◌, ◌%◌}
use native.Mathlib.Omega.{arith}
use native.Mathlib.Numerals.{add-one}
use lib.ListN.{length, get_or}
use lib.Ieee.{Float, lt, le}
use Rattle.spans.specs.Spans.{holds}
use Rattle.logic.proofs.Bools.{and_right}
use Rattle.log_model.specs.Logs.{entry_at, entry_count}
use Rattle.log_keys.specs.Keys.{entry_of_key, hits_to}
use Rattle.log_gather.specs.declared.HeldHits.{HeldHits}
use Rattle.log_gather.specs.Gathering.{Shaped, MoreGathered, PutEntryPost, GatherPost}

-- hits put one after the other
pub puts-both : {b : Float} {first second : List Float → List Float} {before mid after : List Float} {h w r : HeldHits}
    → MoreGathered b first before h mid w → MoreGathered b second mid w after r
    → MoreGathered b (λ hits. second (first hits)) before h after r
puts-both p q = record {
  size = q.size ∙ p.size;
  roomy = q.roomy;
  gathers = λ u f hits g. q.gathers u f _ (p.gathers u f hits g);
}

-- ---- the keys one after the other
module _ (b u f : Float) (log : List Float) (keys : List ℕ) (certain : Bool) (before : List Float) where
  pub gathered_none : GatherPost b u f (hits_to log keys certain 0) before before (record { count = 0; end = u; front = f })
  unfolding hits_to holds
  gathered_none = record {
    size = refl;
    gathers = record {
      roomy = record { room = omega arith; whole = refl };
      higher = λ x k. k;
      fronts = λ x w. inl (and_right (le b x) (lt x f) w);
      past = λ x k. absurd (false≢true k);
      all = λ x w k. absurd (false≢true k);
      ends = inl refl;
    };
  }

  pub gathered-more : (i : ℕ) (cells after : List Float) (h r : HeldHits) → GatherPost b u f (hits_to log keys certain i) before cells h
      → PutEntryPost b (entry_at log (get_or keys i 0 % entry_count log)) certain cells h after r
      → GatherPost b u f (hits_to log keys certain (i + 1)) before after r
  unfolding hits_to entry_of_key
  gathered-more i cells after h r s p = record {
    size = p.size ∙ s.size;
    gathers = rw (add-one i) (p.gathers u f (hits_to log keys certain i) s.gathers);
  }

pub same_shape : (before after : List Float) → length after ≡ length before → Shaped before → Shaped after
same_shape before after e s = record { quarters = rw e s.quarters; least = rw e s.least }
