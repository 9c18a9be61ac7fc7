-- What a reason means: that exactly one is true, which memberships go with each, and that the entry it names took the place.
use Rattle.std.specs.Prelude.{◌≡◌, Bool, true, false, cond, List, [], ◌∷◌, ℕ, zero, suc, take, Float}
use Rattle.spans.specs.Spans.{holds, set_minus}
use Rattle.ray_subtract.specs.Subtract.{either_hit}
use Rattle.grid.specs.declared.DexelGrid.{DexelGrid}
use Rattle.log_model.specs.Logs.{outer, inner, names_ray}
use Rattle.log_model.specs.declared.Entry.{Entry}
use Rattle.ray_trace.specs.Reasons.{hit_pairs, TrueReason}
use Rattle.ray_trace.specs.declared.Reason.{Reason}
use Rattle.ray_trace.specs.declared.Reason.TheVariants.{NotPossible, RemovedBy, UncertainBy, NotCertain, StillCertain}

-- exactly one reason is true of the place, its entry's number included
pub record OneReason (possible certain : List Float) (es : List Entry) (p : Float) : Type 0 where
  pub reason : Reason
  pub reason_true : TrueReason possible certain es p reason
  pub no_other : (r : Reason) → TrueReason possible certain es p r → r ≡ reason

-- whether a place is in possible before and after the entries are merged, and in certain before and after
pub record Membership : Type 0 where
  pub possible_before : Bool
  pub possible_after : Bool
  pub certain_before : Bool
  pub certain_after : Bool

abbrev pub membership : (possible_before possible_after certain_before certain_after : Bool) → Membership
membership a b c d = record { possible_before = a; possible_after = b; certain_before = c; certain_after = d }

-- possible loses the points of the inner pairs, certain those of the outer and the inner ones
abbrev pub membership_of : (possible certain : List Float) → List Entry → Float → Membership
membership_of possible certain es p =
    membership (holds possible p) (set_minus (holds possible) (holds (hit_pairs inner es)) p)
    (holds certain p) (set_minus (holds certain) (either_hit (hit_pairs outer es) (hit_pairs inner es)) p)

-- the four memberships that go with each reason; what is removed may have been certain or not
abbrev pub SetsOfReason : Reason → Membership → Type 0
SetsOfReason NotPossible m = m ≡ membership false false false false
SetsOfReason (RemovedBy k) m = (certain : Bool) × (m ≡ membership true false certain false)
SetsOfReason (UncertainBy k) m = m ≡ membership true true true false
SetsOfReason NotCertain m = m ≡ membership true true false false
SetsOfReason StillCertain m = m ≡ membership true true true true

-- The entry that a reason names, counted from 1, is the one that took the place: the place is there after the entries before it, and no
-- longer after it.
abbrev pub TakenBy : Reason → (possible certain : List Float) → List Entry → Float → Type 0
TakenBy NotPossible possible certain es p = Unit {0}
TakenBy (RemovedBy zero) possible certain es p = ⊥
TakenBy (RemovedBy (suc k)) possible certain es p =
    ((membership_of possible certain (take k es) p).possible_after ≡ true)
    × ((membership_of possible certain (take (suc k) es) p).possible_after ≡ false)
TakenBy (UncertainBy zero) possible certain es p = ⊥
TakenBy (UncertainBy (suc k)) possible certain es p =
    ((membership_of possible certain (take k es) p).certain_after ≡ true)
    × ((membership_of possible certain (take (suc k) es) p).certain_after ≡ false)
TakenBy NotCertain possible certain es p = Unit {0}
TakenBy StillCertain possible certain es p = Unit {0}

-- two point sets are those of possible and certain after the entries are merged, as `membership_of` has them
pub record PointsLeft (possible certain : List Float) (es : List Entry) (possible-left certain-left : Float → Bool) : Type 0 where
  pub possible_is : (p : Float) → possible-left p ≡ (membership_of possible certain es p).possible_after
  pub certain_is : (p : Float) → certain-left p ≡ (membership_of possible certain es p).certain_after

-- the entries of a whole log that name the ray, in their order
unfoldable pub entries_on_ray : DexelGrid → List Entry → (ray : ℕ) → List Entry
unfolding names_ray
entries_on_ray g [] ray = []
entries_on_ray g (e ∷ es) ray = cond (names_ray g e ray) (e ∷ entries_on_ray g es ray) (entries_on_ray g es ray)
