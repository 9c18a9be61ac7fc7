-- The loop's invariant: of the hit's points those are taken that lie before `from`. The measure falls with each record, and where the walk
-- comes to the hit's end.
use Rattle.std.proofs.Common.{◌≡◌, Bool, true, List}
use lib.Ieee.{Float, lt}
use Rattle.store_read.specs.Reading.{Readable}
use Rattle.log_left.specs.ListLeft.{ListWalked}
use Rattle.log_left.proofs.Walking.{Taking, to_take}
use Rattle.log_left.proofs.take.Given as goal

abbrev pub invariant-loop-t : goal.invariant-loop-t
invariant-loop-t v = Readable v.n v.spans v.links v.t.at
    × ((l : List Float) (s : Float → Bool) → lt v.lo v.hi ≡ true → ListWalked v.n v.spans v.links l s v.lo v.initial.t
    → Taking v.n v.spans v.links l s v.lo v.hi v.t)

abbrev pub decreases-loop-t : goal.decreases-loop-t
decreases-loop-t v = to_take v.n v.links v.hi v.t
