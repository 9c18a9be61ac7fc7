-- The loop's invariant: the pairs that were closed end at or before lo. The measure is what is left of the chain.
use Rattle.std.proofs.Common.{◌≡◌, Bool, true, List, length}
use lib.Ieee.{Float, le}
use Rattle.store.specs.Store.{places}
use Rattle.store_read.specs.Reading.{Readable}
use Rattle.log_left.specs.ListLeft.{ListWalked}
use Rattle.log_left.proofs.pass.Given as goal

abbrev pub invariant-loop-t : goal.invariant-loop-t
invariant-loop-t v = Readable v.n v.spans v.links v.t.at
    × ((l : List Float) (s : Float → Bool) (last : Float) → le last v.lo ≡ true → ListWalked v.n v.spans v.links l s last v.initial.t
    → ListWalked v.n v.spans v.links l s v.lo v.t)

abbrev pub decreases-loop-t : goal.decreases-loop-t
decreases-loop-t v = length (places v.links v.n v.t.at)
