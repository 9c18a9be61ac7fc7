-- The loop goes from stretch to stretch. What is gathered is made a sound list and taken, and each stretch but the last leaves fewer pairs
-- that begin past it.
use lib.ListN.{length}
use Rattle.log_keys.specs.Keys.{hits_to, pairs_past}
use Rattle.log_stretches.proofs.Stretching.{StretchLoop}
use Rattle.log_stretches.proofs.take_hits.Given as goal

abbrev pub invariant-loop-h : goal.invariant-loop-h
invariant-loop-h l =
    StretchLoop l.n l.spans l.links l.b l.u l.front (hits_to l.log l.keys l.certain (length l.keys))
    l.initial.cells l.initial.t l.cells l.low l.t

abbrev pub decreases-loop-h : goal.decreases-loop-h
decreases-loop-h l =
    length (pairs_past l.low (hits_to l.log l.keys l.certain (length l.keys)))
