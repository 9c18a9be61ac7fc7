-- The loop keeps that the hits of the keys passed are gathered.
use Rattle.log_keys.specs.Keys.{hits_to}
use Rattle.log_gather.specs.Gathering.{GatherPost}
use Rattle.log_gather.proofs.gather.Given as goal

abbrev pub invariant-loop-key : goal.invariant-loop-key
invariant-loop-key l = GatherPost l.b l.u l.front (hits_to l.log l.keys l.certain l.key-index) l.initial.cells l.cells l.h
