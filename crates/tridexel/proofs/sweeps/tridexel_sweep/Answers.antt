-- `tridexel::sweeps::tridexel_sweep` meets its contract.
use borrow.Author.Rules.{rules}
use Rattle.c_results.proofs.SweepResults.{sweep-answered}
use Rattle.store.specs.Store.{cells}
use Rattle.tridexel.proofs.sweeps.tridexel_sweep.Goals as goal

pub returns : goal.returns
returns c =
    sweep-answered c.args.spec c.args.units.now
    (cells c.args.spans.now c.args.links.now c.args.heads.now) c.args.intervals
    c.args.cutter c.args.guard c.args.chords.now c.args.budget c.args.log.now _
    c.axis_of-a.result _
    c.shape_of-shape.result _
    c.sweep-s.result _ _ _
    c.axis_of-a.ensures
    c.shape_of-shape.ensures
    c.sweep-s.ensures c.hand_sweep.ensures
