-- `ray_subtract::subtract_both` meets its contract.
use Rattle.ray_subtract.proofs.Sparing.{second-lies, both-written}
use Rattle.ray_subtract.proofs.subtract_both.Goals as goal

pub subtract_to-requires : goal.subtract_to-requires
subtract_to-requires c =
    second-lies c.args.to c.requires.0 c.requires.1 c.requires.2 c.requires.3 c.requires.4 c.subtract_to-m.ensures

pub returns : goal.returns
returns c =
    both-written c.args.to c.requires.0 c.requires.1 c.requires.2 c.requires.3 c.requires.4 c.subtract_to-m.ensures
    c.subtract_to.ensures
