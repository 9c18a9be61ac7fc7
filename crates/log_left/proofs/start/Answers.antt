-- Nothing is decided yet.
use Rattle.log_left.proofs.Walking.{begins}
use Rattle.log_left.proofs.start.Goals as goal

pub returns : goal.returns
returns c =
    begins c.args.head c.begin.result c.requires c.begin.ensures
