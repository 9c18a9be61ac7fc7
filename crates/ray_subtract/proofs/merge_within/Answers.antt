-- `ray_subtract::merge_within` meets its contract.
use Rattle.ray_subtract.proofs.Sparing.{both-lie, merging}
use Rattle.ray_subtract.proofs.merge_within.Goals as goal

pub take_both-certain-requires : goal.take_both-certain-requires
take_both-certain-requires c =
    both-lie c.requires c.take_inner-possible.ensures c.cells-used.ensures

pub returns : goal.returns
returns c =
    merging c.requires c.take_inner-possible.ensures c.cells-used.ensures c.take_both-certain.ensures
