-- `log_count::take_part` meets its contract.
use mathlib.Core.Path.{sym}
use mathlib.Core.Bool.{true, false}
use lib.Seq.{length-take-le}
use Rattle.log_gather.proofs.Entries.{same_shape}
use Rattle.log_count.proofs.Parts.{part-taken}
use Rattle.log_count.proofs.take_part.Goals as goal

pub slice_bounds-take_hits-end-2 : goal.slice_bounds-take_hits-end-2
slice_bounds-take_hits-end-2 c = sym (length-take-le _ _ c.gather_ray-w.ensures.1.in_log.room)

pub take_hits-possible-requires : goal.take_hits-possible-requires
take_hits-possible-requires c =
    let pre = c.requires in
    (pre.readable false, pre.shaped, pre.some)

pub slice_bounds-take_hits-end-4 : goal.slice_bounds-take_hits-end-4
slice_bounds-take_hits-end-4 c =
    sym (length-take-le _ _ c.gather_ray-w.ensures.1.in_log.room)

pub take_hits-certain-requires : goal.take_hits-certain-requires
take_hits-certain-requires c =
    let pre = c.requires in
    (pre.readable true, same_shape _ _ c.take_hits-possible.ensures.size pre.shaped, pre.some)

pub returns : goal.returns
returns c =
    let gathers = c.gather_ray-w.ensures in
    part-taken c.args.from c.requires.named gathers.1 gathers.0 c.take_hits-possible.ensures
    (rw c.higher-both.ensures at c.take_hits-certain.ensures)
