-- `span_combine::subtract` meets its contract.
use Rattle.span_overlay.proofs.Less.{less-list}
use Rattle.span_combine.proofs.Answers.{checked-lists, filled-fits, accept-filled}
use Rattle.span_combine.proofs.subtract.Goals as goal

pub subtract_into-n-requires : goal.subtract_into-n-requires
subtract_into-n-requires c = checked-lists c.args.a.now c.args.b.now c.args.out.now c.in_ok-checked.ensures

pub clear_from-requires : goal.clear_from-requires
clear_from-requires c = filled-fits c.args.a.now c.args.b.now c.args.out.now c.in_ok-checked.ensures _ _ _ c.subtract_into-n.ensures

pub returns : goal.returns
returns c =
    accept-filled c.args.a.now c.args.b.now c.args.out.now c.in_ok-checked.ensures _ _ _
    c.subtract_into-n.ensures _ (less-list c.args.a.now c.args.b.now) _ c.clear_from.ensures
