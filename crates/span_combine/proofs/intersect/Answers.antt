-- `span_combine::intersect` meets its contract.
use Rattle.span_overlay.proofs.Shared.{common-list}
use Rattle.span_combine.proofs.Answers.{checked-lists, filled-fits, accept-filled}
use Rattle.span_combine.proofs.intersect.Goals as goal

pub intersect_into-n-requires : goal.intersect_into-n-requires
intersect_into-n-requires c = checked-lists c.args.a.now c.args.b.now c.args.out.now c.in_ok-checked.ensures

pub clear_from-requires : goal.clear_from-requires
clear_from-requires c = filled-fits c.args.a.now c.args.b.now c.args.out.now c.in_ok-checked.ensures _ _ _ c.intersect_into-n.ensures

pub returns : goal.returns
returns c =
    accept-filled c.args.a.now c.args.b.now c.args.out.now c.in_ok-checked.ensures _ _ _
    c.intersect_into-n.ensures _ (common-list c.args.a.now c.args.b.now) _ c.clear_from.ensures
