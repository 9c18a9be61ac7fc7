-- `change_list::check_removal_at` meets its contract: the parts of the pairs that are lent are the four lists.
use Prim.Native.Nat.{◌+◌, ◌*◌}
use Rattle.store.proofs.Laying.{part-is}
use Rattle.change_list.proofs.ChangeTests.{allowed-parts}
use Rattle.store.specs.Store.{cells}
use Rattle.change_list.proofs.check_removal_at.Goals as goal

pub returns : goal.returns
returns c =
    let s = cells c.args.spans.now c.args.links.now c.args.heads.now in
    let w = c.args.pairs.now in
    allowed-parts c.args.spec c.args.g s c.args.ray c.check_removal.result _ _ _ _ _ _ _ _
    (part-is w c.args.at c.args.bp) (part-is w (c.args.at + 2 * c.args.bp) c.args.bc)
    (part-is w (c.args.at + 2 * c.args.bp + 2 * c.args.bc) c.args.ap)
    (part-is w (c.args.at + 2 * c.args.bp + 2 * c.args.bc + 2 * c.args.ap) c.args.ac) c.check_removal.ensures
