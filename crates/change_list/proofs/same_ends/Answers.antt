-- `change_list::same_ends` meets its contract.
use Rattle.std.proofs.Common.{sym, ◌∙◌}
use Rattle.change_list.proofs.Lists.{equal-pointwise}
use Rattle.change_list.proofs.same_ends.Goals as goal

pub returns : goal.returns
returns c = c.eq.ensures ∙ sym (equal-pointwise c.args.a.now c.args.b.now)
