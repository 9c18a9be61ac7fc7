-- `change_list::head` meets its contract.
use Rattle.change_list.specs.Changes.{head_at}
use mathlib.Core.Path.{refl}
use Rattle.change_list.proofs.head.Goals as goal

pub returns : goal.returns
unfolding head_at
returns c = refl
