-- `log_count::count_list` meets its contract: all points lie between the infinities, so that the one stretch between them is the
-- whole list.
use borrow.Author.Rules.{rules}
use Rattle.log_keys.specs.Keys.{top}
use Rattle.log_count.proofs.AllTaken.{all-walked}
use Rattle.log_count.proofs.count_list.Goals as goal

pub returns : goal.returns
returns c =
    record {
      size = search rules;
      counted = λ hits s e.
          c.end_list.ensures hits top s (all-walked hits c.start-r.ensures c.take_hits-t.ensures s e);
    }
